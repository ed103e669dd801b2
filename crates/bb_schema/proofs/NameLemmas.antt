-- A text that is longer than any name is none of some names.
use Rattle.std.proofs.Common.{◌≡◌, ℕ, ◌<◌, Bool, true, false, ◌&&◌, List, length, None, refl, ap, ◌∙◌, arith}
use Rattle.std.specs.Prelude.{IsTrue, nat_le, position}
use Rattle.std.specs.List.{list_all}
use Rattle.std.specs.Str.{bytes_eq}
use Rattle.std.specs.Cmp.Lexicographic.{bytes_decides}
use Rattle.std.proofs.lemmas.Bool.{leb-true}
use Rattle.bb_basis.proofs.BoolLemmas.{and_second}
use Rattle.std.proofs.lemmas.List.Elements.{All-weaker}
use Rattle.std.proofs.lemmas.List.Folds.{list_any_none}
use Rattle.bb_basis.specs.Names.{is_name, is_name_byte, starts_with_letter}
use Rattle.bb_basis.proofs.PositionLemmas.{position_spot, none_spot}
use Rattle.bb_schema_classes.specs.Naming.{AreNames}

not_short : (name t : List ℕ) → 31 < length name → IsTrue (nat_le (length t) 31) → (b : Bool) → bytes_eq name t ≡ b → b ≡ false
not_short name t long short true same =
    let is = ap length ((bytes_decides name t).0 same) in
    let few = leb-true (length t) 31 short in
    absurd (omega (arith, long, is, few))
not_short name t long short false other = refl

differs : (name t : List ℕ) → 31 < length name → IsTrue (is_name t) → bytes_eq name t ≡ false
unfolding is_name
differs name t long named = not_short name t long (and_second (starts_with_letter t && list_all is_name_byte t) (nat_le (length t) 31) named) (bytes_eq name t) refl

pub no_long_name : (limit : ℕ) (texts : List (List ℕ)) (name : List ℕ) → AreNames limit texts → 31 < length name → position (bytes_eq name) texts ≡ None
no_long_name limit texts name names long =
    position_spot (bytes_eq name) texts ∙ none_spot (bytes_eq name) texts
    (list_any_none (bytes_eq name) texts (All-weaker (λ t. IsTrue (is_name t)) (λ t. bytes_eq name t ≡ false) (λ t h. differs name t long h) texts names.names))
