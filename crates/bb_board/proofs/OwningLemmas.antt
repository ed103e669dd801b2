-- Where no slot of a schema owns.
use Rattle.std.proofs.Common.{◌≡◌, ℕ, zero, suc, Bool, false, List, [], ◌∷◌, Option, Some, None, refl, ◌∙◌}
use Rattle.std.specs.Prelude.{slice_get, option_and_then}
use Rattle.std.specs.List.{list_any}
use Rattle.std.specs.Option.{option_map_or}
use Rattle.std.proofs.lemmas.Bool.{or_parts}
use Rattle.bb_schema.specs.declared.slot.Slot.{Slot}
use Rattle.bb_schema.specs.Schema.{Schema}
use Rattle.bb_schema.specs.Slots.{link_in}
use Rattle.bb_schema.specs.Ownership.{owns, owns_any}
use Rattle.bb_schema.specs.Heirs.{is_owning}

none_passes : {X : Type 0} (test : X → Bool) (xs : List X) (i : ℕ) → list_any test xs ≡ false → option_map_or test (slice_get xs i) false ≡ false
none_passes test [] i none = refl
none_passes test (x ∷ xs) zero none = (or_parts (test x) (list_any test xs) none).0
none_passes test (x ∷ xs) (suc i) none = none_passes test xs i (or_parts (test x) (list_any test xs) none).1

owns_by : (o : Option Slot) → option_map_or (λ l. l.owns) (option_and_then (λ t. link_in t.content) o) false ≡ option_map_or is_owning o false
owns_by None = refl
owns_by (Some t) = refl

pub owns_at : (s : Schema) (slot : ℕ) → owns s slot ≡ option_map_or is_owning (slice_get s.slots slot) false
owns_at s slot = owns_by (slice_get s.slots slot)

pub none_owns : (s : Schema) → owns_any s ≡ false → (slot : ℕ) → owns s slot ≡ false
none_owns s none slot = owns_at s slot ∙ none_passes is_owning s.slots slot none
