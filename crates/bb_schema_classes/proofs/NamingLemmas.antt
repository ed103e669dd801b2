-- A list of names with one more.
use Rattle.std.proofs.Common.{◌≡◌, ℕ, ◌<◌, Bool, true, false, not, List, [], ◌∷◌, ◌++◌, length, refl, arith, length-append}
use Rattle.std.specs.Prelude.{All, nat_le, nat_eq}
use Rattle.std.specs.List.{list_any, IsDistinct}
use Rattle.std.specs.Str.{bytes_eq}
use Rattle.std.proofs.lemmas.Cmp.{nat_eq_equiv, nat_list_eq_equiv}
use Rattle.std.proofs.lemmas.Bool.{leb-false, eqb-true}
use Rattle.std.proofs.lemmas.List.Elements.{All-nil, All-push, All-head, All-tail}
use Rattle.std.proofs.lemmas.Map.Keys.{IsDistinct-push, IsDistinct-from_apart}
use Rattle.bb_basis.specs.Names.{is_name}
use Rattle.bb_schema_classes.specs.Naming.{AreNames}

pub not_false : (b : Bool) → not b ≡ false → b ≡ true
not_false true h = refl
not_false false h = absurd cc

pub distinct_nil : {K : Type 0} (e : K → K → Bool) → IsDistinct e []
distinct_nil e = IsDistinct-from_apart e [] (λ i j d lt within. absurd (omega (arith, within)))

pub no_names : (limit : ℕ) → AreNames limit []
no_names limit = record { few = omega arith; names = All-nil (λ t. is_name t ≡ true); distinct = distinct_nil bytes_eq }

pub one_more_name : (limit : ℕ) (texts : List (List ℕ)) (t : List ℕ) → AreNames limit texts → not (is_name t) ≡ false
    → list_any (bytes_eq t) texts ≡ false → nat_le limit (length texts) ≡ false → AreNames limit (texts ++ t ∷ [])
one_more_name limit texts t are named fresh room = record {
  few = omega (arith, length-append texts (t ∷ []), leb-false limit (length texts) room);
  names = All-push (λ t. is_name t ≡ true) texts t are.names (not_false (is_name t) named);
  distinct = IsDistinct-push nat_list_eq_equiv texts t are.distinct fresh;
}

-- a number that is above all of a list is not among them
differs : (n m : ℕ) (b : Bool) → nat_eq n m ≡ b → m < n → b ≡ false
differs n m true h lt = absurd (omega (arith, eqb-true n m h, lt))
differs n m false h lt = refl

pub is_above : (n : ℕ) (xs : List ℕ) → All (λ m. m < n) xs → list_any (nat_eq n) xs ≡ false
is_above n [] all = refl
is_above n (m ∷ ms) all = rw (differs n m (nat_eq n m) refl (All-head (λ m. m < n) m ms all)) (is_above n ms (All-tail (λ m. m < n) m ms all))

pub one_more_number : (n : ℕ) (xs : List ℕ) → IsDistinct nat_eq xs → All (λ m. m < n) xs
    → IsDistinct nat_eq (xs ++ n ∷ [])
one_more_number n xs distinct below = IsDistinct-push nat_eq_equiv xs n distinct (is_above n xs below)
