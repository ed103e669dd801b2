-- The pending activation of a number, after each change.
use Rattle.std.proofs.Common.{◌≡◌, ℕ, zero, suc, ℤ, Bool, true, false, not, cond, ◌==◌, List, [], ◌∷◌, map, filter, find, Some, None, refl, sym, ap, ◌∙◌, arith, eqb-true, eq-eqb, ne_eqb}
use Rattle.std.specs.Prelude.{Contains, option_map}
use Rattle.bb_agenda.specs.declared.focusing.activation.Activation.{Activation}
use Rattle.bb_agenda.specs.Agenda.{Agenda, number_of, has_number, is_of, is_on, pending_of, pending_for, pending_on, pending_at}
use Rattle.bb_agenda.specs.Changes.{other_than, rebased}
use Rattle.bb_agenda.specs.Fits.{Fits}
use Rattle.bb_agenda.proofs.RisingLemmas.{found_contained}

-- ---- among others

gone_at : (number : ℕ) (a : Activation) (rest : List Activation) (t : Bool) → has_number number a ≡ t → find (has_number number) rest ≡ None → find (has_number number) (cond (not t) (a ∷ rest) rest) ≡ None
gone_at number a rest true is none = none
gone_at number a rest false is none = ap (λ b. cond b (Some a) (find (has_number number) rest)) is ∙ none

pub not_found_less : (number : ℕ) (kept : List Activation) → find (has_number number) (filter (other_than number) kept) ≡ None
not_found_less number [] = refl
not_found_less number (a ∷ kept) = gone_at number a (filter (other_than number) kept) (has_number number a) refl (not_found_less number kept)

-- another number is found as before
pub found_less : (number n : ℕ) (kept : List Activation) → (n == number) ≡ false → find (has_number n) (filter (other_than number) kept) ≡ find (has_number n) kept
found_less number n [] other = refl
found_less number n (a ∷ kept) other = at (has_number number a) refl (found_less number n kept other)
  where
    at : (t : Bool) → has_number number a ≡ t → find (has_number n) (filter (other_than number) kept) ≡ find (has_number n) kept
        → find (has_number n) (cond (not t) (a ∷ filter (other_than number) kept) (filter (other_than number) kept)) ≡ find (has_number n) (a ∷ kept)
    at true is later =
        let differs : has_number n a ≡ false = ap (λ m. m == n) (eqb-true a.number number is) ∙ ne_eqb number n (λ same. let e : (n == number) ≡ true = eq-eqb n number (sym same) in absurd cc) in
        later ∙ sym (ap (λ b. cond b (Some a) (find (has_number n) kept)) differs)
    at false is later = ap (λ o. cond (has_number n a) (Some a) o) later

pub found_rebased : (number n : ℕ) (base : ℤ) (kept : List Activation) → find (has_number n) (map (rebased number base) kept) ≡ option_map (rebased number base) (find (has_number n) kept)
found_rebased number n base [] = refl
found_rebased number n base (a ∷ kept) = at (has_number n a) (found_rebased number n base kept)
  where
    at : (t : Bool) → find (has_number n) (map (rebased number base) kept) ≡ option_map (rebased number base) (find (has_number n) kept)
        → cond t (Some (rebased number base a)) (find (has_number n) (map (rebased number base) kept)) ≡ option_map (rebased number base) (cond t (Some a) (find (has_number n) kept))
    at true later = refl
    at false later = later

-- ---- on an agenda

-- an activation that is pending is the one of its number
pub pending_itself : (a : Agenda) → Fits a → (x : Activation) → Contains (pending_of a) x → pending_at a x.number ≡ Some x
pending_itself a fits x there = found_contained number_of (pending_of a) x fits.rising there

contains_kept : (p : Activation → Bool) (xs : List Activation) (x : Activation) → Contains (filter p xs) x → Contains xs x
contains_kept p [] x (k, lt, is) = absurd (omega (arith, lt))
contains_kept p (y ∷ ys) x there = at (p y) there (contains_kept p ys x)
  where
    later : Contains ys x → Contains (y ∷ ys) x
    later (k, lt, is) = (suc k, omega (arith, lt), is)

    at : (b : Bool) → Contains (cond b (y ∷ filter p ys) (filter p ys)) x → (Contains (filter p ys) x → Contains ys x) → Contains (y ∷ ys) x
    at true (zero, lt, is) further = (zero, omega arith, is)
    at true (suc k, lt, is) further = later (further (k, omega (arith, lt), is))
    at false there further = later (further there)

-- an activation that is pending of a source is the one of its number
pub for_itself : (a : Agenda) → Fits a → (source : ℕ) (x : Activation) → Contains (pending_for a source) x → pending_at a x.number ≡ Some x
for_itself a fits source x there = pending_itself a fits x (contains_kept (is_of source) (pending_of a) x there)

-- so is one that is pending of a source for a unit
pub on_itself : (a : Agenda) → Fits a → (source unit : ℕ) (x : Activation) → Contains (pending_on a source unit) x → pending_at a x.number ≡ Some x
on_itself a fits source unit x there = for_itself a fits source x (contains_kept (is_on unit) (pending_for a source) x there)
