-- What the walks over units that are deleted go by.
use Rattle.std.proofs.Common.{◌≡◌, ℕ, suc, ◌≤◌, ◌<◌, Bool, true, false, List, [], ◌∷◌, length, get_or, ◌⊎◌, inl, inr, nat_eq, refl, sym, ◌∙◌, arith}
use Rattle.std.specs.Prelude.{◌==◌, ◌||◌, slice_get, Some, Result, Ok, Err, is_ok}
use Rattle.std.specs.List.{AllByRecursion, IsDistinct, list_all}
use Rattle.std.specs.List.Sorted.{IsBinarySearchResult, IsStrictlyIncreasing}
use Rattle.std.specs.Ordering.{nat_cmp}
use Rattle.std.proofs.lemmas.Bool.{and_parts, and_from, cases_lt, eq-eqb, eqb-true}
use Rattle.std.proofs.lemmas.List.Sorted.{searched}
use Rattle.std.proofs.lemmas.Map.Keys.{any_passes_from_place, non_decreasing_from_sorted, sorted_from_strictly_increasing}
use Rattle.std.proofs.lemmas.Option.{slice_get-get_or}
use Rattle.bb_schema.specs.Schema.{Schema}
use Rattle.bb_units.specs.Units.{Units, is_live, after_delete as without_unit}
use Rattle.bb_board.specs.State.{World}
use Rattle.bb_board.specs.World.{class_at}
use Rattle.bb_board.specs.Fits.{Fits}
use Rattle.bb_board.specs.proving.Deleted.{is_of, AreLive}
use Rattle.bb_board.proofs.FoundLemmas.{rising_differ}
use Rattle.bb_board.proofs.ForgetLemmas.{live_stays}
use Rattle.bb_board.proofs.KeepLemmas.{class_there}
use Rattle.bb_board.proofs.PartLemmas.{all_at}

-- ---- a unit is looked up

none_by : (y x : ℕ) (rest b : Bool) → (y == x) ≡ b → (y ≡ x → ⊥) → rest ≡ false → (b || rest) ≡ false
none_by y x rest true same differ none = absurd (differ (eqb-true y x same))
none_by y x rest false same differ none = none

none_at : (xs : List ℕ) (x : ℕ) → ((k : ℕ) → k < length xs → get_or xs k 0 ≡ x → ⊥) → is_of xs x ≡ false
none_at [] x differ = refl
none_at (y ∷ ys) x differ =
    none_by y x (is_of ys x) (y == x) refl (differ 0 (omega arith)) (none_at ys x (λ k lt same. differ (suc k) (omega (arith, lt)) same))

pub searched_of : (xs : List ℕ) (x : ℕ) (r : Result ℕ ℕ) → IsBinarySearchResult (λ y. nat_cmp y x) xs r → IsStrictlyIncreasing xs → is_ok r ≡ is_of xs x
searched_of xs x (Ok i) found up =
    let at = searched xs x (Ok i) found (λ i j a b. non_decreasing_from_sorted xs (sorted_from_strictly_increasing xs up) i j 0 a b) in
    sym (any_passes_from_place (λ k. k == x) xs i (get_or xs i 0) (slice_get-get_or xs i 0 at.0) (eq-eqb (get_or xs i 0) x at.1))
searched_of xs x (Err i) found up =
    let at = searched xs x (Err i) found (λ i j a b. non_decreasing_from_sorted xs (sorted_from_strictly_increasing xs up) i j 0 a b) in
    sym (none_at xs x (λ k lt same. apart k lt same (cases_lt k i) at.1 at.2))
  where
    apart : (k : ℕ) → k < length xs → get_or xs k 0 ≡ x → (k < i) ⊎ (i ≤ k) → ((k : ℕ) → k < i → get_or xs k 0 < x) → ((k : ℕ) → i ≤ k → k < length xs → x < get_or xs k 0) → ⊥
    apart k lt same (inl below) one two = omega (arith, same, one k below)
    apart k lt same (inr past) one two = omega (arith, same, two k past lt)

-- ---- a unit is live, and of a class that is there

pub class_within : (s : Schema) (w : World) → Fits s w → (ns : List ℕ) (i d : ℕ) → list_all (is_live w.units) ns ≡ true → i < length ns → class_at w (get_or ns i d) < length s.classes
class_within s w fits ns i d live lt =
    let n = get_or ns i d in
    (class_there s w n fits (all_at (is_live w.units) ns n live (any_passes_from_place (λ k. k == n) ns i n (slice_get-get_or ns i d lt) (eq-eqb n n refl)))).1

-- ---- units that are live one after another

rest_live : (u : Units) (n : ℕ) (ns : List ℕ) → AllByRecursion (λ m. (n == m) ≡ false) ns → list_all (is_live u) ns ≡ true → list_all (is_live (without_unit u n)) ns ≡ true
rest_live u n [] apart live = refl
rest_live u n (m ∷ ms) apart live =
    let both = and_parts (is_live u m) (list_all (is_live u) ms) live in
    and_from (is_live (without_unit u n) m) (list_all (is_live (without_unit u n)) ms) (live_stays n m apart.0 u ∙ both.0) (rest_live u n ms apart.1 both.1)

live_from : (u : Units) (ns : List ℕ) → IsDistinct nat_eq ns → list_all (is_live u) ns ≡ true → AreLive u ns
unfolding IsDistinct
live_from u [] differ live = tt
live_from u (n ∷ ns) differ live =
    let both = and_parts (is_live u n) (list_all (is_live u) ns) live in
    (both.0, live_from (without_unit u n) ns differ.1 (rest_live u n ns differ.0 both.1))

pub rising_live : (u : Units) (ns : List ℕ) → IsStrictlyIncreasing ns → list_all (is_live u) ns ≡ true → AreLive u ns
rising_live u ns up live = live_from u ns (rising_differ ns up) live

-- ---- the unit that is looked at next

pub next_class : (s : Schema) (w : World) → Fits s w → (found : List ℕ) (place whole : ℕ) → list_all (is_live w.units) found ≡ true → slice_get found place ≡ Some whole → class_at w whole < length s.classes
next_class s w fits found place whole live at =
    (class_there s w whole fits (all_at (is_live w.units) found whole live (any_passes_from_place (λ k. k == whole) found place whole at (eq-eqb whole whole refl)))).1
