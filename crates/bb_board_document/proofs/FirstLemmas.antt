-- The first slots of all couples, slot by slot.
use Rattle.std.proofs.Common.{◌≡◌, ℕ, zero, suc, ◌+◌, ◌<◌, ◌≤◌, Bool, true, false, cond, List, [], ◌∷◌, ◌++◌, length, drop, refl, sym, ap, ◌∙◌, arith, add-one, append_assoc}
use Rattle.std.specs.Prelude.{slice_get}
use Rattle.std.specs.Option.{option_map_or}
use Rattle.std.proofs.lemmas.List.{append-nil}
use Rattle.bb_schema.specs.declared.slot.Slot.{Slot}
use Rattle.bb_schema.specs.Couples.{comes_first, firsts}

first_turn : (k i : ℕ) (slots : List Slot) (b : Bool) → option_map_or (comes_first k) (slice_get slots i) false ≡ b → i < length slots → firsts k (drop i slots) ≡ cond b (k ∷ firsts (suc k) (drop (suc i) slots)) (firsts (suc k) (drop (suc i) slots))
unfolding firsts
first_turn k i [] b is lt = absurd (omega (arith, lt))
first_turn k zero (t ∷ ts) b is lt = rw is refl
first_turn k (suc i) (t ∷ ts) b is lt = first_turn k i ts b is (omega (arith, lt))

no_more : (k i : ℕ) (ts : List Slot) → length ts ≤ i → firsts k (drop i ts) ≡ []
unfolding firsts
no_more k zero [] le = refl
no_more k (suc i) [] le = refl
no_more k zero (t ∷ ts) le = absurd (omega (arith, le))
no_more k (suc i) (t ∷ ts) le = no_more k i ts (omega (arith, le))

module _ (slots : List Slot) (i : ℕ) (made all : List ℕ) (so_far : made ++ firsts i (drop i slots) ≡ all) where
  pub not_first : option_map_or (comes_first i) (slice_get slots i) false ≡ false → i < length slots → made ++ firsts (i + 1) (drop (i + 1) slots) ≡ all
  not_first is lt = rw add-one (ap (λ ns. made ++ ns) (sym (first_turn i i slots false is lt)) ∙ so_far)

  pub one_first : (after : List ℕ) → option_map_or (comes_first i) (slice_get slots i) false ≡ true → i < length slots → after ≡ made ++ i ∷ [] → after ++ firsts (i + 1) (drop (i + 1) slots) ≡ all
  one_first after is lt new = rw (add-one, new, append_assoc) (ap (λ ns. made ++ ns) (sym (first_turn i i slots true is lt)) ∙ so_far)

  pub last_first : length slots ≤ i → made ≡ all
  last_first le = sym (ap (λ ns. made ++ ns) (no_more i i slots le) ∙ append-nil made) ∙ so_far
