-- The couples of a schema, slot by slot.
use Rattle.std.proofs.Common.{◌≡◌, ℕ, zero, suc, ◌+◌, ◌<◌, ◌≤◌, ◌⊎◌, inl, inr, Bool, true, false, cond, List, [], ◌∷◌, ◌++◌, map, length, drop, get_or, Option, Some, None, refl, sym, ap, subst, ◌∙◌, arith, add-one, append_assoc}
use Rattle.std.specs.Prelude.{slice_get, option_map, option_and_then, IfSome, All}
use Rattle.std.specs.Option.{option_map_or}
use Rattle.std.proofs.lemmas.Bool.{cases_lt}
use Rattle.std.proofs.lemmas.List.{append-nil, length-map}
use Rattle.std.proofs.lemmas.List.Elements.{All-map}
use Rattle.std.proofs.lemmas.List.FromFn.{length-map-range_with_len, get_or-map-range_with_len}
use Rattle.std.proofs.lemmas.Option.{slice_get-get_or, slice_get_past, get_or_from_slice_get, slice_get_within}
use Rattle.bb_schema.specs.declared.slot.Slot.{Slot}
use Rattle.bb_schema.specs.declared.couple.Side.{Side}
use Rattle.bb_schema.specs.Schema.{Schema}
use Rattle.bb_schema.specs.Slots.{link_in}
use Rattle.bb_schema.specs.Couples.{comes_first, firsts, couples, couple_of, couple_end}
use Rattle.bb_links.specs.declared.couple.Singular.{Singular}
use Rattle.bb_links.specs.Layout.{singular_of, slot_ends, end_among}
use Rattle.bb_links.specs.Couples.{Couple, no_pairs}
use Rattle.bb_links.specs.Fits.{FitsCouple, Fits}
use Rattle.bb_links.proofs.FitLemmas.{empty_fits}

-- ---- the couples, slot by slot

first_turn : (k i : ℕ) (slots : List Slot) (b : Bool) → option_map_or (comes_first k) (slice_get slots i) false ≡ b → i < length slots → firsts k (drop i slots) ≡ cond b (k ∷ firsts (suc k) (drop (suc i) slots)) (firsts (suc k) (drop (suc i) slots))
unfolding firsts
first_turn k i [] b is lt = absurd (omega (arith, lt))
first_turn k zero (t ∷ ts) b is lt = rw is refl
first_turn k (suc i) (t ∷ ts) b is lt = first_turn k i ts b is (omega (arith, lt))

module _ (slots : List Slot) where
  abbrev empties : List ℕ → List Couple
  empties ns = map no_pairs (map (singular_of slots) ns)

  pub not_first : (i : ℕ) (made : List Couple) (all : List Couple) → option_map_or (comes_first i) (slice_get slots i) false ≡ false → i < length slots → made ++ empties (firsts i (drop i slots)) ≡ all → made ++ empties (firsts (i + 1) (drop (i + 1) slots)) ≡ all
  not_first i made all is lt so_far = rw add-one (ap (λ ns. made ++ empties ns) (sym (first_turn i i slots false is lt)) ∙ so_far)

  pub one_first : (i : ℕ) (made after : List Couple) (k : Couple) (all : List Couple) → option_map_or (comes_first i) (slice_get slots i) false ≡ true → i < length slots → made ++ empties (firsts i (drop i slots)) ≡ all → k ≡ no_pairs (singular_of slots i) → after ≡ made ++ k ∷ [] → after ++ empties (firsts (i + 1) (drop (i + 1) slots)) ≡ all
  one_first i made after k all is lt so_far one new =
      rw (add-one, new, append_assoc, one) (ap (λ ns. made ++ empties ns) (sym (first_turn i i slots true is lt)) ∙ so_far)

  no_more : (k i : ℕ) (ts : List Slot) → length ts ≤ i → firsts k (drop i ts) ≡ []
  unfolding firsts
  no_more k zero [] le = refl
  no_more k (suc i) [] le = refl
  no_more k zero (t ∷ ts) le = absurd (omega (arith, le))
  no_more k (suc i) (t ∷ ts) le = no_more k i ts (omega (arith, le))

  pub last_first : (i : ℕ) (made all : List Couple) → length slots ≤ i → made ++ empties (firsts i (drop i slots)) ≡ all → made ≡ all
  last_first i made all le so_far = sym (ap (λ ns. made ++ empties ns) (no_more i i slots le) ∙ append-nil made) ∙ so_far

-- ---- the ends of slots

end_from : (e : Option (Option (ℕ × Side))) (x : ℕ × Side) → option_and_then (λ o. o) e ≡ Some x → e ≡ Some (Some x)
end_from None x is = absurd cc
end_from (Some o) x is = ap (λ u. Some u) is

pub end_is : (s : Schema) (slot : ℕ) → end_among (slot_ends s) slot ≡ couple_of s slot
end_is s slot = at (cases_lt slot (length s.slots))
  where
    all : List (Option (ℕ × Side))
    all = slot_ends s

    long : length (slot_ends s) ≡ length s.slots
    long = length-map-range_with_len (couple_of s) 0 (length s.slots)

    at : (slot < length s.slots) ⊎ (length s.slots ≤ slot) → end_among (slot_ends s) slot ≡ couple_of s slot
    at (inl lt) =
        ap (option_and_then (λ o. o)) (slice_get-get_or (slot_ends s) slot None (omega (arith, lt, long)))
        ∙ get_or-map-range_with_len (couple_of s) 0 (length s.slots) slot slot None lt (omega arith)
    at (inr le) =
        ap (option_and_then (λ o. o)) (slice_get_past (slot_ends s) slot (omega (arith, le, long)))
        ∙ ap (λ (t : Option Slot). option_map (couple_end s.slots slot) (option_and_then (λ u. link_in u.content) t)) (sym (slice_get_past s.slots slot le))

-- ---- a schema's couples fit

each_empty : (ss : List Singular) → All FitsCouple (map no_pairs ss)
each_empty ss = All-map FitsCouple no_pairs ss (λ k d lt. empty_fits (get_or ss k d))

pub new_fits : (s : Schema) (made : List Couple) (ends : List (Option (ℕ × Side))) → made ≡ map no_pairs (map (singular_of s.slots) (couples s)) → All (λ e. IfSome e (λ x. x.0 < length (couples s))) ends → Fits (record { couples = made; ends = ends })
new_fits s made ends is there = record {
  couples = rw is (each_empty (map (singular_of s.slots) (couples s)));
  ends = λ slot e at.
      let found = end_from (slice_get ends slot) e at in
      let low : e.0 < length (couples s) = subst (λ (o : Option (ℕ × Side)). IfSome o (λ x. x.0 < length (couples s))) (get_or_from_slice_get ends slot (Some e) None found) (there slot None (slice_get_within ends slot (Some e) found)) in
      omega (arith, low, ap length is, length-map (map (singular_of s.slots) (couples s)) no_pairs, length-map (couples s) (singular_of s.slots));
}
