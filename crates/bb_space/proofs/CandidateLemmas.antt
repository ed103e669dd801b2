-- The candidates for a test are the members whose value can pass, and all that pass are among them.
use Rattle.std.proofs.Common.{◌≡◌, ℕ, true, false, ◌&&◌, List, Option, Some, None, refl, sym, ap, ◌∙◌, slice_get}
use Rattle.std.specs.Option.{option_map_or}
use Rattle.std.specs.List.{list_any}
use Rattle.std.specs.List.Sorted.{IsStrictlySortedBy}
use Rattle.std.specs.Ordering.{nat_cmp}
use Rattle.std.specs.BTreeMap.{is_at as meets}
use Rattle.std.specs.FinMap as fin
use Rattle.std.proofs.lemmas.List.Kept.{IsStrictlySortedBy-filter}
use Rattle.bb_pattern.specs.declared.value.DimValue.{DimValue}
use Rattle.bb_space.specs.declared.index.leaf.Leaf.{Leaf}
use Rattle.bb_space.specs.index.Candidates.{may_pass, dim_of}
use Rattle.bb_space.proofs.index_lemmas.Laws.{passing}
use Rattle.bb_space.specs.Spaces.{Membership, AreChosen}
use Rattle.bb_space.specs.Candidates.{is_candidate, candidates_of}
use Rattle.bb_space.proofs.RisingLemmas.{keys_rise, same_numbers, any_filter, second_only}

candidate_there : (m : Membership) (leaf : Leaf) (n : ℕ) → is_candidate m leaf n ≡ true → fin.contains_key m n ≡ true
candidate_there m leaf n h = at (fin.get m n) refl h
  where
    at : (o : Option (List DimValue)) → fin.get m n ≡ o → option_map_or (λ told. option_map_or (may_pass leaf) (slice_get told (dim_of leaf)) false) o false ≡ true → fin.contains_key m n ≡ true
    at None none g = absurd cc
    at (Some values) some g = rw some refl

-- a list that rises of the numbers of candidates
pub candidates_are : (m : Membership) (leaf : Leaf) (list : List ℕ) → IsStrictlySortedBy nat_cmp list → ((n : ℕ) → list_any (meets (nat_cmp n)) list ≡ is_candidate m leaf n) → list ≡ candidates_of m leaf
candidates_are m leaf list sorted same =
    same_numbers list (candidates_of m leaf) sorted (IsStrictlySortedBy-filter nat_cmp (is_candidate m leaf) (fin.keys m) (keys_rise m)) (λ q.
    same q ∙ sym (any_filter (is_candidate m leaf) q (fin.keys m) ∙ (ap (λ b. b && is_candidate m leaf q) (sym (fin.contains_key-keys m q)) ∙ second_only (fin.contains_key m q) (is_candidate m leaf q) (candidate_there m leaf q))))

pub chosen_from : (m : Membership) (leaf : Leaf) → AreChosen m leaf (candidates_of m leaf)
chosen_from m leaf = record {
  chosen = is_candidate m leaf;
  members = refl;
  fitting = λ n values there fits. ap (λ o. option_map_or (λ told. option_map_or (may_pass leaf) (slice_get told (dim_of leaf)) false) o false) there ∙ passing leaf values fits;
}
