-- What the index of a space says of its members.
use Rattle.std.proofs.Common.{◌≡◌, ℕ, true, false, ◌&&◌, List, filter, length, Option, Some, None, refl, sym, ap, ◌∙◌}
use Rattle.std.specs.Option.{option_map_or}
use Rattle.std.specs.Ordering.{nat_cmp}
use Rattle.std.specs.FinMap as fin
use Rattle.std.proofs.lemmas.List.Kept.{IsStrictlySortedBy-filter}
use Rattle.bb_pattern.specs.declared.value.DimValue.{DimValue}
use Rattle.bb_space.specs.declared.index.leaf.Leaf.{Leaf}
use Rattle.bb_space.specs.declared.index.place.Place.{Place}
use Rattle.bb_space.specs.index.proving.Places.{has}
use Rattle.bb_space.specs.index.Leaf.{fits_leaf}
use Rattle.bb_space.specs.index.proving.Stretches.{is_near, IsCount}
use Rattle.bb_space.specs.index.proving.Pairs.{AreAllNear}
use Rattle.bb_space.specs.index.proving.Marks.{LeavesAllNear}
use Rattle.bb_space.proofs.index_lemmas.Laws.{AreOf, by_bool, near_is, passes_near, near_kept, near_all, count_is}
use Rattle.bb_space.specs.declared.members.Members.{Members}
use Rattle.bb_space.specs.Candidates.{is_candidate}
use Rattle.bb_space.specs.Passing.{passes, passes_one, HaveAllPassing}
use Rattle.bb_space.specs.Spaces.{Membership}
use Rattle.bb_space.specs.proving.Indexed.{membership, is_told, IsIndexed}
use Rattle.bb_space.proofs.RisingLemmas.{keys_rise, any_filter, second_only}

pub told_value : (m : Members) → IsIndexed m → (p : Place) → has m.places p ≡ true → is_told (membership m) p ≡ true
told_value m indexed p there = by_bool (is_told (membership m) p) _ (λ told. told) (λ out. let never = indexed.only p there out in absurd cc)

-- the places of an index are those of the members' values
indexed_of : (m : Members) → IsIndexed m → AreOf (fin.get (membership m)) m.places
indexed_of m indexed = record { full = indexed.full; only = told_value m indexed }

pub near_candidate : (m : Members) → IsIndexed m → (leaf : Leaf) (n : ℕ) → is_near leaf m.places n ≡ is_candidate (membership m) leaf n
near_candidate m indexed leaf n = near_is (fin.get (membership m)) m.places (indexed_of m indexed) leaf n

-- all that pass are left by marks
pub passing_left : (m : Members) → IsIndexed m → (tests : List Leaf) (among list : List ℕ) → LeavesAllNear tests m.places among list → filter (passes (membership m) tests) list ≡ filter (passes (membership m) tests) among
passing_left m indexed tests among list leaves = leaves (passes (membership m) tests) (λ k test there n h. passes_near (fin.get (membership m)) m.places (indexed_of m indexed) tests k test there n h)

pub all_passing : (m : Members) → IsIndexed m → (tests : List Leaf) (list : List ℕ) → AreAllNear tests m.places list → HaveAllPassing (membership m) tests list
all_passing m indexed tests list near = record {
  rises = near.rises;
  members = λ n h. near_kept (fin.get (membership m)) m.places (indexed_of m indexed) tests list near n h;
  all = λ n h. near_all (fin.get (membership m)) m.places (indexed_of m indexed) tests list near n h;
}

one_there : (m : Membership) (leaf : Leaf) (n : ℕ) → passes_one m leaf n ≡ true → fin.contains_key m n ≡ true
one_there m leaf n h = at (fin.get m n) refl h
  where
    at : (o : Option (List DimValue)) → fin.get m n ≡ o → option_map_or (fits_leaf leaf) o false ≡ true → fin.contains_key m n ≡ true
    at None none g = absurd cc
    at (Some values) some g = rw some refl

-- what the index counts is the number of members that pass
pub count_is_length : (m : Members) → IsIndexed m → (leaf : Leaf) (n : ℕ) → IsCount leaf m.places n → n ≡ length (filter (passes_one (membership m) leaf) (fin.keys (membership m)))
count_is_length m indexed leaf n count =
    let all = membership m in
    let passing = passes_one all leaf in
    count_is (fin.get all) m.places (indexed_of m indexed) leaf n count (filter passing (fin.keys all)) (IsStrictlySortedBy-filter nat_cmp passing (fin.keys all) (keys_rise all)) (λ q.
    any_filter passing q (fin.keys all) ∙ (ap (λ b. b && passing q) (sym (fin.contains_key-keys all q)) ∙ second_only (fin.contains_key all q) (passing q) (one_there all leaf q)))
