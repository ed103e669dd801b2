-- Units among which all are of which a pattern holds.
use Rattle.std.proofs.Common.{◌≡◌, ℕ, zero, suc, ◌+◌, ◌≤◌, ◌⊎◌, inl, inr, Bool, true, false, List, [], ◌∷◌, ◌++◌, drop, length, Option, Some, None, refl, sym, ap, subst, ◌∙◌, arith, add-one, slice_get}
use Rattle.std.specs.Prelude.{is_some}
use Rattle.std.specs.List.Sorted.{IsStrictlySortedBy}
use Rattle.std.specs.Ordering.{nat_cmp, eq_by_cmp}
use Rattle.std.specs.FinMap.{contains_key-keys}
use Rattle.std.proofs.lemmas.Bool.{and_parts, and_from, or_left, or_right, or_cases}
use Rattle.std.proofs.lemmas.List.Folds.{list_any-append}
use Rattle.std.proofs.lemmas.List.Kept.{IsStrictlySortedBy-filter}
use Rattle.bb_pattern.specs.declared.value.DimValue.{DimValue}
use Rattle.bb_pattern.specs.Trees.{Tree, Trees, and_of, or_of}
use Rattle.bb_pattern.specs.Holds.{holds, holds_each, holds_some}
use Rattle.bb_pattern.specs.View.{trees_of}
use Rattle.bb_space.specs.declared.index.leaf.Leaf.{Leaf}
use Rattle.bb_space.specs.index.Leaf.{fits_leaf}
use Rattle.bb_space.specs.index.Among.{is_among}
use Rattle.bb_space.specs.Spaces.{Spaces, membership, values_in, members, AreCandidates}
use Rattle.bb_query.specs.proving.Enough.{AreEnough, among}
use Rattle.bb_query.specs.proving.Tests.{Asks}
use Rattle.bb_space.proofs.Laws.{keys_rise, any_filter, meets_among}

-- a list that is enough for a test is enough for one that asks more
pub enough_of : (t : Spaces) (space : ℕ) (test other : List DimValue → Bool) (list : List ℕ) → ((values : List DimValue) → other values ≡ true → test values ≡ true) → AreEnough t space test list → AreEnough t space other list
enough_of t space test other list tells e = record { rises = e.rises; enough = λ n values there h. e.enough n values there (tells values h) }

member_there : (t : Spaces) (space n : ℕ) (values : List DimValue) → values_in t space n ≡ Some values → among n (members t space) ≡ true
member_there t space n values there = sym (contains_key-keys (membership t space) n) ∙ ap is_some there

-- all members
pub members_enough : (t : Spaces) (space : ℕ) (test : List DimValue → Bool) → AreEnough t space test (members t space)
members_enough t space test = record { rises = keys_rise (membership t space); enough = λ n values there h. member_there t space n values there }

-- the candidates for a test
candidates_enough : (t : Spaces) (space : ℕ) (leaf : Leaf) (list : List ℕ) → AreCandidates t space leaf list → AreEnough t space (fits_leaf leaf) list
candidates_enough t space leaf list c = record {
  rises = subst (IsStrictlySortedBy nat_cmp) (sym c.members) (IsStrictlySortedBy-filter nat_cmp c.chosen (members t space) (keys_rise (membership t space)));
  enough = λ n values there h. ap (among n) c.members ∙ (any_filter c.chosen n (members t space) ∙ and_from (among n (members t space)) (c.chosen n) (member_there t space n values there) (c.fitting n values there h));
}

-- the candidates for a test that asks the same
pub asked_enough : (t : Spaces) (space : ℕ) (asked : List DimValue → Bool) (leaf : Leaf) (list : List ℕ) → Asks asked leaf → AreCandidates t space leaf list → AreEnough t space asked list
asked_enough t space asked leaf list asks c = enough_of t space (fits_leaf leaf) asked list (λ values h. asks values ∙ h) (candidates_enough t space leaf list c)

-- ---- several patterns

module _ {X : Type 0} where
  same_some : (x y : X) → Some x ≡ Some y → x ≡ y
  same_some x y e = ap value_of e
    where
      value_of : Option X → X
      value_of None = x
      value_of (Some w) = w

  from_next : (xs : List X) (k : ℕ) (x : X) → slice_get xs k ≡ Some x → drop k xs ≡ x ∷ drop (suc k) xs
  from_next [] zero x there = absurd cc
  from_next [] (suc k) x there = absurd cc
  from_next (y ∷ xs) zero x there = ap (λ z. z ∷ xs) (same_some y x there)
  from_next (y ∷ xs) (suc k) x there = from_next xs k x there

  drop_next : (xs : List X) (k : ℕ) (x : X) → slice_get xs k ≡ Some x → drop k xs ≡ x ∷ drop (k + 1) xs
  drop_next xs k x there = from_next xs k x there ∙ ap (λ j. x ∷ drop j xs) (sym (add-one k))

-- where each holds, one of them does
pub each_one : (operands values : List DimValue) (ps : List Tree) (k : ℕ) (p : Tree) → slice_get ps k ≡ Some p → holds_each operands values (trees_of ps) ≡ true → holds operands values p ≡ true
unfolding holds
each_one operands values [] zero p there h = absurd cc
each_one operands values [] (suc k) p there h = absurd cc
each_one operands values (q ∷ ps) zero p there h = sym (at_first (Some q) there) ∙ (and_parts (holds operands values q) (holds_each operands values (trees_of ps)) h).0
  where
    first : Option Tree → Bool
    first None = false
    first (Some r) = holds operands values r

    at_first : (o : Option Tree) → o ≡ Some p → first o ≡ holds operands values p
    at_first o e = ap first e
each_one operands values (q ∷ ps) (suc k) p there h = each_one operands values ps k p there (and_parts (holds operands values q) (holds_each operands values (trees_of ps)) h).1

pub each_enough : (t : Spaces) (space : ℕ) (operands : List DimValue) (ps : List Tree) (k : ℕ) (p : Tree) (list : List ℕ) → slice_get ps k ≡ Some p
    → AreEnough t space (λ values. holds operands values p) list → AreEnough t space (λ values. holds_each operands values (trees_of ps)) list
each_enough t space operands ps k p list there e = enough_of t space (λ values. holds operands values p) (λ values. holds_each operands values (trees_of ps)) list (λ values h. each_one operands values ps k p there h) e

-- a list that has all members of which one of the patterns holds, but those of which one of the rest does
abbrev pub HasBut : Spaces → ℕ → List DimValue → List Tree → List Tree → List ℕ → Type 0
HasBut t space operands ps rest found =
    (n : ℕ) (values : List DimValue) → values_in t space n ≡ Some values → holds_some operands values (trees_of ps) ≡ true
    → (among n found ≡ true) ⊎ (holds_some operands values (trees_of rest) ≡ true)

some_first : (operands values : List DimValue) (p : Tree) (ps : List Tree) → holds_some operands values (trees_of (p ∷ ps)) ≡ true → (holds operands values p ≡ true) ⊎ (holds_some operands values (trees_of ps) ≡ true)
unfolding holds
some_first operands values p ps h = or_cases (holds operands values p) (holds_some operands values (trees_of ps)) h

among_more : (n : ℕ) (xs ys : List ℕ) → (among n xs ≡ true) ⊎ (among n ys ≡ true) → among n (xs ++ ys) ≡ true
among_more n xs ys (inl one) = list_any-append (eq_by_cmp nat_cmp n) xs ys ∙ or_left (among n xs) (among n ys) one
among_more n xs ys (inr other) = list_any-append (eq_by_cmp nat_cmp n) xs ys ∙ or_right (among n xs) (among n ys) other

pub has_but_less : (t : Spaces) (space : ℕ) (operands : List DimValue) (ps : List Tree) (k : ℕ) (p : Tree) (list found : List ℕ) → slice_get ps k ≡ Some p
    → AreEnough t space (λ values. holds operands values p) list → HasBut t space operands ps (drop k ps) found → HasBut t space operands ps (drop (k + 1) ps) (found ++ list)
has_but_less t space operands ps k p list found there e was = λ n values told h. on n values told (was n values told h)
  where
    split : (n : ℕ) (values : List DimValue) → values_in t space n ≡ Some values → (holds operands values p ≡ true) ⊎ (holds_some operands values (trees_of (drop (k + 1) ps)) ≡ true)
        → (among n (found ++ list) ≡ true) ⊎ (holds_some operands values (trees_of (drop (k + 1) ps)) ≡ true)
    split n values told (inl one) = inl (among_more n found list (inr (e.enough n values told one)))
    split n values told (inr later) = inr later

    on : (n : ℕ) (values : List DimValue) → values_in t space n ≡ Some values → (among n found ≡ true) ⊎ (holds_some operands values (trees_of (drop k ps)) ≡ true)
        → (among n (found ++ list) ≡ true) ⊎ (holds_some operands values (trees_of (drop (k + 1) ps)) ≡ true)
    on n values told (inl has) = inl (among_more n found list (inl has))
    on n values told (inr rest) = split n values told (some_first operands values p (drop (k + 1) ps) (ap (λ qs. holds_some operands values (trees_of qs)) (sym (drop_next ps k p there)) ∙ rest))

dropped : {X : Type 0} (k : ℕ) (xs : List X) → length xs ≤ k → drop k xs ≡ []
dropped zero [] le = refl
dropped (suc k) [] le = refl
dropped zero (x ∷ xs) le = absurd (omega (arith, le))
dropped (suc k) (x ∷ xs) le = dropped k xs (omega (arith, le))

none_holds : (operands values : List DimValue) → holds_some operands values (trees_of []) ≡ false
unfolding holds
none_holds operands values = refl

pub some_enough : (t : Spaces) (space : ℕ) (operands : List DimValue) (ps : List Tree) (k : ℕ) (found list : List ℕ) → length ps ≤ k → HasBut t space operands ps (drop k ps) found
    → ((n : ℕ) → is_among n list ≡ is_among n found) → IsStrictlySortedBy nat_cmp list → AreEnough t space (λ values. holds_some operands values (trees_of ps)) list
some_enough t space operands ps k found list le has same rises = record {
  rises = rises;
  enough = λ n values told h. meets_among n list ∙ (same n ∙ (sym (meets_among n found) ∙ at n values (has n values told h)));
}
  where
    at : (n : ℕ) (values : List DimValue) → (among n found ≡ true) ⊎ (holds_some operands values (trees_of (drop k ps)) ≡ true) → among n found ≡ true
    at n values (inl one) = one
    at n values (inr later) = let off : holds_some operands values (trees_of (drop k ps)) ≡ false = ap (λ qs. holds_some operands values (trees_of qs)) (dropped k ps le) ∙ none_holds operands values in absurd cc

-- ---- one pattern

pub and_enough : (t : Spaces) (space : ℕ) (operands : List DimValue) (p : Tree) (ps : Trees) (list : List ℕ) → and_of ps ≡ p → AreEnough t space (λ values. holds_each operands values ps) list → AreEnough t space (λ values. holds operands values p) list
unfolding holds
and_enough t space operands p ps list is_and e = subst (λ q. AreEnough t space (λ values. holds operands values q) list) is_and e

pub or_enough : (t : Spaces) (space : ℕ) (operands : List DimValue) (p : Tree) (ps : Trees) (list : List ℕ) → or_of ps ≡ p → AreEnough t space (λ values. holds_some operands values ps) list → AreEnough t space (λ values. holds operands values p) list
unfolding holds
or_enough t space operands p ps list is_or e = subst (λ q. AreEnough t space (λ values. holds operands values q) list) is_or e
