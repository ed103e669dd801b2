-- Tests leave all units of which a pattern holds.
use Rattle.std.proofs.Common.{◌≡◌, ℕ, ℤ, ◌&&◌, ◌==◌, Bool, true, false, List, [], ◌∷◌, ◌++◌, length, Some, refl, sym, ap, ◌∙◌, subst, slice_get, arith}
use Rattle.std.specs.Prelude.{filter}
use Rattle.std.specs.Option.{option_map_or}
use Rattle.std.specs.List.Sorted.{IsStrictlySortedBy}
use Rattle.std.specs.Ordering.{nat_cmp}
use Rattle.std.proofs.lemmas.Bool.{and_from, eqb-true}
use Rattle.std.proofs.lemmas.List.Folds.{list_all-append}
use Rattle.std.proofs.lemmas.List.Kept.{IsStrictlySortedBy-filter}
use Rattle.bb_pattern.specs.declared.pattern.Relation.{Relation}
use Rattle.bb_pattern.specs.declared.value.DimValue.{DimValue}
use Rattle.bb_pattern.specs.declared.value.DimValue.TheVariants.{Interval, Label}
use Rattle.bb_pattern.specs.Trees.{Tree, Trees, all, and_of, ordered, is_label}
use Rattle.bb_pattern.specs.Holds.{holds, holds_each, ordered_holds, is_holds}
use Rattle.bb_pattern.specs.View.{trees_of}
use Rattle.bb_space.specs.declared.index.leaf.Leaf.{Leaf}
use Rattle.bb_space.specs.declared.index.leaf.Leaf.TheVariants.{Ordered, Is}
use Rattle.bb_space.specs.index.Leaf.{fits_leaf, fit_each}
use Rattle.bb_space.specs.Passing.{passes}
use Rattle.bb_space.specs.Spaces.{Spaces, membership}
use Rattle.bb_query.specs.proving.Enough.{AreEnough, among}
use Rattle.bb_query.specs.proving.Tests.{Asks, AskNoMore, HoldsOfAll}
use Rattle.bb_query.proofs.NearLemmas.{each_one}
use Rattle.bb_space.proofs.Laws.{any_filter}

pub interval_asks : (r : Relation) (dim : ℕ) (low high : ℤ) → Asks (λ values. ordered_holds r (slice_get values dim) (Some (Interval low high))) (Ordered r dim low high)
unfolding fits_leaf
interval_asks r dim low high = λ values. refl

pub label_asks : (dim set label : ℕ) → Asks (λ values. is_holds (slice_get values dim) (Some (Label set label))) (Is dim set label)
unfolding fits_leaf
label_asks dim set label = λ values. refl

pub ordered_asks : (operands : List DimValue) (p : Tree) (r : Relation) (dim operand : ℕ) (test : Leaf) → ordered r dim operand ≡ p → Asks (λ values. ordered_holds r (slice_get values dim) (slice_get operands operand)) test → Asks (λ values. holds operands values p) test
unfolding holds
ordered_asks operands p r dim operand test is_one asks = subst (λ q. Asks (λ values. holds operands values q) test) is_one asks

pub is_asks : (operands : List DimValue) (p : Tree) (dim operand : ℕ) (test : Leaf) → is_label dim operand ≡ p → Asks (λ values. is_holds (slice_get values dim) (slice_get operands operand)) test → Asks (λ values. holds operands values p) test
unfolding holds
is_asks operands p dim operand test is_one asks = subst (λ q. Asks (λ values. holds operands values q) test) is_one asks

-- ---- several tests

-- a test more, of one of the patterns
pub one_asked : (operands : List DimValue) (ps : List Tree) (k : ℕ) (p : Tree) (test : Leaf) (old new : List Leaf) → slice_get ps k ≡ Some p → Asks (λ values. holds operands values p) test
    → new ≡ old ++ test ∷ [] → AskNoMore (λ values. holds_each operands values (trees_of ps)) old → AskNoMore (λ values. holds_each operands values (trees_of ps)) new
one_asked operands ps k p test old new there asks more ask = λ values h.
    ap (λ tests. fit_each tests values) more ∙ (list_all-append (λ leaf. fits_leaf leaf values) old (test ∷ [])
    ∙ and_from (fit_each old values) (fits_leaf test values && true) (ask values h) (and_from (fits_leaf test values) true (asks values ∙ each_one operands values ps k p there h) refl))

pub and_asked : (operands : List DimValue) (p : Tree) (ps : Trees) (tests : List Leaf) → and_of ps ≡ p → AskNoMore (λ values. holds_each operands values ps) tests → AskNoMore (λ values. holds operands values p) tests
unfolding holds
and_asked operands p ps tests is_and ask = subst (λ q. AskNoMore (λ values. holds operands values q) tests) is_and ask

-- ---- what asks for nothing

pub all_holds : (p : Tree) → all ≡ p → HoldsOfAll p
unfolding holds
all_holds p is = subst HoldsOfAll is (λ operands values. refl)

pub none_asked : (p : Tree) (ps : List Tree) → and_of (trees_of ps) ≡ p → (length ps == 0) ≡ true → HoldsOfAll p
unfolding holds
none_asked p [] is none = subst HoldsOfAll is (λ operands values. refl)
none_asked p (q ∷ qs) is none = absurd (omega (arith, eqb-true (length (q ∷ qs)) 0 none))

-- ---- what is left

pub left_enough : (t : Spaces) (space : ℕ) (asked : List DimValue → Bool) (tests : List Leaf) (list left : List ℕ) → AskNoMore asked tests → left ≡ filter (passes (membership t space) tests) list
    → AreEnough t space asked list → AreEnough t space asked left
left_enough t space asked tests list left ask is e = record {
  rises = subst (IsStrictlySortedBy nat_cmp) (sym is) (IsStrictlySortedBy-filter nat_cmp (passes (membership t space) tests) list e.rises);
  enough = λ n values there h. ap (among n) is ∙ (any_filter (passes (membership t space) tests) n list
      ∙ and_from (among n list) (passes (membership t space) tests n) (e.enough n values there h) (ap (λ o. option_map_or (fit_each tests) o false) there ∙ ask values h));
}
