-- The keys of a finite map rise, and so a list of keys is told by which numbers it has.
use Rattle.std.proofs.Common.{◌≡◌, ℕ, Bool, true, false, cond, List, [], ◌∷◌, map, filter, Option, Some, None, refl, sym, ap, subst, ◌∙◌}
use Rattle.std.specs.Prelude.{T, ◌&&◌, ◌||◌}
use Rattle.std.specs.List.{AllByRecursion, list_any}
use Rattle.std.specs.List.Sorted.{IsStrictlySortedBy}
use Rattle.std.specs.Ordering.{nat_cmp, eq_by_cmp, is_lt, is_eq}
use Rattle.std.specs.declared.cmp.Ordering.{Ordering}
use Rattle.std.specs.declared.cmp.Ordering.TheVariants.{Less, Equal, Greater}
use Rattle.std.specs.Cmp.{nat_cmp_total}
use Rattle.std.specs.FinMap.{FinMap, keys, entries, entries_sorted, find, is_sorted, nat_cmp-IsAntisymmetric}
use Rattle.std.specs.FinMap.Entries.{below_all, same_entries}
use Rattle.bb_basis.proofs.BoolLemmas.{and_false, T_and}

T_parts : (a b : Bool) → T (a && b) → T a × T b
T_parts true b h = (tt, h)
T_parts false b h = absurd h

less : (o : Ordering) → T (is_lt o) → o ≡ Less
less Less h = refl
less Equal h = absurd h
less Greater h = absurd h

all_above : {X : Type 0} (k : ℕ) (es : List (ℕ × X)) → T (below_all nat_cmp k es) → AllByRecursion (λ n. nat_cmp k n ≡ Less) (map (λ e. e.0) es)
all_above k [] h = tt
all_above k (e ∷ es) h = let p = T_parts _ _ h in (less _ p.0, all_above k es p.1)

rising_entries : {X : Type 0} (es : List (ℕ × X)) → T (is_sorted nat_cmp es) → IsStrictlySortedBy nat_cmp (map (λ e. e.0) es)
unfolding IsStrictlySortedBy
rising_entries [] h = tt
rising_entries (e ∷ es) h = let p = T_parts _ _ h in (all_above e.0 es p.0, rising_entries es p.1)

-- the keys of a map rise
pub keys_rise : {X : Type 0} (m : FinMap nat_cmp X) → IsStrictlySortedBy nat_cmp (keys m)
keys_rise m = rising_entries (entries m) (entries_sorted m)

-- ---- lists that rise and have the same numbers are the same

abbrev bare : List ℕ → List (ℕ × Unit {0})
bare ns = map (λ n. (n, tt)) ns

bare_above : (k : ℕ) (ns : List ℕ) → AllByRecursion (λ n. nat_cmp k n ≡ Less) ns → T (below_all nat_cmp k (bare ns))
bare_above k [] all = tt
bare_above k (n ∷ ns) all = T_and _ _ (subst (λ o. T (is_lt o)) (sym all.0) tt) (bare_above k ns all.1)

bare_rises : (ns : List ℕ) → IsStrictlySortedBy nat_cmp ns → T (is_sorted nat_cmp (bare ns))
unfolding IsStrictlySortedBy
bare_rises [] s = tt
bare_rises (n ∷ ns) s = T_and _ _ (bare_above n ns s.0) (bare_rises ns s.1)

abbrev found : Bool → Option (Unit {0})
found true = Some tt
found false = None

found_or : (a b : Bool) → cond a (found true) (found b) ≡ found (a || b)
found_or true b = refl
found_or false b = refl

bare_finds : (ns : List ℕ) (q : ℕ) → find nat_cmp q (bare ns) ≡ found (list_any (eq_by_cmp nat_cmp q) ns)
bare_finds [] q = refl
bare_finds (n ∷ ns) q = ap (λ o. cond (eq_by_cmp nat_cmp q n) (found true) o) (bare_finds ns q) ∙ found_or (eq_by_cmp nat_cmp q n) (list_any (eq_by_cmp nat_cmp q) ns)

bare_back : (ns : List ℕ) → map (λ e. e.0) (bare ns) ≡ ns
bare_back [] = refl
bare_back (n ∷ ns) = ap (λ ms. n ∷ ms) (bare_back ns)

pub same_numbers : (ns ms : List ℕ) → IsStrictlySortedBy nat_cmp ns → IsStrictlySortedBy nat_cmp ms → ((q : ℕ) → list_any (eq_by_cmp nat_cmp q) ns ≡ list_any (eq_by_cmp nat_cmp q) ms) → ns ≡ ms
same_numbers ns ms s t same =
    let e = same_entries nat_cmp nat_cmp_total nat_cmp-IsAntisymmetric (bare ns) (bare ms) (bare_rises ns s) (bare_rises ms t)
    (λ q. bare_finds ns q ∙ (ap found (same q) ∙ sym (bare_finds ms q))) in
    sym (bare_back ns) ∙ (ap (map (λ (p : ℕ × Unit {0}). p.0)) e ∙ bare_back ms)

-- ---- the keys of one map among those of another

abbrev among : ℕ → List ℕ → Bool
among q ns = list_any (eq_by_cmp nat_cmp q) ns

equal : (o : Ordering) → is_eq o ≡ true → o ≡ Equal
equal Less h = absurd cc
equal Equal h = refl
equal Greater h = absurd cc

any_cond : (t : ℕ → Bool) (n : ℕ) (ns : List ℕ) (b : Bool) → list_any t (cond b (n ∷ ns) ns) ≡ cond b (t n || list_any t ns) (list_any t ns)
any_cond t n ns true = refl
any_cond t n ns false = refl

one_filtered : (e b rest all pq : Bool) → rest ≡ (all && pq) → (e ≡ true → pq ≡ b) → cond b (e || rest) rest ≡ ((e || all) && pq)
one_filtered true true rest all pq is same = sym (same refl)
one_filtered true false rest all pq is same = is ∙ (ap (λ c. all && c) (same refl) ∙ (and_false all ∙ sym (same refl)))
one_filtered false true rest all pq is same = is
one_filtered false false rest all pq is same = is

-- a number is among those that pass if it is among all and passes
pub any_filter : (p : ℕ → Bool) (q : ℕ) (ns : List ℕ) → among q (filter p ns) ≡ (among q ns && p q)
any_filter p q [] = refl
any_filter p q (n ∷ ns) =
    any_cond (eq_by_cmp nat_cmp q) n (filter p ns) (p n)
    ∙ one_filtered (eq_by_cmp nat_cmp q n) (p n) (among q (filter p ns)) (among q ns) (p q) (any_filter p q ns) (λ h. ap p (nat_cmp-IsAntisymmetric q n (equal (nat_cmp q n) h)))

pub second_only : (a b : Bool) → (b ≡ true → a ≡ true) → (a && b) ≡ b
second_only a true h = ap (λ c. c && true) (h refl)
second_only true false h = refl
second_only false false h = refl
