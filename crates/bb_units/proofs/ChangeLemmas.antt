-- Units under the keys of their numbers: which there are after each change.
use Rattle.std.proofs.Common.{◌≡◌, ℕ, ◌+◌, ◌<◌, Bool, true, false, cond, List, [], ◌∷◌, ◌++◌, Option, Some, None, Less, filter, refl, sym, ap, subst, ◌∙◌, arith, eq-eqb, ne_eqb}
use Rattle.std.specs.Prelude.{◌==◌, is_some, option_map, option_and_then}
use Rattle.std.specs.List.{AllByRecursion}
use Rattle.std.specs.List.Sorted.{IsStrictlySortedBy}
use Rattle.std.specs.Map.{keys_of, lookup}
use Rattle.std.specs.Option.{option_map_or}
use Rattle.std.specs.Ordering.{nat_cmp, eq_by_cmp}
use Rattle.std.specs.Cmp.{nat_cmp_total, unsigned_tied}
use Rattle.std.specs.FinMap.{FinMap, find, get, insert, remove, len, get-insert, get-remove, len-insert, len-remove, len-empty, same_map, nat_cmp-IsAntisymmetric}
use Rattle.std.proofs.lemmas.Bool.Decides.{nat_tests}
use Rattle.std.proofs.lemmas.Bool.{eqb-true, eqb-false}
use Rattle.std.proofs.lemmas.Cmp.{nat_eq_equiv}
use Rattle.std.proofs.lemmas.List.Sums.{sum_by-set}
use Rattle.std.proofs.lemmas.Map.{keys-set_value, lookup-set_value}
use Rattle.slab.specs.Slab.{get as under, ContainsKey, Updates, slab_len, with_value}
use Rattle.slab.proofs.SlabLemmas.{Updates-with_value, ContainsKey-within}
use Rattle.bb_schema_classes.specs.declared.value.Value.{Value}
use Rattle.bb_units.specs.declared.unit.Unit.{Unit}
use Rattle.bb_units.specs.Units.{with_slot, with_value_of}
use Rattle.bb_units.specs.proving.Numbered.{UnitSlab, held, units_in, slab_set, Rise, key_in, with_entry, AreKept, AreNumbered, HaveSame}
use Rattle.bb_units.proofs.EntryLemmas.{Entries, content, found_in, get_is_under}

abbrev Map : Type 0
Map = FinMap nat_cmp Unit

-- the entries that have a key
abbrev pub filled : Entries → Entries
filled es = filter (λ e. is_some e.1) es

-- ---- the key of each number after a change

found_by : (b : Bool) (c : Option ℕ) (seen : Option (Option ℕ)) → content (cond b (Some c) seen) ≡ cond b c (content seen)
found_by true c seen = refl
found_by false c seen = refl

has_entry : (j : ℕ) (seen : Option (Option ℕ)) → content seen ≡ Some j → is_some seen ≡ true
has_entry j None at = absurd cc
has_entry j (Some c) at = refl

-- another key, or none, in an entry
entry_key : (n j q : ℕ) (es : Entries) (c : Option ℕ) → key_in n es ≡ Some j → key_in q (with_entry n es c) ≡ cond (q == n) c (key_in q es)
entry_key n j q es c at =
    ap content (lookup-set_value nat_eq_equiv (λ k. n == k) (λ x y same. ap (λ k. k == y) (eqb-true n x same)) q c es (has_entry j (lookup (λ k. n == k) es) at))
    ∙ (found_by (n == q) c (lookup (λ k. q == k) es) ∙ ap (λ b. cond b c (key_in q es)) (nat_eq_equiv.symm n q))

later_by : (n q k : ℕ) (c d : Option ℕ) (seen : Option (Option ℕ)) (b : Bool) → (q == k) ≡ b → k < n → cond b (Some d) (cond (q == n) (Some c) seen) ≡ cond (q == n) (Some c) (cond b (Some d) seen)
later_by n q k c d seen true same lt = rw (ne_eqb q n (λ e. omega (arith, eqb-true q k same, e, lt))) refl
later_by n q k c d seen false other lt = refl

-- an entry of a number above those of all entries
pushed_entry : (n q : ℕ) (es : Entries) (c : Option ℕ) → AllByRecursion (λ k. k < n) (keys_of es) → lookup (λ k. q == k) (es ++ (n, c) ∷ []) ≡ cond (q == n) (Some c) (lookup (λ k. q == k) es)
pushed_entry n q [] c below = refl
pushed_entry n q (e ∷ es) c below =
    ap (cond (q == e.0) (Some e.1)) (pushed_entry n q es c below.1)
    ∙ later_by n q e.0 c e.1 (lookup (λ k. q == k) es) (q == e.0) refl below.0

pushed_key : (n q : ℕ) (es : Entries) (c : Option ℕ) → AllByRecursion (λ k. k < n) (keys_of es) → key_in q (es ++ (n, c) ∷ []) ≡ cond (q == n) c (key_in q es)
pushed_key n q es c below = ap content (pushed_entry n q es c below) ∙ found_by (q == n) c (lookup (λ k. q == k) es)

-- ---- one number gets a unit, another one, or none

-- the number n has the key j if it has a unit after the change, no other number has that key, and nothing else changes
record IsChange (s t : UnitSlab) (es fs : Entries) (n j : ℕ) (slot : Option Unit) : Type 0 where
  keys : (q : ℕ) → key_in q fs ≡ cond (q == n) (option_map (λ _. j) slot) (key_in q es)
  unit : Updates s t j slot
  only : (q : ℕ) → key_in q es ≡ Some j → q ≡ n

module _ (s t : UnitSlab) (es fs : Entries) (n j : ℕ) (slot : Option Unit) (is : IsChange s t es fs n j slot) where
  other_stays : (q : ℕ) (c : Option ℕ) → key_in q es ≡ c → (q ≡ n → ⊥) → option_and_then (under t) c ≡ option_and_then (under s) c
  other_stays q None at other = refl
  other_stays q (Some i) at other = is.unit.others i (λ same. other (is.only q (at ∙ ap Some same)))

  given_by : (o : Option Unit) → under t j ≡ o → option_and_then (under t) (option_map (λ _. j) o) ≡ o
  given_by None at = refl
  given_by (Some x) at = at

  unit_by : (q : ℕ) (b : Bool) → (q == n) ≡ b → option_and_then (under t) (cond b (option_map (λ _. j) slot) (key_in q es)) ≡ cond b slot (option_and_then (under s) (key_in q es))
  unit_by q true same = given_by slot is.unit.changed
  unit_by q false other = other_stays q (key_in q es) refl (eqb-false q n other)

  unit_after : (q : ℕ) → Rise es → Rise fs → get (units_in t fs) q ≡ cond (eq_by_cmp nat_cmp q n) slot (get (units_in s es) q)
  unit_after q rise later =
      get_is_under t fs q later ∙ (ap (option_and_then (under t)) (is.keys q) ∙ (unit_by q (q == n) refl
      ∙ (ap (λ b. cond b slot (option_and_then (under s) (key_in q es))) (sym (unsigned_tied q n))
      ∙ ap (cond (eq_by_cmp nat_cmp q n) slot) (sym (get_is_under s es q rise)))))

  module _ (kept : AreKept es s) where
    abbrev owner : ℕ → ℕ
    owner i = cond (i == j) n (kept.owner i)

    new_kept : (q i : ℕ) (o : Option Unit) → under t j ≡ o → q ≡ n → option_map (λ _. j) o ≡ Some i → (owner i ≡ q) × ContainsKey t i
    new_kept q i None at same is_key = absurd cc
    new_kept q i (Some x) at same is_key =
        let key : j ≡ i = cc in
        rw (← key, eq-eqb j j refl) (sym same, ap is_some at)

    old_kept : (q i : ℕ) → (q ≡ n → ⊥) → key_in q es ≡ Some i → (owner i ≡ q) × ContainsKey t i
    old_kept q i other at =
        let differs : i ≡ j → ⊥ = λ same. other (is.only q (at ∙ ap Some same)) in
        rw (ne_eqb i j differs) (kept.owned q i at, ap is_some (is.unit.others i differs) ∙ kept.there q i at)

    kept_by : (q i : ℕ) (b : Bool) → (q == n) ≡ b → cond b (option_map (λ _. j) slot) (key_in q es) ≡ Some i → (owner i ≡ q) × ContainsKey t i
    kept_by q i true same at = new_kept q i slot is.unit.changed (eqb-true q n same) at
    kept_by q i false other at = old_kept q i (eqb-false q n other) at

    kept_after : AreKept fs t
    kept_after = record {
      owner = owner;
      owned = λ q i at. (kept_by q i (q == n) refl (sym (is.keys q) ∙ at)).0;
      there = λ q i at. (kept_by q i (q == n) refl (sym (is.keys q) ∙ at)).1;
    }

unit_given : (s t : UnitSlab) (es fs : Entries) (n j : ℕ) (x : Unit) → IsChange s t es fs n j (Some x) → Rise es → Rise fs → units_in t fs ≡ insert (units_in s es) n x
unit_given s t es fs n j x is rise later = same_map nat_cmp_total nat_cmp-IsAntisymmetric _ _ (λ q. unit_after s t es fs n j (Some x) is q rise later ∙ sym (get-insert nat_cmp_total (units_in s es) n x q))

unit_taken : (s t : UnitSlab) (es fs : Entries) (n j : ℕ) → IsChange s t es fs n j None → Rise es → Rise fs → units_in t fs ≡ remove (units_in s es) n
unit_taken s t es fs n j is rise later = same_map nat_cmp_total nat_cmp-IsAntisymmetric _ _ (λ q. unit_after s t es fs n j None is q rise later ∙ sym (get-remove nat_cmp_total (units_in s es) n q))

-- ---- what holds of the numbers

module _ (P : ℕ → Type 0) where
  each_pushed : (es : Entries) (n : ℕ) (c : Option ℕ) → AllByRecursion P (keys_of es) → P n → AllByRecursion P (keys_of (es ++ (n, c) ∷ []))
  each_pushed [] n c all holds = (holds, tt)
  each_pushed (e ∷ es) n c all holds = (all.0, each_pushed es n c all.1 holds)

  each_filled : (es : Entries) → AllByRecursion P (keys_of es) → AllByRecursion P (keys_of (filled es))
  each_filled [] all = tt
  each_filled ((k, None) ∷ es) all = each_filled es all.1
  each_filled ((k, Some j) ∷ es) all = (all.0, each_filled es all.1)

below_more : (n : ℕ) (ks : List ℕ) → AllByRecursion (λ k. k < n) ks → AllByRecursion (λ k. k < n + 1) ks
below_more n [] below = tt
below_more n (k ∷ ks) below = let lt : k < n = below.0 in (omega (arith, lt), below_more n ks below.1)

pushed_rise : (es : Entries) (n : ℕ) (c : Option ℕ) → Rise es → AllByRecursion (λ k. k < n) (keys_of es) → Rise (es ++ (n, c) ∷ [])
unfolding IsStrictlySortedBy
pushed_rise [] n c rise below = (tt, tt)
pushed_rise (e ∷ es) n c rise below =
    let lt : e.0 < n = below.0 in
    let less : nat_cmp e.0 n ≡ Less = grind (arith, nat_tests, lt) in
    (each_pushed (λ k. nat_cmp e.0 k ≡ Less) es n c rise.0 less, pushed_rise es n c rise.1 below.1)

filled_rise : (es : Entries) → Rise es → Rise (filled es)
unfolding IsStrictlySortedBy
filled_rise [] rise = tt
filled_rise ((k, None) ∷ es) rise = filled_rise es rise.1
filled_rise ((k, Some j) ∷ es) rise = (each_filled (λ i. nat_cmp k i ≡ Less) es rise.0, filled_rise es rise.1)

held_same : (es : Entries) → held (filled es) ≡ held es
held_same [] = refl
held_same ((k, None) ∷ es) = held_same es
held_same ((k, Some j) ∷ es) = ap (λ (ks : List (ℕ × ℕ)). (k, j) ∷ ks) (held_same es)

filled_key : (es : Entries) (n : ℕ) → Rise es → key_in n (filled es) ≡ key_in n es
filled_key es n rise = sym (found_in (filled es) n (filled_rise es rise)) ∙ (ap (find nat_cmp n) (held_same es) ∙ found_in es n rise)

-- ---- no entries, and none but those that have a key

pub numbered_none : (s : UnitSlab) → s.slots ≡ [] → AreNumbered 1 [] s
unfolding IsStrictlySortedBy
numbered_none s none = record {
  rise = tt;
  below = tt;
  kept = record { owner = λ key. key; owned = λ n key at. absurd cc; there = λ n key at. absurd cc };
  counted = rw none (len-empty nat_cmp Unit);
}

same_units : (es : Entries) (s : UnitSlab) → Rise es → units_in s (filled es) ≡ units_in s es
same_units es s rise = same_map nat_cmp_total nat_cmp-IsAntisymmetric _ _ (λ q.
    get_is_under s (filled es) q (filled_rise es rise)
    ∙ (ap (option_and_then (under s)) (filled_key es q rise) ∙ sym (get_is_under s es q rise)))

some_key : (s : UnitSlab) (o : Option ℕ) → is_some (option_and_then (under s) o) ≡ true → is_some o ≡ true
some_key s None live = live
some_key s (Some j) live = refl

-- ---- what holds after each change

module _ (next : ℕ) (es : Entries) (s : UnitSlab) (are : AreNumbered next es s) where
  abbrev m : Map
  m = units_in s es

  numbered_filled : AreNumbered next (filled es) s
  numbered_filled = record {
    rise = filled_rise es are.rise;
    below = each_filled (λ k. k < next) es are.below;
    kept = record {
      owner = are.kept.owner;
      owned = λ n key at. are.kept.owned n key (sym (filled_key es n are.rise) ∙ at);
      there = λ n key at. are.kept.there n key (sym (filled_key es n are.rise) ∙ at);
    };
    counted = ap len (same_units es s are.rise) ∙ are.counted;
  }

  -- the unit of a number that has a key, or none
  pub at_key : (n : ℕ) (key : Option ℕ) → key_in n es ≡ key → get m n ≡ option_and_then (under s) key
  at_key n key at = get_is_under s es n are.rise ∙ ap (option_and_then (under s)) at

  only_key : (n j : ℕ) → key_in n es ≡ Some j → (q : ℕ) → key_in q es ≡ Some j → q ≡ n
  only_key n j at q other = sym (are.kept.owned q j other) ∙ are.kept.owned n j at

  -- ---- one more

  no_entry : (n : ℕ) (fs : Entries) → AllByRecursion (λ k. k < n) (keys_of fs) → key_in n fs ≡ None
  no_entry n [] below = refl
  no_entry n (e ∷ fs) below =
      let lt : e.0 < n = below.0 in
      rw (ne_eqb n e.0 (λ same. omega (arith, same, lt))) (no_entry n fs below.1)

  module _ (t : UnitSlab) (j : ℕ) (x : Unit) (vacant : under s j ≡ None) (unit : Updates s t j (Some x)) where
    abbrev longer : Entries
    longer = es ++ (next, Some j) ∷ []

    pushed_is : IsChange s t es longer next j (Some x)
    pushed_is = record {
      keys = λ q. pushed_key next q es (Some j) are.below;
      unit = unit;
      only = λ q at. absurd (let there = are.kept.there q j at in cc);
    }

    pub unit_pushed : units_in t longer ≡ insert m next x
    unit_pushed = unit_given s t es longer next j x pushed_is are.rise (pushed_rise es next (Some j) are.rise are.below)

    pub numbered_more : slab_len t ≡ slab_len s + 1 → AreNumbered (next + 1) longer t
    numbered_more one_more =
        let fresh = at_key next None (no_entry next es are.below) in
        record {
          rise = pushed_rise es next (Some j) are.rise are.below;
          below = each_pushed (λ k. k < next + 1) es next (Some j) (below_more next (keys_of es) are.below) (omega arith);
          kept = kept_after s t es longer next j (Some x) pushed_is are.kept;
          counted = ap len unit_pushed ∙ (len-insert nat_cmp_total m next x ∙ rw (fresh, are.counted) (sym one_more));
        }

  -- ---- another value in a slot of one

  same_count : (j : ℕ) (x : Unit) → ContainsKey s j → slab_len (with_value s j x) ≡ slab_len s
  same_count j x there = omega (
    arith,
    sum_by-set (λ o. cond (is_some o) 1 0) s.slots j (Some x) None (ContainsKey-within s j there),
    ap {B = ℕ} (λ b. cond b 1 0) there,
  )

  same_key : (n j q : ℕ) (b : Bool) → (q == n) ≡ b → key_in n es ≡ Some j → key_in q es ≡ cond b (Some j) (key_in q es)
  same_key n j q true same at = ap (λ k. key_in k es) (eqb-true q n same) ∙ at
  same_key n j q false other at = refl

  replaced_is : (n j : ℕ) (x : Unit) → key_in n es ≡ Some j → IsChange s (with_value s j x) es es n j (Some x)
  replaced_is n j x at = record {
    keys = λ q. same_key n j q (q == n) refl at;
    unit = Updates-with_value s j x (are.kept.there n j at);
    only = only_key n j at;
  }

  replaced : (n j : ℕ) (x : Unit) → key_in n es ≡ Some j → units_in (with_value s j x) es ≡ insert m n x
  replaced n j x at = unit_given s (with_value s j x) es es n j x (replaced_is n j x at) are.rise are.rise

  numbered_replaced : (n j : ℕ) (x : Unit) → key_in n es ≡ Some j → AreNumbered next es (with_value s j x)
  numbered_replaced n j x at =
      let there = are.kept.there n j at in
      record {
        rise = are.rise;
        below = are.below;
        kept = kept_after s (with_value s j x) es es n j (Some x) (replaced_is n j x at) are.kept;
        counted = ap len (replaced n j x at) ∙ (len-insert nat_cmp_total m n x ∙ rw (at_key n (Some j) at, there) (are.counted ∙ sym (same_count j x there)));
      }

  set_by : (n j slot : ℕ) (value : Value) (o : Option Unit) → key_in n es ≡ Some j
      → (units_in (option_map_or (λ x. with_value s j (with_slot x slot value)) o s) es ≡ option_map_or (λ x. insert m n (with_slot x slot value)) o m)
      × AreNumbered next es (option_map_or (λ x. with_value s j (with_slot x slot value)) o s)
  set_by n j slot value None at = (refl, are)
  set_by n j slot value (Some x) at = (replaced n j (with_slot x slot value) at, numbered_replaced n j (with_slot x slot value) at)

  pub value_set : (n j slot : ℕ) (value : Value) → key_in n es ≡ Some j → (units_in (slab_set s j slot value) es ≡ with_value_of m n slot value) × AreNumbered next es (slab_set s j slot value)
  value_set n j slot value at = rw (at_key n (Some j) at) (set_by n j slot value (under s j) at)

  pub nothing_set : (n slot : ℕ) (value : Value) → key_in n es ≡ None → m ≡ with_value_of m n slot value
  nothing_set n slot value at = rw (at_key n None at) refl

  -- ---- one less

  module _ (t : UnitSlab) (n j : ℕ) (at : key_in n es ≡ Some j) (unit : Updates s t j None) where
    abbrev gap : Entries
    gap = with_entry n es None

    gap_rise : Rise gap
    gap_rise = subst (IsStrictlySortedBy nat_cmp) (sym (keys-set_value (λ k. n == k) es None)) are.rise

    gone_is : IsChange s t es gap n j None
    gone_is = record { keys = λ q. entry_key n j q es None at; unit = unit; only = only_key n j at }

    pub unit_gone : units_in t gap ≡ remove m n
    unit_gone = unit_taken s t es gap n j gone_is are.rise gap_rise

    pub numbered_less : slab_len t + 1 ≡ slab_len s → AreNumbered next gap t
    numbered_less one_less =
        let there : is_some (get m n) ≡ true = ap is_some (at_key n (Some j) at) ∙ are.kept.there n j at in
        record {
          rise = gap_rise;
          below = subst (AllByRecursion (λ k. k < next)) (sym (keys-set_value (λ k. n == k) es None)) are.below;
          kept = kept_after s t es gap n j None gone_is are.kept;
          counted = ap len unit_gone ∙ (len-remove nat_cmp_total m n ∙ rw there (omega (arith, one_less, are.counted)));
        }

  -- a live unit has a key
  pub live_key : (n : ℕ) → is_some (get m n) ≡ true → is_some (key_in n es) ≡ true
  live_key n live = some_key s (key_in n es) (ap is_some (sym (at_key n (key_in n es) refl)) ∙ live)

pub filled_has_same : (es : Entries) → HaveSame es (filled es)
filled_has_same es next s are = (numbered_filled next es s are, same_units es s are.rise)
