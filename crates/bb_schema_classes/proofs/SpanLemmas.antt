-- The spans of classes that come into a walk one after another.
use Rattle.std.proofs.Common.{◌≡◌, ◌⊎◌, inl, inr, ℕ, zero, suc, ◌+◌, ◌<◌, ◌≤◌, Bool, true, false, List, [], ◌∷◌, ◌++◌, length, map, Option, Some, None, refl, sym, ap, subst, ◌∙◌, arith, length-append}
use Rattle.std.specs.Prelude.{◌==◌, ◌↔◌, IsTrue, nat_lt, slice_get, option_and_then}
use Rattle.std.specs.Option.{option_map_or}
use Rattle.std.proofs.lemmas.Bool.{eqb-true}
use Rattle.std.proofs.lemmas.Bool.Decides.{Decides-eqb, same_from_decides, nat_tests}
use Rattle.std.proofs.lemmas.List.{length-map}
use Rattle.std.proofs.lemmas.List.Elements.{All-push, All-map, All-weaker}
use Rattle.std.proofs.lemmas.Option.{slice_get_within}
use Rattle.bb_basis.proofs.AppendLemmas.{there_is}
use Rattle.bb_schema_classes.specs.declared.class.Class.{Class}
use Rattle.bb_schema_classes.specs.declared.span.Span.{Span}
use Rattle.bb_schema_classes.specs.Inheritance.{ParentsAreEarlier, parent_of, Descends, itself, through_parent, descends_in}
use Rattle.bb_schema_classes.specs.Spans.{LiesIn, AreSpans}
use Rattle.bb_schema_classes.specs.proving.SpanWalk.{moved, moved_span, place_of, new_span, with_class, IsWithin, IsWalk}
use Rattle.bb_schema_classes.proofs.ClimbLemmas.{descends_decides}
use Rattle.bb_schema_classes.proofs.FitLemmas.{All-at}

-- ---- numbers that make room for another

pub moved_up : (at n : ℕ) → at ≤ n → moved at n ≡ n + 1
unfolding moved
moved_up at n le = let test : nat_lt n at ≡ false = grind (arith, nat_tests) in rw test refl

pub moved_not : (at n : ℕ) → n < at → moved at n ≡ n
unfolding moved
moved_not at n lt = let test : nat_lt n at ≡ true = grind (arith, nat_tests) in rw test refl

-- the number that one becomes
abbrev Moved : (at n m : ℕ) → Type 0
Moved at n m = ((n < at) × (m ≡ n)) ⊎ ((at ≤ n) × (m ≡ n + 1))

moved_by : (at n : ℕ) (b : Bool) → nat_lt n at ≡ b → Moved at n (moved at n)
moved_by at n true h = let lt : n < at = grind (arith, nat_tests) in inl (lt, moved_not at n lt)
moved_by at n false h = let le : at ≤ n = grind (arith, nat_tests) in inr (le, moved_up at n le)

moved_is : (at n : ℕ) → Moved at n (moved at n)
moved_is at n = moved_by at n (nat_lt n at) refl

-- the order of numbers stays
record SameOrder (a b m n : ℕ) : Type 0 where
  le : a ≤ b → m ≤ n
  was_le : m ≤ n → a ≤ b
  lt : a < b → m < n
  was_lt : m < n → a < b

in_order : (at a b m n : ℕ) → Moved at a m → Moved at b n → SameOrder a b m n
in_order at a b m n (inl x) (inl y) =
    let e = x.1 in let f = y.1 in
    record { le = λ h. omega (arith, e, f, h); was_le = λ h. omega (arith, e, f, h); lt = λ h. omega (arith, e, f, h); was_lt = λ h. omega (arith, e, f, h) }
in_order at a b m n (inl x) (inr y) =
    let e = x.1 in let f = y.1 in let low = x.0 in let high = y.0 in
    record { le = λ h. omega (arith, e, f, h); was_le = λ h. omega (arith, low, high); lt = λ h. omega (arith, e, f, h); was_lt = λ h. omega (arith, low, high) }
in_order at a b m n (inr x) (inl y) =
    let e = x.1 in let f = y.1 in let high = x.0 in let low = y.0 in
    record { le = λ h. absurd (omega (arith, h, low, high)); was_le = λ h. absurd (omega (arith, h, e, f, low, high)); lt = λ h. absurd (omega (arith, h, low, high)); was_lt = λ h. absurd (omega (arith, h, e, f, low, high)) }
in_order at a b m n (inr x) (inr y) =
    let e = x.1 in let f = y.1 in
    record { le = λ h. omega (arith, e, f, h); was_le = λ h. omega (arith, e, f, h); lt = λ h. omega (arith, e, f, h); was_lt = λ h. omega (arith, e, f, h) }

moved_order : (at a b : ℕ) → SameOrder a b (moved at a) (moved at b)
moved_order at a b = in_order at a b (moved at a) (moved at b) (moved_is at a) (moved_is at b)

low_moved : (at n m : ℕ) → Moved at n m → m ≤ n + 1
low_moved at n m (inl x) = let e = x.1 in omega (arith, e)
low_moved at n m (inr x) = let e = x.1 in omega (arith, e)

-- what a new number comes after, and before
moved_side : (at n m : ℕ) → Moved at n m → (n < at → m ≤ at) × (m ≤ at → n < at)
moved_side at n m (inl x) = let e = x.1 in let lt = x.0 in (λ h. omega (arith, e, h), λ h. lt)
moved_side at n m (inr x) = let e = x.1 in let le = x.0 in (λ h. absurd (omega (arith, h, le)), λ h. absurd (omega (arith, e, h, le)))

before : (at n m : ℕ) → Moved at n m → (at ≤ n → at < m) × (at < m → at ≤ n)
before at n m (inl x) = let e = x.1 in let lt = x.0 in (λ h. absurd (omega (arith, h, lt)), λ h. absurd (omega (arith, e, h, lt)))
before at n m (inr x) = let e = x.1 in let le = x.0 in (λ h. omega (arith, e, h), λ h. le)

never_at : (at n m : ℕ) → Moved at n m → at ≤ m → m < at + 1 → ⊥
never_at at n m (inl x) low high = let e = x.1 in let lt = x.0 in omega (arith, e, lt, low)
never_at at n m (inr x) low high = let e = x.1 in let le = x.0 in omega (arith, e, le, high)

module _ (at : ℕ) (k l : Span) where
  still_in : LiesIn k l → LiesIn (moved_span at k) (moved_span at l)
  still_in h = ((moved_order at l.first k.first).le h.0, (moved_order at k.first l.end).lt h.1)

  was_in : LiesIn (moved_span at k) (moved_span at l) → LiesIn k l
  was_in h = ((moved_order at l.first k.first).was_le h.0, (moved_order at k.first l.end).was_lt h.1)

  -- what comes in right after k lies where k lies
  comes_in : at ≡ k.first + 1 → LiesIn k l → LiesIn (new_span at) (moved_span at l)
  comes_in is h =
      let low = h.0 in let high = h.1 in
      ((moved_side at l.first (moved at l.first) (moved_is at l.first)).0 (omega (arith, is, low)), (before at l.end (moved at l.end) (moved_is at l.end)).0 (omega (arith, is, high)))

  came_in : at ≡ k.first + 1 → LiesIn (new_span at) (moved_span at l) → LiesIn k l
  came_in is h =
      let low = (moved_side at l.first (moved at l.first) (moved_is at l.first)).1 h.0 in
      let high = (before at l.end (moved at l.end) (moved_is at l.end)).1 h.1 in
      (omega (arith, is, low), omega (arith, is, high))

  -- a span that comes first of all lies in none, and nothing lies in it
  first_in_none : at ≡ 0 → LiesIn (new_span at) (moved_span at l) → ⊥
  first_in_none is h = let low = (moved_side at l.first (moved at l.first) (moved_is at l.first)).1 h.0 in omega (arith, is, low)

  none_in : LiesIn (moved_span at k) (new_span at) → ⊥
  none_in h = never_at at k.first (moved at k.first) (moved_is at k.first) h.0 h.1

in_itself : (at : ℕ) → LiesIn (new_span at) (new_span at)
in_itself at = (omega arith, omega arith)

-- ---- which class descends from which

-- a class is the one sought, or its parent descends from it
by_parent : (classes : List Class) (c d : ℕ) → Descends classes c d → (c ≡ d) ⊎ ((p : ℕ) × (parent_of classes c ≡ Some p) × Descends classes p d)
by_parent classes c _ (itself _) = inl refl
by_parent classes c d (through_parent _ p _ h rest) = inr (p, h, rest)

-- what a class descends from does not come later
not_later : (classes : List Class) → ParentsAreEarlier classes → (c d : ℕ) → Descends classes c d → d ≤ c
not_later classes earlier c _ (itself _) = omega arith
not_later classes earlier c d (through_parent _ p _ h rest) =
    let low = earlier c p h in let more = not_later classes earlier p d rest in omega (arith, low, more)

-- ---- one more class

-- where the class of this number comes in
abbrev ComesIn : List Class → List Span → (n at : ℕ) → Type 0
ComesIn classes spans n at =
    ((parent_of classes n ≡ None) × (at ≡ 0))
    ⊎ ((p : ℕ) × (s : Span) × (parent_of classes n ≡ Some p) × (slice_get spans p ≡ Some s) × (at ≡ s.first + 1))

-- the span of an earlier class, or that of the new one
abbrev OldOrNew : List Span → (at c : ℕ) → Span → Type 0
OldOrNew spans at c k = ((s : Span) × (slice_get spans c ≡ Some s) × (moved_span at s ≡ k)) ⊎ ((c ≡ length spans) × (new_span at ≡ k))

one_later : (s : Span) (spans : List Span) (at c : ℕ) (k : Span) → OldOrNew spans at c k → OldOrNew (s ∷ spans) at (suc c) k
one_later s spans at c k (inl old) = inl old
one_later s spans at c k (inr new) = inr (ap suc new.0, new.1)

old_or_new : (spans : List Span) (at c : ℕ) (k : Span) → slice_get (map (moved_span at) spans ++ new_span at ∷ []) c ≡ Some k → OldOrNew spans at c k
old_or_new [] at zero k h = inr (refl, (let e : new_span at ≡ k = cc in e))
old_or_new [] at (suc c) k h = absurd cc
old_or_new (s ∷ spans) at zero k h = inl (s, refl, (let e : moved_span at s ≡ k = cc in e))
old_or_new (s ∷ spans) at (suc c) k h = one_later s spans at c k (old_or_new spans at c k h)

along : (j k m l : Span) → j ≡ k → m ≡ l → LiesIn j m → LiesIn k l
along j k m l one two h = subst (LiesIn k) two (subst (λ (x : Span). LiesIn x m) one h)

module _ (classes : List Class) (spans : List Span) (n at : ℕ) (earlier : ParentsAreEarlier classes) (walk : IsWalk classes n spans) (comes : ComesIn classes spans n at) where
  span_below : (d : ℕ) (t : Span) → slice_get spans d ≡ Some t → d < n
  span_below d t is = let count = walk.count in let lt = slice_get_within spans d t is in omega (arith, count, lt)

  top_to : (d : ℕ) (t : Span) → slice_get spans d ≡ Some t → parent_of classes n ≡ None → (n ≡ d) ⊎ ((q : ℕ) × (parent_of classes n ≡ Some q) × Descends classes q d) → ⊥
  top_to d t is none (inl same) = let lt = span_below d t is in omega (arith, lt, same)
  top_to d t is none (inr above) = absurd (let both = sym none ∙ above.1 in cc)

  under_to : (d : ℕ) (t : Span) (p : ℕ) (s : Span) → slice_get spans d ≡ Some t → parent_of classes n ≡ Some p → slice_get spans p ≡ Some s → at ≡ s.first + 1
      → (n ≡ d) ⊎ ((q : ℕ) × (parent_of classes n ≡ Some q) × Descends classes q d) → LiesIn (new_span at) (moved_span at t)
  under_to d t p s is parent there place (inl same) = absurd (let lt = span_below d t is in omega (arith, lt, same))
  under_to d t p s is parent there place (inr above) =
      let both = sym above.1 ∙ parent in
      let own : above.0 ≡ p = cc in
      comes_in at s t place ((walk.tell p d s t there is).0 (subst (λ q. Descends classes q d) own above.2))

  to_old : (d : ℕ) (t : Span) → slice_get spans d ≡ Some t → ComesIn classes spans n at → Descends classes n d → LiesIn (new_span at) (moved_span at t)
  to_old d t is (inl top) h = absurd (top_to d t is top.0 (by_parent classes n d h))
  to_old d t is (inr under) h = under_to d t under.0 under.1 is under.2 under.3 under.4 (by_parent classes n d h)

  from_old : (d : ℕ) (t : Span) → slice_get spans d ≡ Some t → ComesIn classes spans n at → LiesIn (new_span at) (moved_span at t) → Descends classes n d
  from_old d t is (inl top) h = absurd (first_in_none at t t top.1 h)
  from_old d t is (inr under) h = through_parent n under.0 d under.2 ((walk.tell under.0 d under.1 t under.3 is).1 (came_in at under.1 t under.4 h))

  too_late : (c d : ℕ) (s : Span) → slice_get spans c ≡ Some s → d ≡ length spans → Descends classes c d → ⊥
  too_late c d s is last h =
      let low = span_below c s is in let count = walk.count in let le = not_later classes earlier c d h in omega (arith, low, count, le, last)

  tells : (c d : ℕ) (k l : Span) → OldOrNew spans at c k → OldOrNew spans at d l → Descends classes c d ↔ LiesIn k l
  tells c d k l (inl a) (inl b) =
      let own = walk.tell c d a.0 b.0 a.1 b.1 in (
        λ h. along (moved_span at a.0) k (moved_span at b.0) l a.2 b.2 (still_in at a.0 b.0 (own.0 h)),
        λ h. own.1 (was_in at a.0 b.0 (along k (moved_span at a.0) l (moved_span at b.0) (sym a.2) (sym b.2) h)),
      )
  tells c d k l (inl a) (inr b) = (
    λ h. absurd (too_late c d a.0 a.1 b.0 h),
    λ h. absurd (none_in at a.0 a.0 (along k (moved_span at a.0) l (new_span at) (sym a.2) (sym b.1) h)),
  )
  tells c d k l (inr a) (inl b) =
      let same : c ≡ n = a.0 ∙ walk.count in (
        λ h. along (new_span at) k (moved_span at b.0) l a.1 b.2 (to_old d b.0 b.1 comes (subst (λ x. Descends classes x d) same h)),
        λ h. subst (λ x. Descends classes x d) (sym same) (from_old d b.0 b.1 comes (along k (new_span at) l (moved_span at b.0) (sym a.1) (sym b.2) h)),
      )
  tells c d k l (inr a) (inr b) = (
    λ h. along (new_span at) k (new_span at) l a.1 b.1 (in_itself at),
    λ h. subst (Descends classes c) (a.0 ∙ sym b.0) (itself c),
  )

  low_place : ComesIn classes spans n at → at ≤ n
  low_place (inl top) = let is = top.1 in omega (arith, is)
  low_place (inr under) = let low = (All-at (IsWithin n) spans under.0 under.1 under.3 walk.within).0 in let is = under.4 in omega (arith, low, is)

  moved_within : (s : Span) → IsWithin n s → IsWithin (n + 1) (moved_span at s)
  moved_within s h =
      let a = low_moved at s.first (moved at s.first) (moved_is at s.first) in
      let b = low_moved at s.end (moved at s.end) (moved_is at s.end) in
      let low = h.0 in let high = h.1 in
      (omega (arith, a, low), omega (arith, b, high))

  new_within : IsWithin (n + 1) (new_span at)
  new_within = let low = low_place comes in (omega (arith, low), omega (arith, low))

  longer : length (map (moved_span at) spans ++ new_span at ∷ []) ≡ n + 1
  longer =
      let whole = length-append (map (moved_span at) spans) (new_span at ∷ []) in
      let front : length (map (moved_span at) spans) ≡ length spans = length-map _ _ in
      let count = walk.count in
      omega (arith, whole, front, count)

  grown : IsWalk classes (n + 1) (map (moved_span at) spans ++ new_span at ∷ [])
  grown = record {
    count = longer;
    within = All-push (IsWithin (n + 1)) (map (moved_span at) spans) (new_span at)
        (All-map (IsWithin (n + 1)) (moved_span at) spans (All-weaker (IsWithin n) (λ (s : Span). IsWithin (n + 1) (moved_span at s)) moved_within spans walk.within)) new_within;
    tell = λ c d k l here there. tells c d k l (old_or_new spans at c k here) (old_or_new spans at d l there);
  }

comes_of : (classes : List Class) (spans : List Span) (n : ℕ) (parent : Option ℕ) → ParentsAreEarlier classes → IsWalk classes n spans → parent_of classes n ≡ parent → ComesIn classes spans n (place_of spans parent)
comes_of classes spans n None earlier walk is = inl (is, refl)
comes_of classes spans n (Some p) earlier walk is =
    let low = earlier n p is in
    let count = walk.count in
    let there = there_is spans p (omega (arith, low, count)) in
    inr (p, there.0, is, there.1, ap (λ (o : Option Span). option_map_or (λ (s : Span). s.first + 1) o 0) there.1)

-- the spans of one class more
pub one_class : (classes : List Class) (spans : List Span) (n : ℕ) (k : Class) → ParentsAreEarlier classes → slice_get classes n ≡ Some k → IsWalk classes n spans → IsWalk classes (n + 1) (with_class spans k.parent)
unfolding with_class
one_class classes spans n k earlier here walk =
    grown classes spans n (place_of spans k.parent) earlier walk
    (comes_of classes spans n k.parent earlier walk (ap (λ (o : Option Class). option_and_then (λ (j : Class). j.parent) o) here))

parent_inside : (classes : List Class) (c p : ℕ) (k : Option Class) → slice_get classes c ≡ k → option_and_then (λ (j : Class). j.parent) k ≡ Some p → c < length classes
parent_inside classes c p None is h = absurd cc
parent_inside classes c p (Some k) is h = slice_get_within classes c k is

no_parent : (classes : List Class) (spans : List Span) (c p : ℕ) → AreSpans classes spans → slice_get spans c ≡ None → parent_of classes c ≡ Some p → ⊥
no_parent classes spans c p are none h =
    let lt = parent_inside classes c p (slice_get classes c) refl h in
    let count = are.count in
    let there = there_is spans c (omega (arith, lt, count)) in
    absurd (let both = sym none ∙ there.1 in cc)

itself_alone : (classes : List Class) (spans : List Span) (c d : ℕ) → AreSpans classes spans → slice_get spans c ≡ None
    → (c ≡ d) ⊎ ((p : ℕ) × (parent_of classes c ≡ Some p) × Descends classes p d) → (c == d) ≡ true
itself_alone classes spans c d are none (inl same) = (Decides-eqb c d).1 same
itself_alone classes spans c d are none (inr above) = absurd (no_parent classes spans c above.0 are none above.1)

-- a number without a span descends from itself alone
pub alone : (classes : List Class) (spans : List Span) (c d : ℕ) (r : Bool) → AreSpans classes spans → slice_get spans c ≡ None → r ≡ (c == d) → IsTrue r ↔ Descends classes c d
alone classes spans c d r are none is = (
  λ t. subst (Descends classes c) (eqb-true c d (sym is ∙ t)) (itself c),
  λ h. is ∙ itself_alone classes spans c d are none (by_parent classes c d h),
)

-- a class descends from no number without a span
pub none_above : (classes : List Class) (spans : List Span) (c d : ℕ) (k : Span) → ParentsAreEarlier classes → slice_get spans c ≡ Some k → slice_get spans d ≡ None → Descends classes c d → ⊥
none_above classes spans c d k earlier here none h =
    let low = not_later classes earlier c d h in
    let lt = slice_get_within spans c k here in
    let there = there_is spans d (omega (arith, low, lt)) in
    absurd (let both = sym none ∙ there.1 in cc)

-- a truth value that says whether one class descends from another is what the climb gives
pub descends_told : (classes : List Class) (c d : ℕ) (r : Bool) → ParentsAreEarlier classes → IsTrue r ↔ Descends classes c d → r ≡ descends_in classes c d
descends_told classes c d r earlier is = same_from_decides r (descends_in classes c d) is (descends_decides classes earlier c d (descends_in classes c d) refl)
