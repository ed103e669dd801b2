-- The heirs of a class, as a least set of classes.
use Rattle.std.proofs.Common.{◌≡◌, ℕ, zero, suc, ◌+◌, ◌<◌, ◌≤◌, ◌&&◌, ◌||◌, Bool, true, false, List, [], ◌∷◌, length, Option, Some, None, refl, sym, ap, ◌∙◌, arith}
use Rattle.std.specs.Prelude.{◌==◌, slice_get, option_and_then, filter_map, if◌then◌else◌}
use Rattle.std.specs.List.{range_with_len}
use Rattle.std.specs.List.{cons_option}
use Rattle.std.proofs.lemmas.Bool.{or_left, or_right, eq-eqb, eqb-true, eqb-false}
use Rattle.bb_basis.proofs.ClosureLemmas.{has, closure_first, closure_closed, closure_least}
use Rattle.bb_schema_classes.specs.declared.class.Class.{Class}
use Rattle.bb_schema_classes.specs.declared.kind.Link.{Link}
use Rattle.bb_schema_classes.specs.Inheritance.{ParentsAreEarlier, is_among}
use Rattle.bb_schema.specs.declared.slot.Slot.{Slot}
use Rattle.bb_schema.specs.Slots.{link_in}
use Rattle.bb_schema.specs.Heirs.{related_in, owned_class, owned_classes, heirs_in}
use Rattle.bb_schema.proofs.LineageLemmas.{related_within}

-- ---- numbers of classes

range_by : (a n e : ℕ) (b : Bool) → (a == e) ≡ b → a ≤ e → (suc a ≤ e → has (range_with_len (a + 1) n) e ≡ true) → (b || has (range_with_len (a + 1) n) e) ≡ true
range_by a n e true same le rest = refl
range_by a n e false other le rest = rest (let apart = eqb-false a e other in omega (arith, le, apart))

range_has : (n a e : ℕ) → a ≤ e → e < a + n → has (range_with_len a n) e ≡ true
range_has zero a e le lt = absurd (omega (arith, le, lt))
range_has (suc n) a e le lt = range_by a n e (a == e) refl le (λ more. range_has n (a + 1) e (omega (arith, more)) (omega (arith, lt)))

-- each number below is among them
pub has_below : (n e : ℕ) → e < n → has (range_with_len 0 n) e ≡ true
has_below n e lt = range_has n 0 e (omega arith) (omega (arith, lt))

within_by : (a n e : ℕ) (b : Bool) → (a == e) ≡ b → (has (range_with_len (a + 1) n) e ≡ true → e < a + 1 + n) → (b || has (range_with_len (a + 1) n) e) ≡ true → e < a + suc n
within_by a n e true same rest h = let is = eqb-true a e same in omega (arith, is)
within_by a n e false other rest h = let lt = rest h in omega (arith, lt)

range_within : (n a e : ℕ) → has (range_with_len a n) e ≡ true → e < a + n
range_within zero a e h = absurd cc
range_within (suc n) a e h = within_by a n e (a == e) refl (range_within n (a + 1) e) h

-- and no other
pub below_has : (n e : ℕ) → has (range_with_len 0 n) e ≡ true → e < n
below_has n e h = let lt = range_within n 0 e h in omega (arith, lt)

-- ---- where owning slots lead

-- a number that is among those that some items give
record IsGiven {X : Type 0} (f : X → Option ℕ) (xs : List X) (e : ℕ) : Type 0 where
  pub number : ℕ
  pub item : X
  pub at : slice_get xs number ≡ Some item
  pub gives : f item ≡ Some e

given_later : {X : Type 0} (f : X → Option ℕ) (x : X) (xs : List X) (e : ℕ) → IsGiven f xs e → IsGiven f (x ∷ xs) e
given_later f x xs e given = record { number = suc given.number; item = given.item; at = given.at; gives = given.gives }

given_first : {X : Type 0} (f : X → Option ℕ) (x : X) (xs : List X) (d e : ℕ) (b : Bool) (rest : Bool) → f x ≡ Some d → (d == e) ≡ b → (rest ≡ true → IsGiven f xs e) → (b || rest) ≡ true → IsGiven f (x ∷ xs) e
given_first f x xs d e true rest is same more h = record { number = 0; item = x; at = refl; gives = is ∙ ap (λ n. Some n) (eqb-true d e same) }
given_first f x xs d e false rest is other more h = given_later f x xs e (more h)

given_by : {X : Type 0} (f : X → Option ℕ) (x : X) (xs : List X) (e : ℕ) (o : Option ℕ) → f x ≡ o → (has (filter_map f xs) e ≡ true → IsGiven f xs e) → has (cons_option o (filter_map f xs)) e ≡ true → IsGiven f (x ∷ xs) e
given_by f x xs e None is more h = given_later f x xs e (more h)
given_by f x xs e (Some d) is more h = given_first f x xs d e (d == e) (has (filter_map f xs) e) is refl more h

given : {X : Type 0} (f : X → Option ℕ) (xs : List X) (e : ℕ) → has (filter_map f xs) e ≡ true → IsGiven f xs e
given f [] e h = absurd cc
given f (x ∷ xs) e h = given_by f x xs e (f x) refl (given f xs e) h

has_more : (o : Option ℕ) (ds : List ℕ) (e : ℕ) → has ds e ≡ true → has (cons_option o ds) e ≡ true
has_more None ds e h = h
has_more (Some d) ds e h = or_right (d == e) (has ds e) h

has_first : (o : Option ℕ) (ds : List ℕ) (e : ℕ) → o ≡ Some e → has (cons_option o ds) e ≡ true
has_first None ds e h = absurd cc
has_first (Some d) ds e h = or_left (d == e) (has ds e) (eq-eqb d e (let same : d ≡ e = cc in same))

has_given : {X : Type 0} (f : X → Option ℕ) (xs : List X) (i : ℕ) (x : X) (e : ℕ) → slice_get xs i ≡ Some x → f x ≡ Some e → has (filter_map f xs) e ≡ true
has_given f [] i x e at is = absurd cc
has_given f (y ∷ xs) zero x e at is = let same : y ≡ x = cc in has_first (f y) (filter_map f xs) e (ap f same ∙ is)
has_given f (y ∷ xs) (suc i) x e at is = has_more (f y) (filter_map f xs) e (has_given f xs i x e at is)

-- a slot that owns leads from c to e
pub record IsLed (classes : List Class) (slots : List Slot) (c e : ℕ) : Type 0 where
  pub number : ℕ
  pub slot : Slot
  pub at : slice_get slots number ≡ Some slot
  pub link : Link
  pub is : link_in slot.content ≡ Some link
  pub owns : link.owns ≡ true
  pub related : related_in classes c slot.owner ≡ true
  pub to : link.to ≡ e

taken_by : (a b : Bool) (to e : ℕ) → (let o : Option ℕ = if a && b then Some to else None in o) ≡ Some e → (a ≡ true) × (b ≡ true) × (to ≡ e)
taken_by true true to e h = (refl, refl, let same : to ≡ e = cc in same)
taken_by true false to e h = absurd cc
taken_by false b to e h = absurd cc

led_by : (classes : List Class) (slots : List Slot) (c e number : ℕ) (slot : Slot) → slice_get slots number ≡ Some slot → (o : Option Link) → link_in slot.content ≡ o
    → option_and_then (λ l. if l.owns && related_in classes c slot.owner then Some l.to else None) o ≡ Some e → IsLed classes slots c e
led_by classes slots c e number slot at None is h = absurd cc
led_by classes slots c e number slot at (Some l) is h =
    let taken = taken_by l.owns (related_in classes c slot.owner) l.to e h in
    record { number = number; slot = slot; at = at; link = l; is = is; owns = taken.0; related = taken.1; to = taken.2 }

-- where c leads, a slot leads
pub led : (classes : List Class) (slots : List Slot) (c e : ℕ) → is_among (owned_classes classes slots c) e ≡ true → IsLed classes slots c e
unfolding is_among
led classes slots c e h =
    let g = given (owned_class classes c) slots e h in
    led_by classes slots c e g.number g.item g.at (link_in g.item.content) refl g.gives

taken : (a b : Bool) (to : ℕ) → a ≡ true → b ≡ true → (let o : Option ℕ = if a && b then Some to else None in o) ≡ Some to
taken true true to e f = refl
taken true false to e f = absurd cc
taken false b to e f = absurd cc

-- where a slot leads, each class leads that is related to the slot's own
pub leads_by : (classes : List Class) (slots : List Slot) (c number : ℕ) (slot : Slot) (l : Link) → slice_get slots number ≡ Some slot → link_in slot.content ≡ Some l
    → l.owns ≡ true → related_in classes c slot.owner ≡ true → is_among (owned_classes classes slots c) l.to ≡ true
unfolding is_among
leads_by classes slots c number slot l at is owns related =
    has_given (owned_class classes c) slots number slot l.to at (ap (option_and_then (λ (k : Link). if k.owns && related_in classes c slot.owner then Some k.to else None)) is
    ∙ taken l.owns (related_in classes c slot.owner) l.to owns related)

-- ---- slots are of classes, and lead to classes

pub record AreSound (classes : List Class) (slots : List Slot) : Type 0 where
  pub parents : ParentsAreEarlier classes
  pub owner : (n : ℕ) (t : Slot) → slice_get slots n ≡ Some t → t.owner < length classes
  pub to : (n : ℕ) (t : Slot) (l : Link) → slice_get slots n ≡ Some t → link_in t.content ≡ Some l → l.to < length classes

-- ---- the set

module _ (classes : List Class) (slots : List Slot) (sound : AreSound classes slots) where
  abbrev pub leads : ℕ → ℕ → Bool
  leads c = is_among (owned_classes classes slots c)

  -- a class leads to classes
  pub leads_within : (c e : ℕ) → leads c e ≡ true → e < length classes
  leads_within c e h = let l = led classes slots c e h in omega (arith, sound.to l.number l.slot l.link l.at l.is, l.to)

  -- what leads somewhere is a class
  pub leads_from : (c e : ℕ) → leads c e ≡ true → c < length classes
  leads_from c e h =
      let l = led classes slots c e h in
      related_within classes sound.parents c l.slot.owner l.related (sound.owner l.number l.slot l.at)

  abbrev all : ℕ → List ℕ
  all d = d ∷ range_with_len 0 (length classes)

  all_has : (d e : ℕ) → e < length classes → has (all d) e ≡ true
  all_has d e lt = or_right (d == e) (has (range_with_len 0 (length classes)) e) (has_below (length classes) e lt)

  all_first : (d : ℕ) → has (all d) d ≡ true
  all_first d = or_left (d == d) (has (range_with_len 0 (length classes)) d) (eq-eqb d d refl)

  pub heirs_first : (d : ℕ) → has (heirs_in classes slots d) d ≡ true
  unfolding heirs_in
  heirs_first d = closure_first leads (all d) d (all_first d)

  pub heirs_closed : (d m e : ℕ) → has (heirs_in classes slots d) m ≡ true → leads m e ≡ true → has (heirs_in classes slots d) e ≡ true
  unfolding heirs_in
  heirs_closed d m e there h = closure_closed leads (all d) d m e there h (all_has d e (leads_within m e h))

  pub heirs_least : (d : ℕ) (P : ℕ → Type 0) → P d → ((m e : ℕ) → P m → leads m e ≡ true → P e) → (e : ℕ) → has (heirs_in classes slots d) e ≡ true → P e
  unfolding heirs_in
  heirs_least d P first next e there = closure_least leads (all d) d P first next e there

  pub heirs_within : (d e : ℕ) → d < length classes → has (heirs_in classes slots d) e ≡ true → e < length classes
  heirs_within d e lt there = heirs_least d (λ n. n < length classes) lt (λ m n _ h. leads_within m n h) e there

  -- the heirs of an heir are heirs
  pub heirs_of_heir : (d m e : ℕ) → has (heirs_in classes slots d) m ≡ true → has (heirs_in classes slots m) e ≡ true → has (heirs_in classes slots d) e ≡ true
  heirs_of_heir d m e there more = heirs_least m (λ n. has (heirs_in classes slots d) n ≡ true) there (λ j n h led. heirs_closed d j n h led) e more

  -- a class that leads nowhere has no other heir
  pub alone : (d : ℕ) → ((e : ℕ) → leads d e ≡ false) → (e : ℕ) → has (heirs_in classes slots d) e ≡ true → d ≡ e
  alone d nowhere e there =
      heirs_least d (λ n. d ≡ n) refl (λ m n same h. absurd (let no : true ≡ false = sym h ∙ (ap (λ k. leads k n) (sym same) ∙ nowhere n) in cc)) e there
