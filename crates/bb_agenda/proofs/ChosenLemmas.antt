-- The first of the best of a list, kept while the list is gone through.
use Rattle.std.proofs.Common.{◌≡◌, ℕ, zero, suc, ◌<◌, ◌≤◌, ◌⊎◌, inl, inr, Bool, true, false, not, cond, ◌&&◌, ◌||◌, List, [], ◌∷◌, ◌++◌, Option, Some, None, refl, sym, ap, subst, ◌∙◌, arith, ℤ, ◌<ℤ◌, ◌≤ℤ◌, find, int_lt, append_assoc}
use Rattle.std.specs.Prelude.{nat_lt, Contains}
use Rattle.std.specs.Bool.{Decides}
use Rattle.std.specs.List.{list_all, AllByRecursion}
use Rattle.std.specs.Option.{option_or, option_map_or}
use Rattle.std.specs.Ordering.{int_eq}
use Rattle.std.proofs.lemmas.Bool.{and_parts, and_left, and_right, not-true, not_from_false, false_from_ne_true, cases_lt, or_parts, and_cases}
use Rattle.std.proofs.lemmas.Bool.Decides.{Decides-int_eq, Decides-ltb, Decides-or, Decides-and, not_from_Decides}
use Rattle.std.proofs.lemmas.List.{append-nil}
use Rattle.std.proofs.lemmas.Int.{ints, by_lt_z}
use Rattle.std.proofs.lemmas.List.Folds.{find-append, list_all-append}
use Rattle.bb_agenda.specs.declared.focusing.activation.Activation.{Activation}
use Rattle.bb_agenda.specs.Chosen.{is_before, is_best, chosen, IsChosen}

module _ {X : Type 0} where
  pub find_none : (p : X → Bool) (xs : List X) → AllByRecursion (λ x. p x ≡ false) xs → find p xs ≡ None
  find_none p [] h = refl
  find_none p (x ∷ xs) h = ap (λ b. cond b (Some x) (find p xs)) h.0 ∙ find_none p xs h.1

  find_same : (p q : X → Bool) → ((x : X) → p x ≡ q x) → (xs : List X) → find p xs ≡ find q xs
  find_same p q h [] = refl
  find_same p q h (x ∷ xs) = ap (λ b. cond b (Some x) (find p xs)) (h x) ∙ ap (λ r. cond (q x) (Some x) r) (find_same p q h xs)

  pub each_weaker : (P Q : X → Type 0) → ((x : X) → P x → Q x) → (xs : List X) → AllByRecursion P xs → AllByRecursion Q xs
  each_weaker P Q h [] all = tt
  each_weaker P Q h (x ∷ xs) all = (h x all.0, each_weaker P Q h xs all.1)

  pub each_more : (P : X → Type 0) (xs : List X) (a : X) → AllByRecursion P xs → P a → AllByRecursion P (xs ++ a ∷ [])
  each_more P [] a all here = (here, tt)
  each_more P (x ∷ xs) a all here = (all.0, each_more P xs a all.1 here)

  list_all_from_each : (p : X → Bool) (xs : List X) → AllByRecursion (λ x. p x ≡ true) xs → list_all p xs ≡ true
  list_all_from_each p [] all = refl
  list_all_from_each p (x ∷ xs) all = ap (λ b. b && list_all p xs) all.0 ∙ list_all_from_each p xs all.1

  each_from_list_all : (p : X → Bool) (xs : List X) → list_all p xs ≡ true → AllByRecursion (λ x. p x ≡ true) xs
  each_from_list_all p [] all = tt
  each_from_list_all p (x ∷ xs) all =
      let both = and_parts (p x) (list_all p xs) all in
      (both.0, each_from_list_all p xs both.1)

  -- the one that is found passes, and what holds of each holds of it
  passes_at : (p : X → Bool) (x : X) (xs : List X) (b : X) (t : Bool) → p x ≡ t → (find p xs ≡ Some b → p b ≡ true) → cond t (Some x) (find p xs) ≡ Some b → p b ≡ true
  passes_at p x xs b true is further h = let same : x ≡ b = cc in subst (λ y. p y ≡ true) same is
  passes_at p x xs b false is further h = further h

  pub found_passes : (p : X → Bool) (xs : List X) (b : X) → find p xs ≡ Some b → p b ≡ true
  found_passes p [] b h = absurd cc
  found_passes p (x ∷ xs) b h = passes_at p x xs b (p x) refl (found_passes p xs b) h

  holds_at : (p : X → Bool) (P : X → Type 0) (x : X) (xs : List X) (b : X) (t : Bool) → P x → (find p xs ≡ Some b → P b) → cond t (Some x) (find p xs) ≡ Some b → P b
  holds_at p P x xs b true here further h = let same : x ≡ b = cc in subst P same here
  holds_at p P x xs b false here further h = further h

  pub found_holds : (p : X → Bool) (P : X → Type 0) (xs : List X) (b : X) → AllByRecursion P xs → find p xs ≡ Some b → P b
  found_holds p P [] b all h = absurd cc
  found_holds p P (x ∷ xs) b all h = holds_at p P x xs b (p x) all.0 (found_holds p P xs b all.1) h

-- how those of a list stand to each other and to a floor
record Ranks {X : Type 0} (low : X → Bool) (before : X → X → Bool) : Type 0 where
  itself : (a : X) → before a a ≡ false
  further : (a b c : X) → before a b ≡ true → before b c ≡ true → before a c ≡ true
  past : (a b c : X) → before a b ≡ true → before c b ≡ false → before a c ≡ true
  lows : (a b : X) → low a ≡ true → low b ≡ false → before a b ≡ false

abbrev pub none_before : {X : Type 0} → (X → X → Bool) → List X → X → Bool
none_before before xs c = list_all (λ b. not (before b c)) xs

abbrev pub best_of : {X : Type 0} → (X → Bool) → (X → X → Bool) → List X → X → Bool
best_of low before xs c = not (low c) && none_before before xs c

-- the first of the best of a list; where there is none, all are too low
pub record IsFirst {X : Type 0} (low : X → Bool) (before : X → X → Bool) (xs : List X) (r : Option X) : Type 0 where
  pub found : r ≡ find (best_of low before xs) xs
  pub none : r ≡ None → AllByRecursion (λ x. low x ≡ true) xs

module _ {X : Type 0} (low : X → Bool) (before : X → X → Bool) (ranks : Ranks low before) where
  none_before_more : (xs : List X) (a c : X) (t : Bool) → before a c ≡ t → none_before before (xs ++ a ∷ []) c ≡ (none_before before xs c && (not t && true))
  none_before_more xs a c t is = list_all-append (λ b. not (before b c)) xs (a ∷ []) ∙ ap (λ u. none_before before xs c && (not u && true)) is

  and_true : (b : Bool) → (b && true) ≡ b
  and_true true = refl
  and_true false = refl

  and_false : (b : Bool) → (b && false) ≡ false
  and_false true = refl
  and_false false = refl

  none_before_same : (xs : List X) (a c : X) → before a c ≡ false → none_before before (xs ++ a ∷ []) c ≡ none_before before xs c
  none_before_same xs a c is = none_before_more xs a c false is ∙ and_true (none_before before xs c)

  none_before_lost : (xs : List X) (a c : X) → before a c ≡ true → none_before before (xs ++ a ∷ []) c ≡ false
  none_before_lost xs a c is = none_before_more xs a c true is ∙ and_false (none_before before xs c)

  -- one more that is too low
  same_below : (xs : List X) (a : X) → low a ≡ true → (c : X) (t : Bool) → low c ≡ t → best_of low before (xs ++ a ∷ []) c ≡ best_of low before xs c
  same_below xs a is c true under = ap (λ u. not u && none_before before (xs ++ a ∷ []) c) under ∙ sym (ap (λ u. not u && none_before before xs c) under)
  same_below xs a is c false over = ap (λ u. not (low c) && u) (none_before_same xs a c (ranks.lows a c is over))

  or_none : (r : Option X) → option_or r None ≡ r
  or_none None = refl
  or_none (Some x) = refl

  first_with_low : (xs : List X) (a : X) (r : Option X) → IsFirst low before xs r → low a ≡ true → IsFirst low before (xs ++ a ∷ []) r
  first_with_low xs a r first is =
      let q = best_of low before (xs ++ a ∷ []) in
      let front : find q xs ≡ r = find_same q (best_of low before xs) (λ c. same_below xs a is c (low c) refl) xs ∙ sym first.found in
      let last : find q (a ∷ []) ≡ None = ap (λ u. cond (not u && none_before before (xs ++ a ∷ []) a) (Some a) None) is in
      record {
        found = sym (find-append q xs (a ∷ []) ∙ (ap (λ s. option_or s (find q (a ∷ []))) front ∙ (ap (λ s. option_or r s) last ∙ or_none r)));
        none = λ e. each_more (λ x. low x ≡ true) xs a (first.none e) is;
      }

  -- one more that is best of all
  now_best : (xs : List X) (a : X) → low a ≡ false → AllByRecursion (λ x. best_of low before (xs ++ a ∷ []) x ≡ false) xs → AllByRecursion (λ x. before x a ≡ false) xs → IsFirst low before (xs ++ a ∷ []) (Some a)
  now_best xs a over lost after =
      let q = best_of low before (xs ++ a ∷ []) in
      let clear : none_before before xs a ≡ true = list_all_from_each (λ b. not (before b a)) xs (each_weaker (λ x. before x a ≡ false) (λ x. not (before x a) ≡ true) (λ x. not_from_false (before x a)) xs after) in
      let here : q a ≡ true = ap (λ u. not u && none_before before (xs ++ a ∷ []) a) over ∙ (none_before_same xs a a (ranks.itself a) ∙ clear) in
      record {
        found = sym (find-append q xs (a ∷ []) ∙ (ap (λ s. option_or s (find q (a ∷ []))) (find_none q xs lost) ∙ ap (λ u. cond u (Some a) None) here));
        none = λ e. absurd cc;
      }

  -- the first that is not too low
  opened : (xs : List X) (a : X) → IsFirst low before xs None → low a ≡ false → IsFirst low before (xs ++ a ∷ []) (Some a)
  opened xs a first over =
      let under = first.none refl in
      now_best xs a over
      (each_weaker (λ x. low x ≡ true) (λ x. best_of low before (xs ++ a ∷ []) x ≡ false) (λ x e. ap (λ u. not u && none_before before (xs ++ a ∷ []) x) e) xs under)
      (each_weaker (λ x. low x ≡ true) (λ x. before x a ≡ false) (λ x e. ranks.lows x a e over) xs under)

  -- nothing stands before one that is best
  nothing_before : (xs : List X) (c : X) → none_before before xs c ≡ true → AllByRecursion (λ x. before x c ≡ false) xs
  nothing_before xs c h = each_weaker (λ x. not (before x c) ≡ true) (λ x. before x c ≡ false) (λ x. not-true (before x c)) xs (each_from_list_all (λ x. not (before x c)) xs h)

  best_first : (xs : List X) (b : X) → IsFirst low before xs (Some b) → AllByRecursion (λ x. before x b ≡ false) xs
  best_first xs b first = nothing_before xs b (and_parts (not (low b)) (none_before before xs b) (found_passes (best_of low before xs) xs b (sym first.found))).1

  -- one more that stands before the best so far
  overtaken : (xs : List X) (a b : X) → IsFirst low before xs (Some b) → low a ≡ false → before a b ≡ true → IsFirst low before (xs ++ a ∷ []) (Some a)
  overtaken xs a b first over is =
      let behind = best_first xs b first in
      now_best xs a over
      (each_weaker (λ x. before x b ≡ false) (λ x. best_of low before (xs ++ a ∷ []) x ≡ false) (λ x e. and_right (not (low x)) (none_before before (xs ++ a ∷ []) x) (none_before_lost xs a x (ranks.past a b x is e))) xs behind)
      (each_weaker (λ x. before x b ≡ false) (λ x. before x a ≡ false) (λ x e. false_from_ne_true (before x a) (λ t. let u : before x b ≡ true = ranks.further x a b t is in absurd cc)) xs behind)

  -- one more that does not
  same_behind : (xs : List X) (a b : X) → IsFirst low before xs (Some b) → before a b ≡ false → (c : X) (t : Bool) → none_before before xs c ≡ t → none_before before (xs ++ a ∷ []) c ≡ none_before before xs c
  same_behind xs a b first is c true clear =
      let apart : before b c ≡ false = found_holds (best_of low before xs) (λ x. before x c ≡ false) xs b (nothing_before xs c clear) (sym first.found) in
      none_before_same xs a c (false_from_ne_true (before a c) (λ t. let u : before a b ≡ true = ranks.past a c b t apart in absurd cc))
  same_behind xs a b first is c false lost = none_before_more xs a c (before a c) refl ∙ (and_left (none_before before xs c) (not (before a c) && true) lost ∙ sym lost)

  first_with_later : (xs : List X) (a b : X) → IsFirst low before xs (Some b) → before a b ≡ false → IsFirst low before (xs ++ a ∷ []) (Some b)
  first_with_later xs a b first is =
      let q = best_of low before (xs ++ a ∷ []) in
      let front : find q xs ≡ Some b = find_same q (best_of low before xs) (λ c. ap (λ u. not (low c) && u) (same_behind xs a b first is c (none_before before xs c) refl)) xs ∙ sym first.found in
      record {
        found = sym (find-append q xs (a ∷ []) ∙ ap (λ s. option_or s (find q (a ∷ []))) front);
        none = λ e. absurd cc;
      }

-- a rating and a number that come before others
unfoldable pub Precedes : (r : ℤ) (m : ℕ) (s : ℤ) (n : ℕ) → Type 0
Precedes r m s n = (s <ℤ r) ⊎ ((s ≡ r) × (m < n))

pub lt_decides : (x y : ℤ) → Decides (int_lt x y) (x <ℤ y)
lt_decides x y = (λ e. omega (arith, ints), λ h. grind (arith, ints))

pub precedes_decides : (r : ℤ) (m : ℕ) (s : ℤ) (n : ℕ) → Decides (int_lt s r || (int_eq s r && nat_lt m n)) (Precedes r m s n)
unfolding Precedes
precedes_decides r m s n = Decides-or (int_lt s r) (int_eq s r && nat_lt m n) (lt_decides s r) (Decides-and (int_eq s r) (nat_lt m n) (Decides-int_eq s r) (Decides-ltb m n))

decides : (rate : Activation → ℤ) (b a : Activation) → Decides (is_before rate b a) (Precedes (rate b) b.number (rate a) a.number)
decides rate b a = precedes_decides (rate b) b.number (rate a) a.number

not_itself : (r : ℤ) (m : ℕ) → Precedes r m r m → ⊥
unfolding Precedes
not_itself r m (inl h) = omega (arith, ints)
not_itself r m (inr h) = omega (arith, h.1)

pub precedes_further : (r : ℤ) (k : ℕ) (s : ℤ) (m : ℕ) (t : ℤ) (n : ℕ) → Precedes r k s m → Precedes s m t n → Precedes r k t n
unfolding Precedes
precedes_further r k s m t n (inl h) (inl g) = inl (omega (arith, ints))
precedes_further r k s m t n (inl h) (inr g) = inl (subst (λ x. x <ℤ r) (sym g.0) h)
precedes_further r k s m t n (inr h) (inl g) = inl (subst (λ x. t <ℤ x) h.0 g)
precedes_further r k s m t n (inr h) (inr g) = inr (g.0 ∙ h.0, omega (arith, h.1, g.1))

-- r and k come before s and m, and t and n do not
past_at : (r : ℤ) (k : ℕ) (s : ℤ) (m : ℕ) (t : ℤ) (n : ℕ) → (s ≡ r) → (k < m) → (Precedes t n s m → ⊥) → r ≤ℤ t → s ≡ t → (n < m) ⊎ (m ≤ n) → Precedes r k t n
unfolding Precedes
past_at r k s m t n is lt apart le same (inl h) = absurd (apart (inr (same, h)))
past_at r k s m t n is lt apart le same (inr h) = inr (sym same ∙ is, omega arith)

pub precedes_past : (r : ℤ) (k : ℕ) (s : ℤ) (m : ℕ) (t : ℤ) (n : ℕ) → Precedes r k s m → (Precedes t n s m → ⊥) → Precedes r k t n
unfolding Precedes
precedes_past r k s m t n (inl h) apart =
    by_lt_z t r (λ lt. inl lt) (λ le. absurd (apart (inl (omega (arith, ints)))))
precedes_past r k s m t n (inr h) apart =
    by_lt_z t r (λ lt. inl lt)
    (λ le. by_lt_z s t (λ lt. absurd (apart (inl lt)))
    (λ ge. past_at r k s m t n h.0 h.1 apart le (let e : s ≡ r = h.0 in let same : s ≡ t = omega (arith, ints) in same) (cases_lt n m)))

not_low : (r : ℤ) (m : ℕ) (s : ℤ) (n : ℕ) (floor : ℤ) → int_lt r floor ≡ true → int_lt s floor ≡ false → Precedes r m s n → ⊥
unfolding Precedes
not_low r m s n floor p q (inl h) = omega (arith, ints)
not_low r m s n floor p q (inr h) = absurd (let other : int_lt s floor ≡ true = ap (λ x. int_lt x floor) h.0 ∙ p in cc)

ranked : (rate : Activation → ℤ) (floor : ℤ) → Ranks (λ a. int_lt (rate a) floor) (is_before rate)
ranked rate floor = record {
  itself = λ a. false_from_ne_true (is_before rate a a) (λ t. not_itself (rate a) a.number ((decides rate a a).0 t));
  further = λ a b c p q. (decides rate a c).1 (precedes_further (rate a) a.number (rate b) b.number (rate c) c.number ((decides rate a b).0 p) ((decides rate b c).0 q));
  past = λ a b c p q. (decides rate a c).1 (precedes_past (rate a) a.number (rate b) b.number (rate c) c.number ((decides rate a b).0 p) (not_from_Decides (is_before rate c b) (decides rate c b) q));
  lows = λ a b p q. false_from_ne_true (is_before rate a b) (λ t. not_low (rate a) a.number (rate b) b.number floor p q ((decides rate a b).0 t));
}

-- the better of the best so far and of one more
abbrev pub better : (Activation → ℤ) → Option Activation → Activation → Activation
better rate r a = option_map_or (λ b. cond (is_before rate a b) a b) r a

-- the best of the first of a list
abbrev pub BestOf : (Activation → ℤ) → ℤ → List Activation → Option Activation → Type 0
BestOf rate floor xs r = IsFirst (λ a. int_lt (rate a) floor) (is_before rate) xs r

pub best_none : (rate : Activation → ℤ) (floor : ℤ) → BestOf rate floor [] None
best_none rate floor = record { found = refl; none = λ e. tt }

best_with_one : (rate : Activation → ℤ) (floor : ℤ) (xs : List Activation) (a : Activation) (r : Option Activation) (t : Bool) → BestOf rate floor xs r → int_lt (rate a) floor ≡ false → ((b : Activation) → r ≡ Some b → is_before rate a b ≡ t) → BestOf rate floor (xs ++ a ∷ []) (Some (better rate r a))
best_with_one rate floor xs a None t first over is = opened (λ a. int_lt (rate a) floor) (is_before rate) (ranked rate floor) xs a first over
best_with_one rate floor xs a (Some b) true first over is = rw (is b refl) (overtaken (λ a. int_lt (rate a) floor) (is_before rate) (ranked rate floor) xs a b first over (is b refl))
best_with_one rate floor xs a (Some b) false first over is = rw (is b refl) (first_with_later (λ a. int_lt (rate a) floor) (is_before rate) (ranked rate floor) xs a b first (is b refl))

compared : (rate : Activation → ℤ) (a : Activation) (r : Option Activation) → (t : Bool) × ((b : Activation) → r ≡ Some b → is_before rate a b ≡ t)
compared rate a None = (true, λ b e. absurd cc)
compared rate a (Some c) = (is_before rate a c, λ b e. let same : c ≡ b = cc in ap (is_before rate a) (sym same))

-- what the whole of a list brings
best_with_all : (rate : Activation → ℤ) (floor : ℤ) (xs ys : List Activation) (r : Option Activation) → BestOf rate floor xs r → (s : Option Activation) × BestOf rate floor (xs ++ ys) s
best_with_all rate floor xs [] r first = (r, subst (λ l. BestOf rate floor l r) (sym (append-nil xs)) first)
best_with_all rate floor xs (y ∷ ys) r first =
    let next = by (int_lt (rate y) floor) refl in
    subst (λ l. (s : Option Activation) × BestOf rate floor l s) (append_assoc xs (y ∷ []) ys) (best_with_all rate floor (xs ++ y ∷ []) ys next.0 next.1)
  where
    by : (t : Bool) → int_lt (rate y) floor ≡ t → (s : Option Activation) × BestOf rate floor (xs ++ y ∷ []) s
    by true low = (r, first_with_low (λ a. int_lt (rate a) floor) (is_before rate) (ranked rate floor) xs y r first low)
    by false over = let t = compared rate y r in (Some (better rate r y), best_with_one rate floor xs y r t.0 first over t.1)

-- where nothing is best, all are too low
all_low : (rate : Activation → ℤ) (floor : ℤ) (xs : List Activation) → find (is_best rate floor xs) xs ≡ None → AllByRecursion (λ a. int_lt (rate a) floor ≡ true) xs
all_low rate floor xs none =
    let all = best_with_all rate floor [] xs None (best_none rate floor) in
    all.1.none (all.1.found ∙ none)

module _ {X : Type 0} where
  -- what passes for the whole list passes for one of it
  pub contained_passes : (p : X → Bool) (xs : List X) (b : X) → list_all p xs ≡ true → Contains xs b → p b ≡ true
  contained_passes p [] b all (k, lt, is) = absurd (omega arith)
  contained_passes p (x ∷ xs) b all (zero, lt, is) = subst (λ y. p y ≡ true) is (and_parts (p x) (list_all p xs) all).0
  contained_passes p (x ∷ xs) b all (suc k, lt, is) = contained_passes p xs b (and_parts (p x) (list_all p xs) all).1 (k, omega arith, is)

  pub contained_holds : (P : X → Type 0) (xs : List X) (b : X) → AllByRecursion P xs → Contains xs b → P b
  contained_holds P [] b all (k, lt, is) = absurd (omega arith)
  contained_holds P (x ∷ xs) b all (zero, lt, is) = subst P is all.0
  contained_holds P (x ∷ xs) b all (suc k, lt, is) = contained_holds P xs b all.1 (k, omega arith, is)

  contained_later : (x : X) (xs : List X) (b : X) → Contains xs b → Contains (x ∷ xs) b
  contained_later x xs b (k, lt, is) = (suc k, omega arith, is)

  pub found_in : (p : X → Bool) (xs : List X) (b : X) → find p xs ≡ Some b → Contains xs b
  found_in p [] b h = absurd cc
  found_in p (x ∷ xs) b h = by (p x) h (found_in p xs b)
    where
      by : (t : Bool) → cond t (Some x) (find p xs) ≡ Some b → (find p xs ≡ Some b → Contains xs b) → Contains (x ∷ xs) b
      by true h further = let same : x ≡ b = cc in (0, omega arith, same)
      by false h further = contained_later x xs b (further h)

-- where b does not come before a
pub not_before : (rate : Activation → ℤ) (b a : Activation) → is_before rate b a ≡ false → (rate b ≤ℤ rate a) × (rate b ≡ rate a → a.number ≤ b.number)
not_before rate b a apart =
    let parts = or_parts (int_lt (rate a) (rate b)) (int_eq (rate a) (rate b) && nat_lt b.number a.number) apart in
    (by_lt_z (rate a) (rate b) (λ lt. absurd (let e : int_lt (rate a) (rate b) ≡ true = grind (arith, ints) in let f = parts.0 in cc)) (λ le. le), later (and_cases (int_eq (rate a) (rate b)) (nat_lt b.number a.number) parts.1))
  where
    later : (int_eq (rate a) (rate b) ≡ false) ⊎ (nat_lt b.number a.number ≡ false) → rate b ≡ rate a → a.number ≤ b.number
    later (inl other) same = absurd (not_from_Decides (int_eq (rate a) (rate b)) (Decides-int_eq (rate a) (rate b)) other (sym same))
    later (inr other) same = by (cases_lt b.number a.number)
      where
        by : (b.number < a.number) ⊎ (a.number ≤ b.number) → a.number ≤ b.number
        by (inl lt) = absurd (not_from_Decides (nat_lt b.number a.number) (Decides-ltb b.number a.number) other lt)
        by (inr le) = le

-- what is chosen is pending, enough, highest and of equals the first
pub chosen_some : (rate : Activation → ℤ) (floor : ℤ) (pending : List Activation) (a : Activation) → chosen rate floor pending ≡ Some a → IsChosen rate floor pending a
chosen_some rate floor pending a is =
    let best = and_parts (not (int_lt (rate a) floor)) (list_all (λ b. not (is_before rate b a)) pending) (found_passes (is_best rate floor pending) pending a is) in
    let after : (b : Activation) → Contains pending b → is_before rate b a ≡ false = λ b there. not-true (is_before rate b a) (contained_passes (λ c. not (is_before rate c a)) pending b best.1 there) in
    record {
      waits = found_in (is_best rate floor pending) pending a is;
      enough = by_lt_z (rate a) floor (λ lt. absurd (let e : int_lt (rate a) floor ≡ true = grind (arith, ints) in let f = not-true (int_lt (rate a) floor) best.0 in cc)) (λ le. le);
      highest = λ b there. (not_before rate b a (after b there)).0;
      earliest = λ b there. (not_before rate b a (after b there)).1;
    }

-- where nothing is chosen, all that is pending is rated below the floor
pub chosen_none : (rate : Activation → ℤ) (floor : ℤ) (pending : List Activation) → chosen rate floor pending ≡ None → (b : Activation) → Contains pending b → rate b <ℤ floor
chosen_none rate floor pending is b there =
    let low : int_lt (rate b) floor ≡ true = contained_holds (λ a. int_lt (rate a) floor ≡ true) pending b (all_low rate floor pending is) there in
    by_lt_z (rate b) floor (λ lt. lt) (λ le. absurd (let e : int_lt (rate b) floor ≡ false = grind (arith, ints) in cc))
