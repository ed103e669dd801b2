-- The tables of the loops of a code say what they are to say.
use Rattle.std.proofs.Common.{◌≡◌, ◌≢◌, ℕ, zero, suc, ◌+◌, ◌-◌, ◌<◌, ◌≤◌, Bool, true, false, List, [], ◌∷◌, length, take, get_or, set, Some, Ok, Result, refl, sym, ap, subst, ◌∙◌, cond, arith, length-set}
use Rattle.std.specs.Prelude.{nat_le, nat_lt, ◌==◌, ◌&&◌, ◌||◌, slice_get, slice_index}
use Rattle.std.specs.List.{list_any}
use Rattle.std.proofs.lemmas.List.{get_or-set_same, get_or-set_other}
use Rattle.std.proofs.lemmas.List.Folds.{list_any_more}
use Rattle.std.proofs.lemmas.Option.{slice_get-get_or}
use Rattle.std.proofs.lemmas.Bool.Decides.{nat_tests}
use Rattle.std.proofs.lemmas.Bool.{or_parts, and_parts}
use Rattle.bb_basis.proofs.BoolLemmas.{or_false, or_true}
use Rattle.bb_basis.specs.Results.{◌>>=◌}
use Rattle.bb_code.specs.declared.frame.Loop.{Loop}
use Rattle.bb_code.specs.declared.flaw.Flaw.{Flaw}
use Rattle.bb_code.specs.Each.{each}
use Rattle.bb_verify.specs.nesting.Jumps.{ahead}
use Rattle.bb_verify.specs.nesting.Loops.{check_order, never, holds, is_end, enters_at_head}
use Rattle.bb_verify.specs.nesting.proving.LoopTables.{reaches, holds_from, HasEnds, HasReach, IsDeepest, HasDeepest, HasHeads}
use Rattle.bb_verify.proofs.nesting_lemmas.LoopInversion.{ahead_ok}

same_number : (a b : ℕ) → (a == b) ≡ true → a ≡ b
same_number a b h = grind (arith, nat_tests)

other_number : (a b : ℕ) → (a == b) ≡ false → b ≢ a
other_number a b h = grind (arith, nat_tests)

-- ---- whether a loop ends at a place

ends_at : (es : List Bool) (end place : ℕ) (x : Bool) → place < length es → slice_get es place ≡ Some x → slice_get (set es end true) place ≡ Some (x || (end == place))
ends_at es end place x lt was = by (end == place) refl
  where
    long : place < length (set es end true)
    long = subst (λ k. place < k) (sym (length-set es end true)) lt

    by : (b : Bool) → (end == place) ≡ b → slice_get (set es end true) place ≡ Some (x || (end == place))
    by true same =
        let here : slice_get (set es end true) end ≡ Some true = slice_get-get_or (set es end true) end false (subst (λ k. k < length (set es end true)) (sym (same_number end place same)) long) ∙ ap (λ b. Some b) (get_or-set_same es end true false (subst (λ k. k < length es) (sym (same_number end place same)) lt)) in
        ap (λ k. slice_get (set es end true) k) (sym (same_number end place same)) ∙ (here ∙ ap (λ b. Some b) (sym (ap (λ c. x || c) same ∙ or_true x)))
    by false different =
        slice_get-get_or (set es end true) place false long
        ∙ (ap (λ b. Some b) (get_or-set_other es end place true false (other_number end place different))
        ∙ (sym (slice_get-get_or es place false lt) ∙ (was ∙ ap (λ b. Some b) (sym (ap (λ c. x || c) different ∙ or_false x)))))

pub ends_more : (n i : ℕ) (ls : List Loop) (d : Loop) (es : List Bool) → i < length ls → HasEnds n (take i ls) es → HasEnds n (take (i + 1) ls) (set es (get_or ls i d).end true)
ends_more n i ls d es lt had = record {
  len = length-set es (get_or ls i d).end true ∙ had.len;
  each = λ place inside.
      ends_at es (get_or ls i d).end place (list_any (is_end place) (take i ls)) (subst (λ k. place < k) (sym had.len) inside) (had.each place inside)
      ∙ ap (λ b. Some b) (sym (list_any_more (is_end place) ls i d lt));
}

-- ---- the greatest head from which a loop reaches over a place

-- none of the heads from `found` on does
abbrev pub NoneFrom : (reach : List ℕ) (place found : ℕ) → Type 0
NoneFrom reach place found = (head : ℕ) → found ≤ head → head ≤ place → slice_index reach head ≤ place

passed_over : (reach deepest : List ℕ) (place at : ℕ) → HasDeepest place reach deepest → at ≤ place → slice_index reach at ≤ place → NoneFrom reach place (at + 1)
    → (slice_index deepest at ≤ at) × NoneFrom reach place (slice_index deepest at)
passed_over reach deepest place zero had le short above =
    let f : slice_index deepest 0 ≡ 0 = had.first in
    (omega (arith, f), λ head low high. by head low high)
  where
    by : (head : ℕ) → slice_index deepest 0 ≤ head → head ≤ place → slice_index reach head ≤ place
    by zero low high = short
    by (suc h) low high = above (suc h) (omega arith) high
passed_over reach deepest place (suc k) had le short above =
    let is : IsDeepest reach k (slice_index deepest (k + 1)) = had.each k (omega (arith, le)) in
    let one : k + 1 ≡ suc k = omega arith in
    let now : IsDeepest reach k (slice_index deepest (suc k)) = subst (λ j. IsDeepest reach k (slice_index deepest j)) one is in
    (let l = now.low in omega (arith, l), λ head low high. by now head low high (nat_le head k) refl (head == suc k) refl)
  where
    by : IsDeepest reach k (slice_index deepest (suc k)) → (head : ℕ) → slice_index deepest (suc k) ≤ head → head ≤ place → (b : Bool) → nat_le head k ≡ b → (e : Bool) → (head == suc k) ≡ e → slice_index reach head ≤ place
    by now head low high true h e q =
        let under : head ≤ k = grind (arith, nat_tests) in
        let few = now.none head low under in
        omega (arith, few, le)
    by now head low high false h true q = subst (λ j. slice_index reach j ≤ place) (sym (same_number head (suc k) q)) short
    by now head low high false h false q =
        let over : k < head = grind (arith, nat_tests) in
        let not_it = other_number head (suc k) q in
        above head (omega (arith, over, not_it)) high

pub climbed : (reach deepest : List ℕ) (place found : ℕ) → HasDeepest place reach deepest → 0 < found → found ≤ place + 1 → slice_index reach (found - 1) ≤ place → NoneFrom reach place found
    → (slice_index deepest (found - 1) < found) × NoneFrom reach place (slice_index deepest (found - 1))
climbed reach deepest place found had some le short above =
    let back : found - 1 + 1 ≡ found = omega (arith, some) in
    let p = passed_over reach deepest place (found - 1) had (omega (arith, some, le)) short (subst (NoneFrom reach place) (sym back) above) in
    let low = p.0 in
    (omega (arith, some, low), p.1)

-- ---- the greatest head of the loops that hold a place

any_weaker : {A : Type 0} (p q : A → Bool) → ((a : A) → p a ≡ true → q a ≡ true) → (xs : List A) → list_any p xs ≡ true → list_any q xs ≡ true
any_weaker p q weaker [] h = absurd cc
any_weaker p q weaker (x ∷ xs) h = by (any_weaker p q weaker xs) (p x) refl
  where
    by : (list_any p xs ≡ true → list_any q xs ≡ true) → (b : Bool) → p x ≡ b → list_any q (x ∷ xs) ≡ true
    by more true is = ap (λ b. b || list_any q xs) (weaker x is)
    by more false is =
        let rest : list_any q xs ≡ true = more (sym (ap (λ b. b || list_any p xs) is) ∙ h) in
        ap (λ b. q x || b) rest ∙ or_true (q x)

held_from : (low head place : ℕ) → low ≤ head → head ≤ place → (l : Loop) → reaches head place l ≡ true → holds_from low place l ≡ true
held_from low head place le high l h =
    let two = and_parts (l.head == head) (nat_lt place l.end) h in
    let e : l.head ≡ head = same_number l.head head two.0 in
    let a : nat_le l.head place ≡ true = grind (arith, nat_tests) in
    let b : nat_le low l.head ≡ true = grind (arith, nat_tests) in
    ap (λ x. (x && nat_lt place l.end) && nat_le low l.head) a ∙ (ap (λ x. x && nat_le low l.head) two.1 ∙ b)

none_held : (low place : ℕ) (ls : List Loop) → ((head : ℕ) → low ≤ head → head ≤ place → list_any (reaches head place) ls ≡ false) → list_any (holds_from low place) ls ≡ false
none_held low place [] none = refl
none_held low place (l ∷ ls) none = by (none_held low place ls (λ head le high. (or_parts (reaches head place l) (list_any (reaches head place) ls) (none head le high)).1)) (holds_from low place l) refl
  where
    by : list_any (holds_from low place) ls ≡ false → (b : Bool) → holds_from low place l ≡ b → list_any (holds_from low place) (l ∷ ls) ≡ false
    by more false is = ap (λ b. b || list_any (holds_from low place) ls) is ∙ more
    by more true is =
        let two = and_parts (holds place l) (nat_le low l.head) is in
        let held = and_parts (nat_le l.head place) (nat_lt place l.end) two.0 in
        let a : low ≤ l.head = let t = two.1 in grind (arith, nat_tests) in
        let b : l.head ≤ place = let t = held.0 in grind (arith, nat_tests) in
        let no = (or_parts (reaches l.head place l) (list_any (reaches l.head place) ls) (none l.head a b)).0 in
        let same : (l.head == l.head) ≡ true = grind (arith, nat_tests) in
        let yes' : reaches l.head place l ≡ true = ap (λ x. x && nat_lt place l.end) same ∙ held.1 in
        absurd cc

head_at : (n : ℕ) (ls : List Loop) (reach deepest : List ℕ) → HasReach n ls reach → HasDeepest n reach deepest
    → (place : ℕ) → place < n → (low : ℕ) → list_any (holds_from low place) ls ≡ nat_lt low (slice_index deepest (place + 1))
head_at n ls reach deepest has tops place lt low = by (nat_lt low (slice_index deepest (place + 1))) refl
  where
    is : IsDeepest reach place (slice_index deepest (place + 1))
    is = tops.each place lt

    by : (b : Bool) → nat_lt low (slice_index deepest (place + 1)) ≡ b → list_any (holds_from low place) ls ≡ nat_lt low (slice_index deepest (place + 1))
    by true test =
        let under : low < slice_index deepest (place + 1) = grind (arith, nat_tests) in
        let head : ℕ = slice_index deepest (place + 1) - 1 in
        let one : slice_index deepest (place + 1) - 1 + 1 ≡ slice_index deepest (place + 1) = omega (arith, under) in
        let few = is.low in
        let le : slice_index deepest (place + 1) - 1 ≤ place = omega (arith, under, few) in
        let far : place < slice_index reach (slice_index deepest (place + 1) - 1) = is.some (slice_index deepest (place + 1) - 1) one in
        let far_test : nat_lt place (slice_index reach (slice_index deepest (place + 1) - 1)) ≡ true = grind (arith, nat_tests) in
        let some : list_any (reaches (slice_index deepest (place + 1) - 1) place) ls ≡ true = has.each (slice_index deepest (place + 1) - 1) (omega (arith, le, lt)) place ∙ far_test in
        any_weaker (reaches (slice_index deepest (place + 1) - 1) place) (holds_from low place) (held_from low (slice_index deepest (place + 1) - 1) place (omega (arith, under)) le) ls some ∙ sym test
    by false test =
        let over : slice_index deepest (place + 1) ≤ low = grind (arith, nat_tests) in
        none_held low place ls (λ head le high.
        let short : slice_index reach head ≤ place = is.none head (omega (arith, over, le)) high in
        let short_test : nat_lt place (slice_index reach head) ≡ false = grind (arith, nat_tests) in
        has.each head (omega (arith, high, lt)) place ∙ short_test)
        ∙ sym test

pub heads_from : (n : ℕ) (ls : List Loop) (reach deepest : List ℕ) → HasReach n ls reach → HasDeepest (length reach) reach deepest → HasHeads n ls deepest
heads_from n ls reach deepest has tops =
    let now : HasDeepest n reach deepest = subst (λ k. HasDeepest k reach deepest) has.len tops in
    record { len = now.len; each = head_at n ls reach deepest has now }

-- ---- a jump, and the heads that it passes

enters_at : (place target : ℕ) → place < target → (l : Loop) → enters_at_head place target l ≡ never (holds_from (place + 1) target l)
unfolding enters_at_head
enters_at place target lt l = by (holds target l) refl (nat_le (place + 1) l.head) refl
  where
    by : (b : Bool) → holds target l ≡ b → (e : Bool) → nat_le (place + 1) l.head ≡ e → (let r : Result (Unit {0}) Flaw = cond (holds target l) (check_order (holds place l)) (Ok tt) in r) ≡ never (holds target l && nat_le (place + 1) l.head)
    by false h e k = ap (λ b. cond b (check_order (holds place l)) (Ok tt)) h ∙ sym (ap (λ b. never (b && nat_le (place + 1) l.head)) h)
    by true h true k =
        let out : nat_le l.head place ≡ false = grind (arith, nat_tests) in
        ap (λ b. cond b (check_order (holds place l)) (Ok tt)) h
        ∙ (ap (λ b. check_order (b && nat_lt place l.end)) out
        ∙ sym (ap (λ b. never (b && nat_le (place + 1) l.head)) h ∙ ap never k))
    by true h false k =
        let held = and_parts (nat_le l.head target) (nat_lt target l.end) h in
        let a : nat_le l.head place ≡ true = grind (arith, nat_tests) in
        let e = held.1 in
        let b : nat_lt place l.end ≡ true = grind (arith, nat_tests) in
        ap (λ b. cond b (check_order (holds place l)) (Ok tt)) h
        ∙ (ap (λ x. check_order (x && nat_lt place l.end)) a ∙ (ap check_order b
        ∙ sym (ap (λ b. never (b && nat_le (place + 1) l.head)) h ∙ ap never k)))

each_never : {A : Type 0} (f : A → Result (Unit {0}) Flaw) (p : A → Bool) → ((a : A) → f a ≡ never (p a)) → (xs : List A) → each f xs ≡ never (list_any p xs)
unfolding each
each_never f p is [] = refl
each_never f p is (x ∷ xs) = ap (λ r. r >>= λ _. each f xs) (is x) ∙ by (each_never f p is xs) (p x)
  where
    by : each f xs ≡ never (list_any p xs) → (b : Bool) → (never b >>= λ _. each f xs) ≡ never (b || list_any p xs)
    by more true = refl
    by more false = more

pub enters_by_head : (count place target : ℕ) (ls : List Loop) (deepest : List ℕ) → HasHeads count ls deepest → ahead count place target ≡ Ok tt
    → never (nat_lt (place + 1) (slice_index deepest (target + 1))) ≡ each (enters_at_head place target) ls
enters_by_head count place target ls deepest has right =
    let p = ahead_ok count place target right in
    ap never (sym (has.each target p.1 (place + 1))) ∙ sym (each_never (enters_at_head place target) (holds_from (place + 1) target) (enters_at place target p.0) ls)
