-- The loops that hold a place, as the places are gone through in order.
use Rattle.std.proofs.Common.{◌≡◌, ◌≢◌, ◌⊎◌, inl, inr, ℕ, zero, suc, ◌+◌, ◌<◌, ◌≤◌, Bool, true, false, List, [], ◌∷◌, ◌++◌, length, take, drop, filter, get_or, Option, Some, None, Result, Ok, Err, refl, sym, ap, subst, ◌∙◌, cond, arith, append-nil, take-append-drop}
use Rattle.std.specs.Prelude.{nat_le, nat_lt, ◌==◌, ◌&&◌, All, slice_get}
use Rattle.std.specs.List.{list_any}
use Rattle.std.specs.Option.{option_to_list}
use Rattle.std.proofs.lemmas.List.{take_more, drop_more, drop_all}
use Rattle.std.proofs.lemmas.List.Elements.{All-nil, All-cons, All-head, All-tail, All-weaker, All-push, filter-append, filter_agree, filter_passes}
use Rattle.std.proofs.lemmas.Option.{slice_get-get_or, slice_get_past}
use Rattle.std.proofs.lemmas.Bool.Decides.{nat_tests}
use Rattle.bb_basis.specs.Results.{◌>>=◌, map_err}
use Rattle.bb_basis.proofs.ResultLemmas.{bind_ok}
use Rattle.bb_code.specs.Code.{Code}
use Rattle.bb_code.specs.declared.frame.Loop.{Loop}
use Rattle.bb_code.specs.declared.op.Op.{Op}
use Rattle.bb_code.specs.declared.flaw.Flaw.TheVariants as flaws
use Rattle.bb_verify.specs.declared.nesting.loops.TheConstants.{NESTING_LIMIT}
use Rattle.bb_code.specs.Each.{each}
use Rattle.bb_code.specs.Flaws.{fault_at}
use Rattle.bb_code.proofs.Laws.{range_at, no_fault}
use Rattle.bb_verify.specs.nesting.Jumps.{check_target, jump_at, jumps}
use Rattle.bb_verify.specs.nesting.Loops.{holds, depth, check_order, never, is_misplaced, rising, local_of, is_same_local, is_around, nests, loop_due, head_due, is_head, keeps_local, op_due, place_due}
use Rattle.bb_verify.specs.nesting.proving.OpenLoops.{loops_at, passed, lasts, stays, entered, if_at_head, IsPassed, IsAt, rest_due}

same_number : (a b : ℕ) → (a == b) ≡ true → a ≡ b
same_number a b h = grind (arith, nat_tests)

other_number : (a b : ℕ) → (a == b) ≡ false → b ≢ a
other_number a b h = grind (arith, nat_tests)

-- ---- only the loops that hold a place matter there

each_filter : {A E : Type 0} (f : A → Result (Unit {0}) E) (p : A → Bool) → ((a : A) → p a ≡ false → f a ≡ Ok tt) → (xs : List A) → each f (filter p xs) ≡ each f xs
unfolding each
each_filter f p skips [] = refl
each_filter f p skips (x ∷ xs) = by (each_filter f p skips xs) (p x) refl
  where
    by : each f (filter p xs) ≡ each f xs → (b : Bool) → p x ≡ b → each f (cond (p x) (x ∷ filter p xs) (filter p xs)) ≡ (f x >>= λ _. each f xs)
    by more true is = ap (λ b. each f (cond b (x ∷ filter p xs) (filter p xs))) is ∙ ap (λ r. f x >>= λ _. r) more
    by more false is = ap (λ b. each f (cond b (x ∷ filter p xs) (filter p xs))) is ∙ (more ∙ sym (ap (λ r. r >>= λ _. each f xs) (skips x is)))

around_held : (l outer : Loop) → holds l.head outer ≡ false → is_around outer l ≡ false
around_held l outer out = by (is_around outer l) refl
  where
    both : (a b : Bool) → (a && b) ≡ true → (a ≡ true) × (b ≡ true)
    both true true h = (refl, refl)
    both true false h = absurd cc
    both false b h = absurd cc

    by : (b : Bool) → is_around outer l ≡ b → is_around outer l ≡ false
    by false is = is
    by true is =
        let two = both (nat_lt outer.head l.head) (nat_lt l.head outer.end) is in
        let early = two.0 in
        let a : nat_le outer.head l.head ≡ true = grind (arith, nat_tests) in
        let held : holds l.head outer ≡ true = ap (λ x. x && nat_lt l.head outer.end) a ∙ two.1 in
        absurd cc

not_around : (code : Code) (l outer : Loop) → holds l.head outer ≡ false → nests code l outer ≡ Ok tt
unfolding nests
not_around code l outer out =
    ap (λ b. never (b && nat_lt outer.end l.end) >>= λ _. never (b && is_same_local (local_of code outer) (local_of code l))) (around_held l outer out)

pub nests_held : (code : Code) (l : Loop) (around : List Loop) → around ≡ filter (holds l.head) code.loops → each (nests code l) around ≡ each (nests code l) code.loops
nests_held code l around is = ap (each (nests code l)) is ∙ each_filter (nests code l) (holds l.head) (not_around code l) code.loops

not_held : (code : Code) (place local : ℕ) (l : Loop) → holds place l ≡ false → keeps_local code place local l ≡ Ok tt
unfolding keeps_local
not_held code place local l out = ap (λ b. never (b && is_same_local (local_of code l) (Some local))) out

pub keeps_held : (code : Code) (place local : ℕ) (around : List Loop) → around ≡ filter (holds place) code.loops → each (keeps_local code place local) around ≡ each (keeps_local code place local) code.loops
keeps_held code place local around is = ap (each (keeps_local code place local)) is ∙ each_filter (keeps_local code place local) (holds place) (not_held code place local) code.loops

not_head : (code : Code) (place : ℕ) (l : Loop) → is_head place l ≡ false → head_due code place l ≡ Ok tt
unfolding head_due
not_head code place l out = ap (λ b. cond b (loop_due code l) (Ok tt)) out

head_is : (code : Code) (place : ℕ) (l : Loop) → is_head place l ≡ true → head_due code place l ≡ loop_due code l
unfolding head_due
head_is code place l is = ap (λ b. cond b (loop_due code l) (Ok tt)) is

alone : {E : Type 0} (r : Result (Unit {0}) E) → (r >>= λ _. Ok tt) ≡ r
alone (Ok x) = refl
alone (Err e) = refl

head_test : (place : ℕ) (ls : List Loop) (l : Loop) → filter (is_head place) ls ≡ l ∷ [] → is_head place l ≡ true
head_test place ls l is = All-head (λ x. is_head place x ≡ true) l [] (subst (All (λ x. is_head place x ≡ true)) is (filter_passes (is_head place) ls))

pub head_place : (place : ℕ) (ls : List Loop) (l : Loop) → filter (is_head place) ls ≡ l ∷ [] → l.head ≡ place
head_place place ls l is = same_number l.head place (head_test place ls l is)

pub no_head_due : (code : Code) (place : ℕ) → filter (is_head place) code.loops ≡ [] → Ok tt ≡ each (head_due code place) code.loops
unfolding each
no_head_due code place is = sym (ap (each (head_due code place)) is) ∙ each_filter (head_due code place) (is_head place) (not_head code place) code.loops

pub one_head_due : (code : Code) (place : ℕ) (l : Loop) → filter (is_head place) code.loops ≡ l ∷ [] → loop_due code l ≡ each (head_due code place) code.loops
unfolding each
one_head_due code place l is =
    sym (head_is code place l (head_test place code.loops l is)) ∙ (sym (alone (head_due code place l))
    ∙ (sym (ap (each (head_due code place)) is) ∙ each_filter (head_due code place) (is_head place) (not_head code place) code.loops))

pub any_by_filter : {A : Type 0} (p : A → Bool) (xs : List A) → list_any p xs ≡ list_any (λ _. true) (filter p xs)
any_by_filter p [] = refl
any_by_filter p (x ∷ xs) = by (any_by_filter p xs) (p x) refl
  where
    by : list_any p xs ≡ list_any (λ _. true) (filter p xs) → (b : Bool) → p x ≡ b → list_any p (x ∷ xs) ≡ list_any (λ _. true) (cond (p x) (x ∷ filter p xs) (filter p xs))
    by more true is = grind (arith, is)
    by more false is = grind (arith, is, more)

-- ---- the list rises up to a place

rising_tail : (place : ℕ) (l : Loop) (ls : List Loop) → rising place (l ∷ ls) ≡ Ok tt → rising place ls ≡ Ok tt
unfolding rising
rising_tail place l [] ok = refl
rising_tail place l (k ∷ ls) ok = (bind_ok (never (is_misplaced place l k)) _ tt ok).2

rising_drop : (place i : ℕ) (ls : List Loop) → rising place ls ≡ Ok tt → rising place (drop i ls) ≡ Ok tt
unfolding rising
rising_drop place zero ls ok = ok
rising_drop place (suc i) [] ok = refl
rising_drop place (suc i) (l ∷ ls) ok = rising_drop place i ls (rising_tail place l ls ok)

above_one : (place : ℕ) (l k : Loop) → never (is_misplaced place l k) ≡ Ok tt → place ≤ l.head → place ≤ k.head → place < k.head
above_one place l k ok low high = by (k.head == place) refl
  where
    by : (b : Bool) → (k.head == place) ≡ b → place < k.head
    by true same =
        let e : k.head ≡ place = same_number k.head place same in
        let test : nat_le k.head l.head ≡ true = grind (arith, nat_tests) in
        let bad : never (is_misplaced place l k) ≡ Err flaws.Loop = ap (λ b. never (b && nat_le k.head l.head)) same ∙ ap never test in
        absurd cc
    by false different = let n = other_number k.head place different in omega (arith, high, n)

tail_above : (place : ℕ) (l : Loop) (ls : List Loop) → rising place (l ∷ ls) ≡ Ok tt → place ≤ l.head → All (λ k. place ≤ k.head) ls → All (λ k. place < k.head) ls
unfolding rising
tail_above place l [] ok low all = All-nil (λ k. place < k.head)
tail_above place l (k ∷ ls) ok low all =
    let one = bind_ok (never (is_misplaced place l k)) _ tt ok in
    let high : place ≤ k.head = All-head (λ k. place ≤ k.head) k ls all in
    All-cons (λ k. place < k.head) k ls (above_one place l k one.1 low high) (tail_above place k ls one.2 high (All-tail (λ k. place ≤ k.head) k ls all))

-- the next loop of the list has its head at the place, or none has
abbrev pub Turn : (place next : ℕ) → List Loop → Type 0
Turn place next ls =
    ((loops_at place next ls ≡ None) × All (λ k. place < k.head) (drop next ls))
    ⊎ ((l : Loop) × (loops_at place next ls ≡ Some l) × (l.head ≡ place) × (take (next + 1) ls ≡ take next ls ++ l ∷ []) × All (λ k. place < k.head) (drop (next + 1) ls))

at_next : (place next : ℕ) (ls : List Loop) (l : Loop) → slice_get ls next ≡ Some l → drop next ls ≡ l ∷ drop (next + 1) ls → take (next + 1) ls ≡ take next ls ++ l ∷ []
    → place ≤ l.head → All (λ k. place < k.head) (drop (next + 1) ls) → Turn place next ls
at_next place next ls l here rest took low above = by (l.head == place) refl
  where
    by : (b : Bool) → (l.head == place) ≡ b → Turn place next ls
    by true same = inr (l, ap (if_at_head place) here ∙ ap (λ b. cond b (Some l) None) same, same_number l.head place same, took, above)
    by false different =
        let n = other_number l.head place different in
        let over : place < l.head = omega (arith, low, n) in
        inl (ap (if_at_head place) here ∙ ap (λ b. cond b (Some l) None) different, subst (All (λ k. place < k.head)) (sym rest) (All-cons (λ k. place < k.head) l (drop (next + 1) ls) over above))

with_next : (place next : ℕ) (ls : List Loop) (d : Loop) → next < length ls → rising place ls ≡ Ok tt → IsPassed place next ls → Turn place next ls
with_next place next ls d lt ok p =
    let l : Loop = get_or ls next d in
    let rest : drop next ls ≡ get_or ls next d ∷ drop (next + 1) ls = drop_more ls next d lt in
    let high : All (λ k. place ≤ k.head) (get_or ls next d ∷ drop (next + 1) ls) = subst (All (λ k. place ≤ k.head)) rest p.high in
    let low : place ≤ (get_or ls next d).head = All-head (λ k. place ≤ k.head) (get_or ls next d) (drop (next + 1) ls) high in
    let rises : rising place (get_or ls next d ∷ drop (next + 1) ls) ≡ Ok tt = subst (λ xs. rising place xs ≡ Ok tt) rest (rising_drop place next ls ok) in
    let above = tail_above place (get_or ls next d) (drop (next + 1) ls) rises low (All-tail (λ k. place ≤ k.head) (get_or ls next d) (drop (next + 1) ls) high) in
    at_next place next ls (get_or ls next d) (slice_get-get_or ls next d lt) rest (take_more ls next d lt) low above

pub turn_of : (place next : ℕ) (ls : List Loop) → rising place ls ≡ Ok tt → IsPassed place next ls → Turn place next ls
turn_of place next ls ok p = by (nat_lt next (length ls)) refl
  where
    by : (b : Bool) → nat_lt next (length ls) ≡ b → Turn place next ls
    by false out =
        let le : length ls ≤ next = grind (arith, nat_tests) in
        inl (ap (if_at_head place) (slice_get_past ls next le), subst (All (λ k. place < k.head)) (sym (drop_all next ls le)) (All-nil (λ k. place < k.head)))
    by true is = let lt : next < length ls = grind (arith, nat_tests) in with_next place next ls (record { head = 0; end = 0 }) lt ok p

still_low : (place : ℕ) (ls : List Loop) → All (λ k. k.head < place) ls → All (λ k. k.head < place + 1) ls
still_low place ls all = All-weaker (λ k. k.head < place) (λ k. k.head < place + 1) (λ k lt. omega (arith, lt)) ls all

now_high : (place : ℕ) (ls : List Loop) → All (λ k. place < k.head) ls → All (λ k. place + 1 ≤ k.head) ls
now_high place ls all = All-weaker (λ k. place < k.head) (λ k. place + 1 ≤ k.head) (λ k lt. omega (arith, lt)) ls all

passed_turn : (place next : ℕ) (ls : List Loop) → IsPassed place next ls → Turn place next ls → IsPassed (place + 1) (passed next (loops_at place next ls)) ls
passed_turn place next ls p (inl (none, above)) =
    subst (λ h. IsPassed (place + 1) (passed next h) ls) (sym none) (record { low = still_low place (take next ls) p.low; high = now_high place (drop next ls) above })
passed_turn place next ls p (inr (l, some, at, took, above)) =
    subst (λ h. IsPassed (place + 1) (passed next h) ls) (sym some) (record {
      low = subst (All (λ k. k.head < place + 1)) (sym took) (All-push (λ k. k.head < place + 1) (take next ls) l (still_low place (take next ls) p.low) (omega (arith, at)));
      high = now_high place (drop (next + 1) ls) above;
    })

pub passed_on : (place next : ℕ) (ls : List Loop) → rising place ls ≡ Ok tt → IsPassed place next ls → IsPassed (place + 1) (passed next (loops_at place next ls)) ls
passed_on place next ls ok p = passed_turn place next ls p (turn_of place next ls ok p)

taken_turn : (place next : ℕ) (ls : List Loop) → Turn place next ls → take (passed next (loops_at place next ls)) ls ≡ take next ls ++ option_to_list (loops_at place next ls)
taken_turn place next ls (inl (none, above)) = ap (λ h. take (passed next h) ls) none ∙ (sym (append-nil (take next ls)) ∙ sym (ap (λ h. take next ls ++ option_to_list h) none))
taken_turn place next ls (inr (l, some, at, took, above)) = ap (λ h. take (passed next h) ls) some ∙ (took ∙ sym (ap (λ h. take next ls ++ option_to_list h) some))

-- ---- what a filter keeps

filter_none : {A : Type 0} (p : A → Bool) (P : A → Type 0) → ((x : A) → P x → p x ≡ false) → (xs : List A) → All P xs → filter p xs ≡ []
filter_none p P out [] all = refl
filter_none p P out (x ∷ xs) all = ap (λ b. cond b (x ∷ filter p xs) (filter p xs)) (out x (All-head P x xs all)) ∙ filter_none p P out xs (All-tail P x xs all)

filter_where : {A : Type 0} (p q : A → Bool) (P : A → Type 0) → ((x : A) → P x → p x ≡ q x) → (xs : List A) → All P xs → filter p xs ≡ filter q xs
filter_where p q P same [] all = refl
filter_where p q P same (x ∷ xs) all =
    ap (λ b. cond b (x ∷ filter p xs) (filter p xs)) (same x (All-head P x xs all))
    ∙ ap (λ r. cond (q x) (x ∷ r) r) (filter_where p q P same xs (All-tail P x xs all))

filter_twice : {A : Type 0} (p q : A → Bool) → ((x : A) → p x ≡ false → q x ≡ false) → (xs : List A) → filter q (filter p xs) ≡ filter q xs
filter_twice p q out [] = refl
filter_twice p q out (x ∷ xs) = by (filter_twice p q out xs) (p x) refl
  where
    by : filter q (filter p xs) ≡ filter q xs → (b : Bool) → p x ≡ b → filter q (cond (p x) (x ∷ filter p xs) (filter p xs)) ≡ cond (q x) (x ∷ filter q xs) (filter q xs)
    by more true is = ap (λ b. filter q (cond b (x ∷ filter p xs) (filter p xs))) is ∙ ap (λ r. cond (q x) (x ∷ r) r) more
    by more false is = ap (λ b. filter q (cond b (x ∷ filter p xs) (filter p xs))) is ∙ (more ∙ sym (ap (λ b. cond b (x ∷ filter q xs) (filter q xs)) (out x is)))

filter_parts : {A : Type 0} (p : A → Bool) (i : ℕ) (xs : List A) → filter p xs ≡ filter p (take i xs) ++ filter p (drop i xs)
filter_parts p i xs = sym (ap (filter p) (take-append-drop i xs)) ∙ filter-append p (take i xs) (drop i xs)

lower : (place : ℕ) (l : Loop) → l.head < place → is_head place l ≡ false
lower place l lt = grind (arith, nat_tests)

higher : (place : ℕ) (l : Loop) → place < l.head → is_head place l ≡ false
higher place l lt = grind (arith, nat_tests)

headed_turn : (place next : ℕ) (ls : List Loop) → IsPassed place next ls → Turn place next ls → filter (is_head place) ls ≡ option_to_list (loops_at place next ls)
headed_turn place next ls p (inl (none, above)) =
    let a : filter (is_head place) (take next ls) ≡ [] = filter_none (is_head place) (λ k. k.head < place) (lower place) (take next ls) p.low in
    let b : filter (is_head place) (drop next ls) ≡ [] = filter_none (is_head place) (λ k. place < k.head) (higher place) (drop next ls) above in
    filter_parts (is_head place) next ls ∙ (ap (λ xs. xs ++ filter (is_head place) (drop next ls)) a ∙ (b ∙ sym (ap option_to_list none)))
headed_turn place next ls p (inr (l, some, at, took, above)) =
    let a : filter (is_head place) (take next ls) ≡ [] = filter_none (is_head place) (λ k. k.head < place) (lower place) (take next ls) p.low in
    let b : filter (is_head place) (drop (next + 1) ls) ≡ [] = filter_none (is_head place) (λ k. place < k.head) (higher place) (drop (next + 1) ls) above in
    let test : is_head place l ≡ true = grind (arith, nat_tests) in
    let one : filter (is_head place) (take (next + 1) ls) ≡ l ∷ [] =
    ap (filter (is_head place)) took ∙ (filter-append (is_head place) (take next ls) (l ∷ []) ∙ (ap (λ xs. xs ++ filter (is_head place) (l ∷ [])) a ∙ ap (λ t. cond t (l ∷ []) []) test)) in
    filter_parts (is_head place) (next + 1) ls ∙ (ap (λ xs. xs ++ filter (is_head place) (drop (next + 1) ls)) one ∙ (ap (λ xs. l ∷ xs) b ∙ sym (ap option_to_list some)))

past_out : (place : ℕ) (l : Loop) → place + 1 ≤ l.head → holds place l ≡ false
past_out place l le = let t : nat_le l.head place ≡ false = grind (arith, nat_tests) in ap (λ b. b && nat_lt place l.end) t

met_holds : (place : ℕ) (l : Loop) → l.head < place + 1 → lasts place l ≡ holds place l
met_holds place l lt = let t : nat_le l.head place ≡ true = grind (arith, nat_tests) in sym (ap (λ b. b && nat_lt place l.end) t)

held_now : (place next : ℕ) (ls : List Loop) → IsPassed (place + 1) next ls → filter (lasts place) (take next ls) ≡ filter (holds place) ls
held_now place next ls p =
    let b : filter (holds place) (drop next ls) ≡ [] = filter_none (holds place) (λ k. place + 1 ≤ k.head) (past_out place) (drop next ls) p.high in
    filter_where (lasts place) (holds place) (λ k. k.head < place + 1) (met_holds place) (take next ls) p.low
    ∙ (sym (append-nil (filter (holds place) (take next ls))) ∙ (sym (ap (λ xs. filter (holds place) (take next ls) ++ xs) b) ∙ sym (filter_parts (holds place) next ls)))

ended : (place : ℕ) (l : Loop) → stays place l ≡ false → lasts place l ≡ false
ended place l h = grind (arith, nat_tests)

next_place : (place : ℕ) (l : Loop) → lasts place l ≡ stays (place + 1) l
next_place place l = by (nat_lt place l.end) refl
  where
    by : (b : Bool) → nat_lt place l.end ≡ b → nat_lt place l.end ≡ nat_le (place + 1) l.end
    by true h = let t : nat_le (place + 1) l.end ≡ true = grind (arith, nat_tests) in h ∙ sym t
    by false h = let t : nat_le (place + 1) l.end ≡ false = grind (arith, nat_tests) in h ∙ sym t

entered_all : (place next : ℕ) (ls around : List Loop) → rising place ls ≡ Ok tt → IsPassed place next ls → around ≡ filter (stays place) (take next ls)
    → entered place around (loops_at place next ls) ≡ filter (lasts place) (take (passed next (loops_at place next ls)) ls)
entered_all place next ls around ok p is =
    filter-append (lasts place) around (option_to_list (loops_at place next ls))
    ∙ (ap (λ xs. xs ++ filter (lasts place) (option_to_list (loops_at place next ls))) (ap (filter (lasts place)) is ∙ filter_twice (stays place) (lasts place) (ended place) (take next ls))
    ∙ (sym (filter-append (lasts place) (take next ls) (option_to_list (loops_at place next ls)))
    ∙ sym (ap (filter (lasts place)) (taken_turn place next ls (turn_of place next ls ok p)))))

pub entered_stays : (place next : ℕ) (ls around new : List Loop) → rising place ls ≡ Ok tt → IsPassed place next ls → around ≡ filter (stays place) (take next ls)
    → new ≡ entered place around (loops_at place next ls) → new ≡ filter (stays (place + 1)) (take (passed next (loops_at place next ls)) ls)
entered_stays place next ls around new ok p is made =
    made ∙ (entered_all place next ls around ok p is ∙ filter_agree (lasts place) (stays (place + 1)) (next_place place) (take (passed next (loops_at place next ls)) ls))

pub entered_at : (code : Code) (place next : ℕ) (around new : List Loop) → rising place code.loops ≡ Ok tt → IsPassed place next code.loops → around ≡ filter (stays place) (take next code.loops)
    → new ≡ entered place around (loops_at place next code.loops) → IsAt code place (loops_at place next code.loops) new
entered_at code place next around new ok p is made = record {
  rises = ok;
  loops_at = headed_turn place next code.loops p (turn_of place next code.loops ok p);
  holding = made ∙ (entered_all place next code.loops around ok p is ∙ held_now place (passed next (loops_at place next code.loops)) code.loops (passed_on place next code.loops ok p));
}

pub none_headed : (place : ℕ) (ls : List Loop) → filter (is_head place) ls ≡ [] → false ≡ list_any (is_head place) ls
none_headed place ls is = sym (any_by_filter (is_head place) ls ∙ ap (list_any (λ _. true)) is)

pub one_headed : (place : ℕ) (ls : List Loop) (l : Loop) → filter (is_head place) ls ≡ l ∷ [] → true ≡ list_any (is_head place) ls
one_headed place ls l is = sym (any_by_filter (is_head place) ls ∙ ap (list_any (λ _. true)) is)

-- ---- the op at a place

pub right_here : (code : Code) (place : ℕ) (op : Op) → jump_at code place ≡ Ok tt → slice_get code.ops place ≡ Some op → check_target (length code.ops) place op ≡ Ok tt
unfolding jump_at
right_here code place op ok is =
    let now : map_err (fault_at place) (check_target (length code.ops) place op) ≡ Ok tt = sym (ap (λ o. elim o [ None ↦ Ok tt | Some k ↦ map_err (fault_at place) (check_target (length code.ops) place k) ]) is) ∙ ok in
    no_fault (fault_at place) (check_target (length code.ops) place op) tt now

pub due_rest : (code : Code) (place : ℕ) (op : Op) → rising place code.loops ≡ Ok tt → rest_due code place op ≡ place_due code place (Some op)
unfolding place_due rest_due
due_rest code place op ok = sym (ap (λ r. r >>= λ _. each (head_due code place) code.loops >>= λ _. check_order (nat_le (depth code place) NESTING_LIMIT) >>= λ _. op_due code place op) ok)

pub jump_here : (code : Code) (place : ℕ) → jumps code ≡ Ok tt → place < length code.ops → jump_at code place ≡ Ok tt
unfolding jumps
jump_here code place ok lt = range_at (jump_at code) (length code.ops) place lt ok

-- ---- a turn

pub passed_few : (next place : ℕ) (here : Option Loop) → next ≤ place → passed next here ≤ place + 1
passed_few next place None le = omega (arith, le)
passed_few next place (Some l) le = omega (arith, le)

pub one_depth : (code : Code) (place : ℕ) (here : Option Loop) (around : List Loop) → IsAt code place here around → length around ≡ depth code place
one_depth code place here around at = ap (λ l. length l) at.holding
