-- The places up to which the list of the loops rises, and what comes after them.
use Rattle.std.proofs.Common.{◌≡◌, ◌⊎◌, inl, inr, ℕ, zero, suc, ◌+◌, ◌-◌, ◌<◌, ◌≤◌, Bool, true, false, List, [], ◌∷◌, length, drop, get_or, min, None, Result, Ok, Err, refl, sym, ap, subst, ◌∙◌, cond, arith, length-drop}
use Rattle.std.specs.Prelude.{nat_le, nat_lt, ◌==◌, ◌&&◌, map}
use Rattle.std.specs.List.{range_with_len}
use Rattle.std.proofs.lemmas.Option.{slice_get-get_or}
use Rattle.std.proofs.lemmas.Bool.Decides.{nat_tests}
use Rattle.bb_basis.specs.Results.{◌>>=◌, map_err}
use Rattle.bb_basis.proofs.ResultLemmas.{bind_ok, same_ok}
use Rattle.bb_code.specs.Code.{Code, places}
use Rattle.bb_code.specs.declared.frame.Loop.{Loop}
use Rattle.bb_code.specs.declared.op.Op.TheVariants as ops
use Rattle.bb_code.specs.declared.flaw.Flaw.{Flaw}
use Rattle.bb_code.specs.declared.flaw.Flaw.TheVariants as flaws
use Rattle.bb_code.specs.declared.flaw.VerifyFault.{VerifyFault}
use Rattle.bb_verify.specs.declared.nesting.loops.TheConstants.{NESTING_LIMIT}
use Rattle.bb_code.specs.Each.{each}
use Rattle.bb_code.specs.Flaws.{fault_at}
use Rattle.bb_verify.specs.nesting.Loops.{check_order, never, is_misplaced, rising, depth, head_due, op_due, place_due, loop_at, lowest_outside, none_outside, loops}
use Rattle.bb_verify.specs.nesting.proving.OpenLoops.{depths_below, least_misplaced, sorted_below, rest_of}
use Rattle.bb_code.proofs.Laws.{range-cons, range_error, range_end}
use Rattle.bb_verify.proofs.nesting_lemmas.LoopLemmas.{two_next, after_one}

-- ---- going through the list

sorted_step : (s : ℕ) (ls : List Loop) (next : ℕ) (d e : Loop) → 1 ≤ next → next < length ls
    → sorted_below s (drop (next - 1) ls) ≡ sorted_below (least_misplaced s (get_or ls (next - 1) d) (get_or ls next e)) (drop (next + 1 - 1) ls)
unfolding sorted_below
sorted_step s ls next d e some lt =
    ap (sorted_below s) (two_next ls next d e some lt)
    ∙ ap (sorted_below (least_misplaced s (get_or ls (next - 1) d) (get_or ls next e))) (sym (after_one ls next e lt))

pub sorted_next : (s r : ℕ) (ls : List Loop) (next : ℕ) (d e : Loop) (total : ℕ) → 1 ≤ next → next < length ls → r ≡ least_misplaced s (get_or ls (next - 1) d) (get_or ls next e)
    → sorted_below s (drop (next - 1) ls) ≡ total → sorted_below r (drop (next + 1 - 1) ls) ≡ total
sorted_next s r ls next d e total some lt is so_far = ap (λ k. sorted_below k (drop (next + 1 - 1) ls)) is ∙ (sym (sorted_step s ls next d e some lt) ∙ so_far)

sorted_short : (s : ℕ) (ls : List Loop) → length ls ≤ 1 → sorted_below s ls ≡ s
unfolding sorted_below
sorted_short s [] short = refl
sorted_short s (l ∷ []) short = refl
sorted_short s (l ∷ k ∷ ls) short = absurd (omega (arith, short))

pub sorted_end : (s : ℕ) (ls : List Loop) (next total : ℕ) → 1 ≤ next → length ls ≤ next → sorted_below s (drop (next - 1) ls) ≡ total → s ≡ total
sorted_end s ls next total some le so_far =
    let d : length (drop (next - 1) ls) ≡ length ls - (next - 1) = length-drop (next - 1) ls in
    sym (sorted_short s (drop (next - 1) ls) (omega (arith, d, some, le))) ∙ so_far

-- ---- up to where it rises

least_le : (s : ℕ) (a b : Loop) → least_misplaced s a b ≤ s
least_le s a b = by (nat_le b.head a.head) refl
  where
    by : (x : Bool) → nat_le b.head a.head ≡ x → cond (nat_le b.head a.head) (min s b.head) s ≤ s
    by true h = subst (λ x. cond x (min s b.head) s ≤ s) (sym h) (omega arith)
    by false h = subst (λ x. cond x (min s b.head) s ≤ s) (sym h) (omega arith)

pub sorted_le : (s : ℕ) (ls : List Loop) → sorted_below s ls ≤ s
unfolding sorted_below
sorted_le s [] = omega arith
sorted_le s (l ∷ []) = omega arith
sorted_le s (l ∷ k ∷ ls) =
    let one = sorted_le (least_misplaced s l k) (k ∷ ls) in
    let two = least_le s l k in
    omega (arith, one, two)

in_place : (place s : ℕ) (a b : Loop) → place < least_misplaced s a b → is_misplaced place a b ≡ false
in_place place s a b lt = by (nat_le b.head a.head) refl (b.head == place) refl
  where
    by : (x : Bool) → nat_le b.head a.head ≡ x → (y : Bool) → (b.head == place) ≡ y → ((b.head == place) && nat_le b.head a.head) ≡ false
    by x h false k = ap (λ y. y && nat_le b.head a.head) k
    by false h true k = ap (λ y. y && nat_le b.head a.head) k ∙ h
    by true h true k =
        let least : place < min s b.head = subst (λ x. place < cond x (min s b.head) s) h lt in
        let same : b.head ≡ place = grind (arith, nat_tests) in
        absurd (omega (arith, least, same))

pub sorted_rises : (place s : ℕ) (ls : List Loop) → place < sorted_below s ls → rising place ls ≡ Ok tt
unfolding sorted_below rising
sorted_rises place s [] lt = refl
sorted_rises place s (l ∷ []) lt = refl
sorted_rises place s (l ∷ k ∷ ls) lt =
    let le = sorted_le (least_misplaced s l k) (k ∷ ls) in
    ap (λ b. never b >>= λ _. rising place (k ∷ ls)) (in_place place s l k (omega (arith, lt, le))) ∙ sorted_rises place (least_misplaced s l k) (k ∷ ls) lt

fails : (b : Bool) (r : Result (Unit {0}) Flaw) → r ≡ Err flaws.Loop → (never b >>= λ _. r) ≡ Err flaws.Loop
fails true r h = refl
fails false r h = h

first_fails : (m s : ℕ) (a b : Loop) (r : Result (Unit {0}) Flaw) → m ≡ least_misplaced s a b → (m ≡ s) ⊎ ((never (is_misplaced m a b) >>= λ _. r) ≡ Err flaws.Loop)
first_fails m s a b r is = by (nat_le b.head a.head) refl (nat_le s b.head) refl
  where
    by : (x : Bool) → nat_le b.head a.head ≡ x → (y : Bool) → nat_le s b.head ≡ y → (m ≡ s) ⊎ ((never (is_misplaced m a b) >>= λ _. r) ≡ Err flaws.Loop)
    by false h y k = inl (is ∙ ap (λ x. cond x (min s b.head) s) h)
    by true h true k =
        let least : m ≡ min s b.head = is ∙ ap (λ x. cond x (min s b.head) s) h in
        let le : s ≤ b.head = grind (arith, nat_tests) in
        inl (omega (arith, least, le))
    by true h false k =
        let least : m ≡ min s b.head = is ∙ ap (λ x. cond x (min s b.head) s) h in
        let lt : b.head < s = grind (arith, nat_tests) in
        let same : b.head ≡ m = omega (arith, least, lt) in
        let test : (b.head == m) ≡ true = grind (arith, nat_tests) in
        inr (ap (λ t. never (t && nat_le b.head a.head) >>= λ _. r) test ∙ ap (λ t. never t >>= λ _. r) h)

sorted_fault : (s : ℕ) (ls : List Loop) → (sorted_below s ls ≡ s) ⊎ (rising (sorted_below s ls) ls ≡ Err flaws.Loop)
unfolding sorted_below rising
sorted_fault s [] = inl refl
sorted_fault s (l ∷ []) = inl refl
sorted_fault s (l ∷ k ∷ ls) = by (sorted_fault (least_misplaced s l k) (k ∷ ls))
  where
    m : ℕ
    m = sorted_below (least_misplaced s l k) (k ∷ ls)

    by : (sorted_below (least_misplaced s l k) (k ∷ ls) ≡ least_misplaced s l k) ⊎ (rising (sorted_below (least_misplaced s l k) (k ∷ ls)) (k ∷ ls) ≡ Err flaws.Loop)
        → (sorted_below (least_misplaced s l k) (k ∷ ls) ≡ s) ⊎ ((never (is_misplaced (sorted_below (least_misplaced s l k) (k ∷ ls)) l k) >>= λ _. rising (sorted_below (least_misplaced s l k) (k ∷ ls)) (k ∷ ls)) ≡ Err flaws.Loop)
    by (inl is) = first_fails (sorted_below (least_misplaced s l k) (k ∷ ls)) s l k (rising (sorted_below (least_misplaced s l k) (k ∷ ls)) (k ∷ ls)) is
    by (inr h) = inr (fails (is_misplaced (sorted_below (least_misplaced s l k) (k ∷ ls)) l k) (rising (sorted_below (least_misplaced s l k) (k ∷ ls)) (k ∷ ls)) h)

-- ---- the places before and after

bind_assoc : {A B C E : Type 0} (r : Result A E) (f : A → Result B E) (g : B → Result C E) → (r >>= λ x. f x >>= g) ≡ ((r >>= f) >>= g)
bind_assoc (Ok x) f g = refl
bind_assoc (Err e) f g = refl

range_split : {E : Type 0} (f : ℕ → Result (Unit {0}) E) (a n k : ℕ) → each f (range_with_len a (n + k)) ≡ (each f (range_with_len a n) >>= λ _. each f (range_with_len (a + n) k))
unfolding each
range_split f a zero k =
    let one : 0 + k ≡ k = omega arith in
    let two : a ≡ a + 0 = omega arith in
    ap (λ j. each f (range_with_len a j)) one ∙ ap (λ b. each f (range_with_len b k)) two
range_split f a (suc n) k =
    let one : suc n + k ≡ suc (n + k) = omega arith in
    let two : a + 1 + n ≡ a + suc n = omega arith in
    ap (λ j. each f (range_with_len a j)) one
    ∙ (ap (λ r. f a >>= λ _. r) (range_split f (a + 1) n k ∙ ap (λ b. each f (range_with_len (a + 1) n) >>= λ _. each f (range_with_len b k)) two)
    ∙ bind_assoc (f a) (λ _. each f (range_with_len (a + 1) n)) (λ _. each f (range_with_len (a + suc n) k)))

up_to : {E : Type 0} (f : ℕ → Result (Unit {0}) E) (s n : ℕ) → s ≤ n → each f (range_with_len 0 n) ≡ (each f (range_with_len 0 s) >>= λ _. each f (range_with_len s (n - s)))
up_to f s n le =
    let one : n ≡ s + (n - s) = omega (arith, le) in
    let two : 0 + s ≡ s = omega arith in
    ap (λ j. each f (range_with_len 0 j)) one ∙ (range_split f 0 s (n - s) ∙ ap (λ b. each f (range_with_len 0 s) >>= λ _. each f (range_with_len b (n - s))) two)

made_error : {X E : Type 0} (r : Result (Unit {0}) E) (d : X) (e : E) → (r >>= λ _. Ok d) ≡ Err e → r ≡ Err e
made_error (Ok x) d e h = absurd cc
made_error (Err k) d e h = let same : k ≡ e = cc in ap (λ x. Err x) same

pub below_error : (code : Code) (s : ℕ) (e : VerifyFault) → s ≤ length code.ops → depths_below code s ≡ Err e → loops code ≡ Err e
unfolding depths_below loops
below_error code s e le h =
    let one : each (loop_at code) (range_with_len 0 s) ≡ Err e = made_error (each (loop_at code) (range_with_len 0 s)) (map (depth code) (range_with_len 0 s)) e h in
    let all : each (loop_at code) (range_with_len 0 (length code.ops)) ≡ Err e = up_to (loop_at code) s (length code.ops) le ∙ ap (λ r. r >>= λ _. each (loop_at code) (range_with_len s (length code.ops - s))) one in
    ap (λ r. r >>= λ _. none_outside (lowest_outside (length code.ops) None code.loops)) all

below_ok : (code : Code) (s : ℕ) (d : List ℕ) → depths_below code s ≡ Ok d → (each (loop_at code) (range_with_len 0 s) ≡ Ok tt) × (d ≡ map (depth code) (range_with_len 0 s))
unfolding depths_below
below_ok code s d h =
    let one = bind_ok (each (loop_at code) (range_with_len 0 s)) _ d h in
    (one.1, sym (same_ok (map (depth code) (range_with_len 0 s)) d one.2))

fault_here : (code : Code) (place : ℕ) → place < length code.ops → rising place code.loops ≡ Err flaws.Loop → loop_at code place ≡ Err (fault_at place flaws.Loop)
unfolding loop_at place_due
fault_here code place lt bad =
    ap (λ o. map_err (fault_at place) (place_due code place o)) (slice_get-get_or code.ops place ops.Pop lt)
    ∙ ap (λ r. map_err (fault_at place) (r >>= λ _. each (head_due code place) code.loops >>= λ _. check_order (nat_le (depth code place) NESTING_LIMIT) >>= λ _. op_due code place (get_or code.ops place ops.Pop))) bad

unsorted : (code : Code) (s : ℕ) → s < length code.ops → rising s code.loops ≡ Err flaws.Loop → each (loop_at code) (range_with_len 0 s) ≡ Ok tt → loops code ≡ Err (fault_at s flaws.Loop)
unfolding loops each
unsorted code s lt bad so_far =
    let rest : each (loop_at code) (range_with_len s (length code.ops - s)) ≡ Err (fault_at s flaws.Loop) =
    ap (each (loop_at code)) (range-cons s (length code.ops) lt)
    ∙ ap (λ r. r >>= λ _. each (loop_at code) (range_with_len (s + 1) (length code.ops - (s + 1)))) (fault_here code s lt bad) in
    let all : each (loop_at code) (range_with_len 0 (length code.ops)) ≡ Err (fault_at s flaws.Loop) =
    up_to (loop_at code) s (length code.ops) (omega (arith, lt)) ∙ (ap (λ r. r >>= λ _. each (loop_at code) (range_with_len s (length code.ops - s))) so_far ∙ rest) in
    ap (λ r. r >>= λ _. none_outside (lowest_outside (length code.ops) None code.loops)) all

pub rest_unsorted : (code : Code) (s : ℕ) → s ≡ sorted_below (length code.ops) code.loops → s < length code.ops → Err (fault_at s flaws.Loop) ≡ rest_of code
unfolding rest_of
rest_unsorted code s is lt =
    let test : nat_lt s (length code.ops) ≡ true = grind (arith, nat_tests) in
    let now : Err (fault_at s flaws.Loop) ≡ cond (nat_lt s (length code.ops)) (Err (fault_at s flaws.Loop)) (none_outside (lowest_outside (length code.ops) None code.loops)) =
    sym (ap (λ b. cond b (Err (fault_at s flaws.Loop)) (none_outside (lowest_outside (length code.ops) None code.loops))) test) in
    now ∙ ap (λ k. cond (nat_lt k (length code.ops)) (Err (fault_at k flaws.Loop)) (none_outside (lowest_outside (length code.ops) None code.loops))) is

pub rest_sorted : (code : Code) (s : ℕ) → s ≡ sorted_below (length code.ops) code.loops → length code.ops ≤ s → none_outside (lowest_outside (length code.ops) None code.loops) ≡ rest_of code
unfolding rest_of
rest_sorted code s is le =
    let test : nat_lt s (length code.ops) ≡ false = grind (arith, nat_tests) in
    let now : none_outside (lowest_outside (length code.ops) None code.loops) ≡ cond (nat_lt s (length code.ops)) (Err (fault_at s flaws.Loop)) (none_outside (lowest_outside (length code.ops) None code.loops)) =
    sym (ap (λ b. cond b (Err (fault_at s flaws.Loop)) (none_outside (lowest_outside (length code.ops) None code.loops))) test) in
    now ∙ ap (λ k. cond (nat_lt k (length code.ops)) (Err (fault_at k flaws.Loop)) (none_outside (lowest_outside (length code.ops) None code.loops))) is

all_sorted : (code : Code) (s : ℕ) → s ≡ length code.ops → each (loop_at code) (range_with_len 0 s) ≡ Ok tt → loops code ≡ none_outside (lowest_outside (length code.ops) None code.loops)
unfolding loops
all_sorted code s is so_far =
    ap (λ r. r >>= λ _. none_outside (lowest_outside (length code.ops) None code.loops)) (ap (λ k. each (loop_at code) (range_with_len 0 k)) (sym is) ∙ so_far)

pub loops_rest : (code : Code) (s : ℕ) (d : List ℕ) → s ≡ sorted_below (length code.ops) code.loops → depths_below code s ≡ Ok d → loops code ≡ rest_of code
loops_rest code s d is ok = by (nat_lt s (length code.ops)) refl
  where
    few : s ≤ length code.ops
    few = subst (λ k. k ≤ length code.ops) (sym is) (sorted_le (length code.ops) code.loops)

    so_far : each (loop_at code) (range_with_len 0 s) ≡ Ok tt
    so_far = (below_ok code s d ok).0

    fault : (s ≡ length code.ops) ⊎ (rising s code.loops ≡ Err flaws.Loop)
    fault = subst (λ k. (k ≡ length code.ops) ⊎ (rising k code.loops ≡ Err flaws.Loop)) (sym is) (sorted_fault (length code.ops) code.loops)

    ends_so : s < length code.ops → (s ≡ length code.ops) ⊎ (rising s code.loops ≡ Err flaws.Loop) → loops code ≡ rest_of code
    ends_so lt (inl same) = absurd (omega (arith, lt, same))
    ends_so lt (inr bad) = unsorted code s lt bad so_far ∙ rest_unsorted code s is lt

    by : (b : Bool) → nat_lt s (length code.ops) ≡ b → loops code ≡ rest_of code
    by true test = let lt : s < length code.ops = grind (arith, nat_tests) in ends_so lt fault
    by false test =
        let le : length code.ops ≤ s = grind (arith, nat_tests) in
        all_sorted code s (omega (arith, le, few)) so_far ∙ rest_sorted code s is le

no_more_places : (code : Code) (s : ℕ) → s ≡ sorted_below (length code.ops) code.loops → rest_of code ≡ Ok tt → s ≡ length code.ops
no_more_places code s is ok = by (nat_lt s (length code.ops)) refl
  where
    few : s ≤ length code.ops
    few = subst (λ k. k ≤ length code.ops) (sym is) (sorted_le (length code.ops) code.loops)

    by : (b : Bool) → nat_lt s (length code.ops) ≡ b → s ≡ length code.ops
    by true test =
        let lt : s < length code.ops = grind (arith, nat_tests) in
        let bad = rest_unsorted code s is lt in
        absurd cc
    by false test = let le : length code.ops ≤ s = grind (arith, nat_tests) in omega (arith, le, few)

pub all_depths : (code : Code) (s : ℕ) (d : List ℕ) → s ≡ sorted_below (length code.ops) code.loops → depths_below code s ≡ Ok d → rest_of code ≡ Ok tt → d ≡ map (depth code) (places code)
all_depths code s d is ok rest = (below_ok code s d ok).1 ∙ ap (λ k. map (depth code) (range_with_len 0 k)) (no_more_places code s is rest)

pub below_fails : (code : Code) (place s : ℕ) (e : VerifyFault) → place < s → Err e ≡ loop_at code place
    → each (loop_at code) (range_with_len place (s - place)) ≡ each (loop_at code) (range_with_len 0 s) → depths_below code s ≡ Err e
unfolding depths_below
below_fails code place s e lt failed so_far =
    sym (ap (λ r. r >>= λ _. Ok (map (depth code) (range_with_len 0 s))) (range_error (loop_at code) place s e (each (loop_at code) (range_with_len 0 s)) lt failed so_far))

pub below_made : (code : Code) (place s : ℕ) (d : List ℕ) → s ≤ place → place ≤ s → d ≡ map (depth code) (range_with_len 0 place)
    → each (loop_at code) (range_with_len place (s - place)) ≡ each (loop_at code) (range_with_len 0 s) → depths_below code s ≡ Ok d
unfolding depths_below
below_made code place s d le ge is so_far =
    let same : place ≡ s = omega (arith, le, ge) in
    sym (ap (λ r. r >>= λ _. Ok (map (depth code) (range_with_len 0 s))) (range_end (loop_at code) place s (each (loop_at code) (range_with_len 0 s)) le so_far))
    ∙ ap (λ l. Ok l) (sym (is ∙ ap (λ k. map (depth code) (range_with_len 0 k)) same))

pub below_gives : (memory : VerifyFault) (code : Code) (s : ℕ) (e : VerifyFault) → s ≤ length code.ops → (e ≡ memory) ⊎ (depths_below code s ≡ Err e) → (e ≡ memory) ⊎ (loops code ≡ Err e)
below_gives memory code s e le (inl m) = inl m
below_gives memory code s e le (inr failed) = inr (below_error code s e le failed)

pub sorted_inside : (code : Code) (s : ℕ) → s ≡ sorted_below (length code.ops) code.loops → s ≤ length code.ops
sorted_inside code s is = subst (λ k. k ≤ length code.ops) (sym is) (sorted_le (length code.ops) code.loops)

pub sorted_all : (code : Code) (s : ℕ) → s ≡ sorted_below (length code.ops) code.loops → (place : ℕ) → place < s → rising place code.loops ≡ Ok tt
sorted_all code s is place lt = sorted_rises place (length code.ops) code.loops (subst (λ k. place < k) is lt)
