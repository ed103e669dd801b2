-- Loops whose heads rise, each of which ends before a place.
use Rattle.std.proofs.Common.{◌≡◌, ℕ, ◌+◌, ◌-◌, ◌<◌, ◌≤◌, Bool, true, false, ◌&&◌, List, [], ◌∷◌, ◌++◌, length, None, Result, Ok, refl, ap, ◌∙◌, arith, suc, cond}
use Rattle.std.specs.Prelude.{filter, nat_le, nat_lt, ◌==◌}
use Rattle.std.proofs.lemmas.Bool.{lt-ltb, le-ltb, lt-leb, ltb-true, ltb-false}
use Rattle.bb_basis.specs.Results.{◌>>=◌}
use Rattle.bb_code.specs.declared.frame.Loop.{Loop}
use Rattle.bb_code.specs.declared.flaw.Flaw.{Flaw as CodeFlaw}
use Rattle.bb_verify.specs.nesting.Loops.{holds, never, rising, lowest_outside}
use Rattle.bb_theorem_accepted.proofs.nests.NestLemmas.{Loops}

-- heads rise, from a place on, and ends come after them, up to another
abbrev pub Within : (from to : ℕ) → List Loop → Type 0
Within from to [] = Unit {0}
Within from to (l ∷ ls) = (from ≤ l.head) × (l.head < l.end) × (l.end ≤ to) × Within (l.head + 1) to ls

pub within_more : (from to low high : ℕ) (ls : List Loop) → low ≤ from → to ≤ high → Within from to ls → Within low high ls
within_more from to low high [] first last w = tt
within_more from to low high (l ∷ ls) first last w =
    let a = w.0 in
    let c = w.2 in
    (omega (arith, first, a), w.1, omega (arith, last, c), within_more (l.head + 1) to (l.head + 1) high ls (omega arith) last w.3)

-- after a place no loop begins there
pub within_on : (from mid to : ℕ) (xs ys : List Loop) → from ≤ mid + 1 → mid ≤ to → Within from mid xs → Within (mid + 1) to ys → Within from to (xs ++ ys)
within_on from mid to [] ys le up first then = within_more (mid + 1) to from to ys le (omega arith) then
within_on from mid to (l ∷ ls) ys le up first then =
    let b = first.1 in
    let c = first.2 in
    (first.0, first.1, omega (arith, c, up), within_on (l.head + 1) mid to ls ys (omega (arith, b, c)) up first.3 then)

-- where each begins and ends
pub within_all : (from to low : ℕ) (ls : List Loop) → low ≤ from → Within from to ls → Loops (λ l. (low ≤ l.head) × (l.end ≤ to)) ls
within_all from to low [] le w = tt
within_all from to low (l ∷ ls) le w =
    let a = w.0 in
    ((omega (arith, le, a), w.2), within_all (l.head + 1) to low ls (omega (arith, le, a)) w.3)

-- ---- how many hold a place

abbrev pub around : ℕ → List Loop → ℕ
around place [] = 0
around place (l ∷ ls) = cond (holds place l) (suc (around place ls)) (around place ls)

pub depth_is : (place : ℕ) (ls : List Loop) → length (filter (holds place) ls) ≡ around place ls
depth_is place [] = refl
depth_is place (l ∷ ls) = by_held (depth_is place ls) (holds place l)
  where
    by_held : length (filter (holds place) ls) ≡ around place ls → (b : Bool) → length (cond b (l ∷ filter (holds place) ls) (filter (holds place) ls)) ≡ cond b (suc (around place ls)) (around place ls)
    by_held rest true = ap suc rest
    by_held rest false = rest

around_on : (place : ℕ) (xs ys : List Loop) → around place (xs ++ ys) ≡ around place xs + around place ys
around_on place [] ys = omega arith
around_on place (l ∷ ls) ys = by_held (holds place l) (around_on place ls ys)
  where
    by_held : (b : Bool) → around place (ls ++ ys) ≡ around place ls + around place ys → cond b (suc (around place (ls ++ ys))) (around place (ls ++ ys)) ≡ cond b (suc (around place ls)) (around place ls) + around place ys
    by_held true e = omega (arith, e)
    by_held false e = e

-- none before the first head, and none after the last end
none_below : (place from to : ℕ) (ls : List Loop) → place < from → Within from to ls → around place ls ≡ 0
none_below place from to [] lt w = refl
none_below place from to (l ∷ ls) lt w =
    let a = w.0 in
    ap (λ b. cond (b && nat_lt place l.end) (suc (around place ls)) (around place ls)) (lt-leb l.head place (omega (arith, lt, a))) ∙ none_below place (l.head + 1) to ls (omega (arith, lt, a)) w.3

none_above : (place from to : ℕ) (ls : List Loop) → to ≤ place → Within from to ls → around place ls ≡ 0
none_above place from to [] le w = refl
none_above place from to (l ∷ ls) le w =
    let c = w.2 in
    ap (λ b. cond b (suc (around place ls)) (around place ls)) (second (nat_le l.head place) (nat_lt place l.end) (le-ltb place l.end (omega (arith, le, c)))) ∙ none_above place (l.head + 1) to ls le w.3
  where
    second : (a b : Bool) → b ≡ false → (a && b) ≡ false
    second true b h = h
    second false b h = refl

-- at most so many at any place
abbrev pub Shallow : ℕ → List Loop → Type 0
Shallow n ls = (place : ℕ) → around place ls ≤ n

pub shallow_on : (n from mid to : ℕ) (xs ys : List Loop) → Within from mid xs → Within (mid + 1) to ys → Shallow n xs → Shallow n ys → Shallow n (xs ++ ys)
shallow_on n from mid to xs ys first then one two place = by_place (nat_lt place mid) refl
  where
    by_place : (b : Bool) → nat_lt place mid ≡ b → around place (xs ++ ys) ≤ n
    by_place true h =
        let low = ltb-true place mid h in
        let none = none_below place (mid + 1) to ys (omega (arith, low)) then in
        let all = around_on place xs ys in
        let few = one place in
        omega (arith, none, all, few)
    by_place false h =
        let none = none_above place from mid xs (ltb-false place mid h) first in
        let all = around_on place xs ys in
        let few = two place in
        omega (arith, none, all, few)

-- a loop around others
pub shallow_more : (n : ℕ) (l : Loop) (ls : List Loop) → 1 ≤ n → Shallow (n - 1) ls → Shallow n (l ∷ ls)
shallow_more n l ls some few place = by_held (holds place l) (few place)
  where
    by_held : (b : Bool) → around place ls ≤ n - 1 → cond b (suc (around place ls)) (around place ls) ≤ n
    by_held true le = omega (arith, le, some)
    by_held false le = omega (arith, le, some)

-- ---- what the verifier asks of it

-- no loop is listed after one whose head comes later
pub rising_passes : (place from to : ℕ) (ls : List Loop) → Within from to ls → rising place ls ≡ Ok tt
unfolding rising
rising_passes place from to [] w = refl
rising_passes place from to (l ∷ []) w = refl
rising_passes place from to (l ∷ k ∷ ls) w =
    let low : l.head < k.head = (let a = w.3.0 in omega (arith, a)) in
    ap (λ (r : Result (Unit {0}) CodeFlaw). r >>= λ _. rising place (k ∷ ls)) (placed low (k.head == place)) ∙ rising_passes place (l.head + 1) to (k ∷ ls) w.3
  where
    above : l.head < k.head → nat_le k.head l.head ≡ false
    above low = lt-leb k.head l.head low

    placed : l.head < k.head → (b : Bool) → never (b && nat_le k.head l.head) ≡ Ok tt
    placed low true = rw (above low) refl
    placed low false = refl

-- no head is outside the code
pub none_passes : (count from to : ℕ) (ls : List Loop) → to ≤ count → Within from to ls → lowest_outside count None ls ≡ None
unfolding lowest_outside
none_passes count from to [] le w = refl
none_passes count from to (l ∷ ls) le w =
    let b = w.1 in
    let c = w.2 in
    rw (lt-ltb l.head count (omega (arith, b, c, le))) (none_passes count (l.head + 1) to ls le w.3)
