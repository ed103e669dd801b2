-- An execution of a code can make no more steps than its budget, and the budget rises with the longest sequence.
use Rattle.std.proofs.Common.{◌≡◌, ℕ, ◌+◌, ◌*◌, ◌<◌, ◌≤◌, Bool, true, false, List, [], ◌∷◌, length, filter, refl, cond, arith}
use Rattle.std.specs.Prelude.{not, ◌==◌, ◌&&◌, nat_le}
use Rattle.std.specs.List.{sum_by}
use Rattle.std.proofs.Math.Nat.{pow-le-pow_left, pow-le-pow_right}
use Rattle.std.proofs.lemmas.Bool.Decides.{nat_tests}
use Rattle.bb_code.specs.Code.{Code, places}
use Rattle.bb_code.specs.declared.frame.Loop.{Loop}
use Rattle.bb_verify.specs.Budget.{budget, turns}
use Rattle.bb_verify.specs.nesting.Loops.{holds, depth}
use Rattle.bb_theorem_machine.specs.proving.StepsLeft.{apart, often, in_rounds, comes, steps_left}
use Rattle.bb_theorem_machine.proofs.rounds.SumLemmas.{sum_le, sum_zero, filter_step}

-- ---- at the first place

fewer : (a b : Bool) → (let n : ℕ = cond (a && b) 1 0 in n) ≤ cond a 1 0
fewer true true = omega arith
fewer true false = omega arith
fewer false b = omega arith

apart_le : (ls : List Loop) (p q : ℕ) → apart ls p q ≤ length (filter (holds q) ls)
apart_le [] p q = omega arith
apart_le (l ∷ ls) p q =
    let here = fewer (holds q l) (not (holds p l)) in
    let rest = apart_le ls p q in
    omega (arith, here, rest, filter_step (λ k. holds q k && not (holds p k)) l ls, filter_step (holds q) l ls)

none_by : (h ip hq : Bool) (n w : ℕ) → (h ≡ true → ip ≡ true) → n ≡ 0 → cond (h && hq) (cond ip n (n + 1) * w) 0 ≡ 0
none_by false ip hq n w head none = refl
none_by true ip false n w head none = refl
none_by true false true n w head none = let f = head refl in absurd cc
none_by true true true n w head none = rw none (omega arith)

first_round : (w : ℕ → ℕ) (left : Loop → ℕ) (q : ℕ) (l : Loop) → left l ≡ 0 → in_rounds w left 0 q l ≡ 0
first_round w left q l none = none_by (holds 0 l) (l.head == 0) (holds q l) (left l) (w l.head) (λ is. grind (arith, nat_tests)) none

pub within_at_first : (code : Code) (m : ℕ) (left : Loop → ℕ) → ((l : Loop) → left l ≡ 0) → steps_left code m left 0 ≤ budget code m
unfolding steps_left comes
within_at_first code m left none =
    sum_le (comes code.loops m left 0) (λ q. turns m (depth code q)) (places code) (λ q there. low q)
  where
    low : (q : ℕ) → comes code.loops m left 0 q ≤ turns m (depth code q)
    low q =
        let first : nat_le 0 q ≡ true = grind (arith, nat_tests) in
        let sum : sum_by (in_rounds (λ head. often code.loops m head q) left 0 q) code.loops ≡ 0 = sum_zero (in_rounds (λ head. often code.loops m head q) left 0 q) code.loops (λ l there. first_round (λ head. often code.loops m head q) left q l (none l)) in
        let some : 0 < m + 1 = omega arith in
        let le : often code.loops m 0 q ≤ turns m (depth code q) = pow-le-pow_right some (apart_le code.loops 0 q) in
        rw first (omega (arith, sum, le))

-- ---- longer sequences

pub budget_rises : (code : Code) (a b : ℕ) → a ≤ b → budget code a ≤ budget code b
budget_rises code a b le = sum_le (λ q. turns a (depth code q)) (λ q. turns b (depth code q)) (places code) (λ q there. let more : a + 1 ≤ b + 1 = omega (arith, le) in pow-le-pow_left more (depth code q))
