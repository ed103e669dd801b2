-- What is known of the loops at a place, and of a jump from it, that were tested without a flaw.
use Rattle.std.proofs.Common.{◌≡◌, ℕ, ◌<◌, Bool, true, false, ◌&&◌, cond, Some, Result, Ok, Err, refl, arith}
use Rattle.std.specs.Prelude.{nat_le, nat_lt, slice_get}
use Rattle.std.proofs.lemmas.Bool.Decides.{nat_tests}
use Rattle.bb_basis.proofs.ResultLemmas.{bind_ok}
use Rattle.bb_code.specs.Code.{Code}
use Rattle.bb_code.specs.declared.frame.Loop.{Loop}
use Rattle.bb_code.specs.declared.op.Op.{Op}
use Rattle.bb_code.specs.declared.flaw.Flaw.{Flaw}
use Rattle.bb_code.specs.declared.flaw.Flaw.TheVariants.{Jump}
use Rattle.bb_code.specs.Each.{each}
use Rattle.bb_verify.specs.declared.nesting.loops.TheConstants.{NESTING_LIMIT}
use Rattle.bb_verify.specs.nesting.Jumps.{before, ahead}
use Rattle.bb_verify.specs.nesting.Loops.{check_order, never, depth, rising, begins, ends, op_before, local_of, is_same_local, is_around, nests, loop_due, head_due, op_due, place_due}

-- ---- tests

pub check_order_ok : (b : Bool) → check_order b ≡ Ok tt → b ≡ true
check_order_ok true h = refl
check_order_ok false h = absurd cc

pub never_ok : (b : Bool) → never b ≡ Ok tt → b ≡ false
never_ok true h = absurd cc
never_ok false h = refl

pub before_ok : (place other : ℕ) → before place other ≡ Ok tt → place < other
before_ok place other h = by (nat_lt place other) refl h
  where
    by : (test : Bool) → nat_lt place other ≡ test → (let r : Result (Unit {0}) Flaw = cond test (Ok tt) (Err Jump) in r) ≡ Ok tt → place < other
    by true is ok = grind (arith, nat_tests)
    by false is ok = absurd cc

pub ahead_ok : (count place target : ℕ) → ahead count place target ≡ Ok tt → (place < target) × (target < count)
unfolding ahead
ahead_ok count place target h = let one = bind_ok (before place target) _ tt h in (before_ok place target one.1, before_ok target count one.2)

-- ---- loops

-- the second loop ends no earlier and has another local, if it is around the first
pub nests_ok : (code : Code) (l outer : Loop) → nests code l outer ≡ Ok tt → ((is_around outer l && nat_lt outer.end l.end) ≡ false) × ((is_around outer l && is_same_local (local_of code outer) (local_of code l)) ≡ false)
unfolding nests
nests_ok code l outer h =
    let longer = bind_ok (never (is_around outer l && nat_lt outer.end l.end)) _ tt h in
    (never_ok (is_around outer l && nat_lt outer.end l.end) longer.1, never_ok (is_around outer l && is_same_local (local_of code outer) (local_of code l)) longer.2)

-- a loop begins and ends as it has to, and nests with all others
pub record LoopDue (code : Code) (l : Loop) : Type 0 where
  pub begun : begins l (slice_get code.ops l.head) ≡ true
  pub ended : ends l (op_before code l.end) ≡ true
  pub nested : each (nests code l) code.loops ≡ Ok tt

pub loop_due_ok : (code : Code) (l : Loop) → loop_due code l ≡ Ok tt → LoopDue code l
unfolding loop_due
loop_due_ok code l h =
    let begun = bind_ok (check_order (begins l (slice_get code.ops l.head))) _ tt h in
    let ended = bind_ok (check_order (ends l (op_before code l.end))) _ tt begun.2 in
    record { begun = check_order_ok (begins l (slice_get code.ops l.head)) begun.1; ended = check_order_ok (ends l (op_before code l.end)) ended.1; nested = ended.2 }

-- the loops with their heads at a place are as they have to be, few hold it, and they let its op do what it does
pub record PlaceDue (code : Code) (place : ℕ) (op : Op) : Type 0 where
  pub heads : each (head_due code place) code.loops ≡ Ok tt
  pub few : nat_le (depth code place) NESTING_LIMIT ≡ true
  pub lets : op_due code place op ≡ Ok tt

pub place_due_ok : (code : Code) (place : ℕ) (op : Op) → place_due code place (Some op) ≡ Ok tt → PlaceDue code place op
unfolding place_due
place_due_ok code place op h =
    let rises = bind_ok (rising place code.loops) _ tt h in
    let heads = bind_ok (each (head_due code place) code.loops) _ tt rises.2 in
    let few = bind_ok (check_order (nat_le (depth code place) NESTING_LIMIT)) _ tt heads.2 in
    record { heads = heads.1; few = check_order_ok (nat_le (depth code place) NESTING_LIMIT) few.1; lets = few.2 }
