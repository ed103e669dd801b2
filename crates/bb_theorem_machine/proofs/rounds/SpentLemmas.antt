-- An execution of an accepted code makes no more steps than are left at its state.
use Rattle.std.proofs.Common.{◌≡◌, ℕ, zero, suc, ◌+◌, ◌<◌, ◌≤◌, List, Some, Result, Ok, Err, sym, subst, arith}
use Rattle.std.specs.Prelude.{slice_get}
use Rattle.bb_basis.proofs.AppendLemmas.{there_is}
use Rattle.bb_schema.specs.Schema.{Schema}
use Rattle.bb_schema.specs.Fits as schemas
use Rattle.bb_units.specs.declared.units.TheConstants.{UNIT_LIMIT}
use Rattle.bb_board.specs.Board.{Board}
use Rattle.bb_board.specs.Fits.{Fits}
use Rattle.bb_code.specs.Code.{Code, IsCode}
use Rattle.bb_code.specs.declared.op.Op.{Op}
use Rattle.bb_verify.specs.Facts.{Facts}
use Rattle.bb_verify.specs.FrameType.{Frame}
use Rattle.bb_verify.specs.PartType.{Part}
use Rattle.bb_machine.specs.declared.halt.Halt.{Halt}
use Rattle.bb_machine.specs.declared.halt.Halt.TheVariants.{Answered, Full, Stuck, Memory}
use Rattle.bb_machine.specs.declared.outcome.Outcome.{Outcome}
use Rattle.bb_machine.specs.declared.outcome.Stop.{Stop}
use Rattle.bb_machine.specs.declared.outcome.Stop.TheVariants as stops
use Rattle.bb_machine.specs.Machine.{Machine, go_to}
use Rattle.bb_machine.specs.Changing.{State}
use Rattle.bb_machine.specs.Step.{step}
use Rattle.bb_machine.specs.Activation.{Execution, steps_from}
use Rattle.bb_machine.proofs.Laws.{after_op, by_op}
use Rattle.bb_theorem_machine.specs.NeverWrong.{Stands}
use Rattle.bb_theorem_machine.specs.proving.Sequences.{AreLow, left_of, Moved}
use Rattle.bb_theorem_machine.specs.proving.StepsLeft.{steps_left}
use Rattle.bb_theorem_machine.proofs.RunLemmas.{inside}
use Rattle.bb_theorem_machine.proofs.StandLemmas.{Advances, step_advances}
use Rattle.bb_theorem_machine.proofs.rounds.FallLemmas.{step_left}
use Rattle.bb_theorem_machine.proofs.rounds.HeadLemmas.{heads_inside}
use Rattle.bb_theorem_machine.proofs.rounds.KeptSteps.{After}
use Rattle.bb_theorem_machine.proofs.rounds.LeftLemmas.{moved_rises}
use Rattle.bb_theorem_machine.proofs.rounds.MovedSteps.{step_moves}
use Rattle.bb_theorem_machine.proofs.rounds.StepLemmas.{step_falls}

-- no less was found than before, and no more than there can be units
abbrev Found : (before found : ℕ) → Type 0
Found before found = (before ≤ found) × (found ≤ UNIT_LIMIT)

-- after so many steps and at most n more: an end and a full blackboard came within the steps that were left, for what
-- was found in the end, and where n more were made, more were left
abbrev pub Spends : Code → Machine → (n steps : ℕ) → Result Outcome Stop → Type 0
Spends code m n steps (Ok o) = Found m.found o.found × (o.steps ≤ steps + steps_left code o.found (left_of code m) m.place)
Spends code m n steps (Err (stops.Full made found)) = Found m.found found × (made ≤ steps + steps_left code found (left_of code m) m.place)
Spends code m n steps (Err (stops.Stuck reason made found)) = Found m.found found × (made ≡ steps + n) × (made < steps + steps_left code found (left_of code m) m.place)
Spends code m n steps (Err stops.Memory) = Unit {0}

module _ (s : Schema) (part : Part) (code : Code) (frames : List Frame) (is : IsCode code) (sf : schemas.Fits s) (facts : Facts s part code frames) where
  -- what an op made of a state
  moved : (m : Machine) (b : Board) (op : Op) → Stands s code frames (m, b) → After (Moved op (go_to (m.place + 1) m)) (step code op (go_to (m.place + 1) m, b))
  moved m b op stands =
      let schema : schemas.Fits b.schema = subst schemas.Fits (sym stands.schema) sf in
      let world : Fits b.schema b.world = subst (λ (x : Schema). Fits x b.world) (sym stands.schema) stands.fits in
      step_moves b (go_to (m.place + 1) m) schema world code op

  module _ (m : Machine) (b : Board) (n steps : ℕ) (stands : Stands s code frames (m, b)) (low : AreLow m) (few : m.found ≤ UNIT_LIMIT) where
    some_left : (found : ℕ) → 1 ≤ steps_left code found (left_of code m) m.place
    some_left found = step_left code found (left_of code m) m.place (inside s part code frames is sf facts m b stands)

    -- none may be made any more
    none_more : Spends code m zero steps (steps_from zero steps code (m, b)).0
    unfolding steps_from
    none_more = let left = some_left m.found in ((omega arith, few), omega arith, omega (arith, left))

    -- where one was made, and then what is told of the next state
    spends_one_more : (next : Machine) (r : Result Outcome Stop) → m.found ≤ next.found
        → ((found : ℕ) → next.found ≤ found → steps_left code found (left_of code next) next.place < steps_left code found (left_of code m) m.place)
        → Spends code next n (steps + 1) r → Spends code m (suc n) steps r
    spends_one_more next (Ok o) rises falls told =
        let low = told.0.0 in let made = told.1 in let lt = falls o.found low in
        ((omega (arith, rises, low), told.0.1), omega (arith, made, lt))
    spends_one_more next (Err (stops.Full made found)) rises falls told =
        let low = told.0.0 in let le = told.1 in let lt = falls found low in
        ((omega (arith, rises, low), told.0.1), omega (arith, le, lt))
    spends_one_more next (Err (stops.Stuck reason made found)) rises falls told =
        let low = told.0.0 in let all = told.1 in let le = told.2 in let lt = falls found low in
        ((omega (arith, rises, low), told.0.1), omega (arith, all), omega (arith, le, lt))
    spends_one_more next (Err stops.Memory) rises falls told = tt

    -- what comes of an op
    by_step : (op : Op) (r : Result State Halt) → slice_get code.ops m.place ≡ Some op → Advances s code frames m.place op r → After (Moved op (go_to (m.place + 1) m)) r
        → ((next : State) → Stands s code frames next → AreLow next.0 → next.0.found ≤ UNIT_LIMIT → Spends code next.0 n (steps + 1) (steps_from n (steps + 1) code next).0)
        → Spends code m (suc n) steps (after_op n steps code m b r).0
    by_step op (Ok next) at adv made again =
        let before : AreLow (go_to (m.place + 1) m) = record { locals = low.locals; stack = low.stack } in
        let rises = moved_rises op (go_to (m.place + 1) m) next before made in
        spends_one_more next.0 (steps_from n (steps + 1) code next).0 rises.found
        (λ found le. step_falls code (heads_inside code facts.heads) facts.loops facts.jumps m next.0 found le rises.low op next.1 at made adv.1)
        (again next adv.0 rises.low (rises.few few))
    by_step op (Err (Answered a)) at adv made again = let left = some_left m.found in ((omega arith, few), omega (arith, left))
    by_step op (Err Full) at adv made again = let left = some_left m.found in ((omega arith, few), omega (arith, left))
    by_step op (Err (Stuck reason)) at adv made again = elim adv [ ]
    by_step op (Err Memory) at adv made again = elim adv [ ]

  pub spends_from : (n steps : ℕ) (m : Machine) (b : Board) → Stands s code frames (m, b) → AreLow m → m.found ≤ UNIT_LIMIT → Spends code m n steps (steps_from n steps code (m, b)).0
  spends_from zero steps m b stands low few = none_more m b zero steps stands low few
  spends_from (suc n) steps m b stands low few =
      let op = there_is code.ops m.place (inside s part code frames is sf facts m b stands) in
      subst (λ (e : Execution). Spends code m (suc n) steps e.0) (sym (by_op n steps code m b (Some op.0) (sym op.1)))
      (by_step m b n steps stands low few op.0 (step code op.0 (go_to (m.place + 1) m, b)) op.1 (step_advances part code frames is s m b op.0 sf facts stands op.1) (moved m b op.0 stands)
      (λ next there low few. spends_from n (steps + 1) next.0 next.1 there low few))
