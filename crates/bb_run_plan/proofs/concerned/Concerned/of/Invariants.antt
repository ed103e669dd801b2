use Rattle.std.proofs.Common.{◌≡◌, take}
use Rattle.bb_board.specs.declared.event.Event.{Event}
use Rattle.bb_run_plan.specs.Concerned.{concerned_from}
use Rattle.bb_run_plan.specs.proving.Concerned.{places_for}
use Rattle.bb_run_plan.proofs.concerned.Concerned.of.Given as goal

-- of the sources so far
abbrev pub invariant-loop-place : goal.invariant-loop-place
invariant-loop-place l = (event : Event) → places_for l.concerned event ≡ concerned_from event 0 (take l.place l.sources)
