use Rattle.std.proofs.Common.{◌≡◌, take}
use Rattle.bb_board.specs.declared.event.Event.{Event}
use Rattle.bb_rules.specs.KindIndex.{put_if}
use Rattle.bb_run_plan.specs.Concerned.{any_of_kind}
use Rattle.bb_run_plan.specs.proving.Concerned.{places_for}
use Rattle.bb_run_plan.proofs.concerned.Concerned.add_clauses.Given as goal

abbrev pub invariant-loop-clause : goal.invariant-loop-clause
invariant-loop-clause l =
    (event : Event) → places_for l.self event ≡ put_if (any_of_kind event (take l.clause-index l.clauses)) (places_for l.fn.self event) l.place
