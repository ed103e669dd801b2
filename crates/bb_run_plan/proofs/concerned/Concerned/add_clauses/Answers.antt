use Rattle.bb_run_plan.specs.proving.Concerned.{places_for}
use Rattle.bb_run_plan.proofs.ConcernedLemmas.{clause_added, clauses_added}
use Rattle.bb_run_plan.proofs.concerned.Concerned.add_clauses.Goals as goal

pub loop-clause-preserved : goal.loop-clause-preserved
loop-clause-preserved c event =
    clause_added event c.args.clauses.now c.args.place (places_for c.args.self.now event) c.loop-clause.clause-index _ (places_for c.loop-clause.self event) (places_for c.add_clause.new.self event)
    c.loop-clause-test.true (c.loop-clause.invariant event) (c.in_ok-add_clause.ensures event)

pub returns : goal.returns
returns c event = clauses_added event c.args.clauses.now c.args.place (places_for c.args.self.now event) c.loop-clause.clause-index (places_for c.loop-clause.self event) c.loop-clause-test.false (c.loop-clause.invariant event)
