use Rattle.std.proofs.Common.{subst, sym, ◌∙◌}
use Rattle.bb_run.specs.Emitting.{Makes, at}
use Rattle.bb_run.specs.Seen.{seen}
use Rattle.bb_run.proofs.Laws.{chosen_suits}
use Rattle.bb_run_held.proofs.HeldLemmas.{turn_acts}
use Rattle.bb_run_held.proofs.running.take_turn.Goals as goal

pub make_cycle-requires-clause-suits : goal.make_cycle-requires-clause-suits
make_cycle-requires-clause-suits g c =
    chosen_suits c.args.plan.now (seen g.N.NativeSource.meaning c.args.state.now) c.requires.serves c.in-Some.activation (sym c.choose.ensures ∙ c.in-Some.is)

pub returns-in-Some-clause-made : goal.returns-in-Some-clause-made
returns-in-Some-clause-made g c =
    let plan = c.args.plan.now in
    let taken = g.O.Out.taken in
    subst (λ p. Makes plan (at taken c.args.runner.now) (at taken c.make_cycle.new.self) p (seen g.N.NativeSource.meaning c.make_cycle.new.state) c.make_cycle.result)
    (turn_acts plan c.args.made.now (seen g.N.NativeSource.meaning c.args.state.now) c.args.number c.in-Some.activation c.requires.next (sym c.choose.ensures ∙ c.in-Some.is)) c.make_cycle.ensures.made
