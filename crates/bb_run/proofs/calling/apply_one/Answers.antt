use Rattle.std.proofs.Common.{None, Result, subst, sym}
use Rattle.bb_trace.specs.Board.{Board}
use Rattle.bb_trace.specs.Denial.{Denial}
use Rattle.bb_run.specs.Run.{upon_ask}
use Rattle.bb_run.specs.Seen.{seen}
use Rattle.bb_run.specs.Emitting.{IsResponse}
use Rattle.bb_run.proofs.calling.apply_one.Goals as goal

pub returns-in_ok-take_noted-in-Ok : goal.returns-in_ok-take_noted-in-Ok
returns-in_ok-take_noted-in-Ok g c =
    subst (λ (r : Result Board Denial). IsResponse (upon_ask c.args.number r (seen g.N.NativeSource.meaning c.args.state.now)) c.args.notes.now.items c.take_noted.new.notes.items (seen g.N.NativeSource.meaning c.take_noted.new.state) None) (sym c.in-Ok.ensures.gives)
    (c.in_ok-take_noted-in-Ok.ensures None)
