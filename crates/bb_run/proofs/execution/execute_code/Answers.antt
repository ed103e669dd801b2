use Rattle.std.proofs.Common.{◌∙◌, ◌∷◌, [], None, Some, Ok, Err, ap, subst}
use Rattle.bb_exec.specs.declared.stop.Stop.{Stop}
use Rattle.bb_exec.specs.declared.stop.Stop.TheVariants.{Full}
use Rattle.bb_machine.specs.declared.outcome.Stop.TheVariants as stops
use Rattle.bb_verify.specs.Accepted.{Checked}
use Rattle.bb_verify.specs.Budget.{budget}
use Rattle.bb_trace.specs.End as ends
use Rattle.bb_trace.specs.declared.note.Note.TheVariants.{Ended}
use Rattle.bb_run.specs.Asking.{attempt}
use Rattle.bb_run.specs.State.{with_board}
use Rattle.bb_run.specs.Run.{noted}
use Rattle.bb_run.specs.Seen.{seen}
use Rattle.bb_run.specs.Emitting.{Attempts, IsResponse}
use Rattle.bb_run.proofs.emitting.ExecutionLemmas.{attempted_by, execution_noted}
use Rattle.bb_run.proofs.execution.execute_code.Goals as goal

pub returns-in_ok-take_noted-in-Ok : goal.returns-in_ok-take_noted-in-Ok
returns-in_ok-take_noted-in-Ok g c =
    let o = c.in-Ok.outcome in
    let s = with_board (seen g.N.NativeSource.meaning c.args.state.now) c.exec.new.board in
    let came = attempted_by (Ok o) (attempt c.args.code.now.code c.entry_of-entry.result c.args.state.now.board) c.exec.new.board c.in-Ok.ensures.outcome c.in-Ok.ensures.board in
    let old = c.args.notes.now.items in
    let new = c.take_noted.new.notes.items in
    let t = (seen g.N.NativeSource.meaning c.take_noted.new.state) in
    execution_noted old new (seen g.N.NativeSource.meaning c.args.state.now) t None c.exec.new.board c.args.code.now c.args.activation c.entry_of-entry.result (Ok o) c.entry_of-entry.ensures came.0 came.1
    (subst (λ b. IsResponse (noted s (Ended o.steps o.found b ∷ []) None) old new t None) (c.budget.ensures ∙ ap (λ (x : Checked). budget x.code o.found) c.checked.ensures) (c.in_ok-take_noted-in-Ok.ensures None))

pub returns-in_ok-take_noted-in-Err-Full : goal.returns-in_ok-take_noted-in-Err-Full
returns-in_ok-take_noted-in-Err-Full g c =
    let e = attempt c.args.code.now.code c.entry_of-entry.result c.args.state.now.board in
    let full : Attempts e (Err (Full c.in-Err-Full.field-0-0 c.in-Err-Full.field-0-1)) c.exec.new.board =
    subst (λ (r : Stop). Attempts e (Err r) c.exec.new.board) c.in-Err-Full.field-0-is (attempted_by (Err c.in-Err-Full.field-0) e c.exec.new.board c.in-Err-Full.ensures.outcome c.in-Err-Full.ensures.board) in
    execution_noted c.args.notes.now.items c.take_noted-in-Err-Full.new.notes.items (seen g.N.NativeSource.meaning c.args.state.now) (seen g.N.NativeSource.meaning c.take_noted-in-Err-Full.new.state) (Some ends.Full) c.exec.new.board
    c.args.code.now c.args.activation c.entry_of-entry.result (Err (stops.Full c.in-Err-Full.field-0-0 c.in-Err-Full.field-0-1)) c.entry_of-entry.ensures full.0 full.1 (c.in_ok-take_noted-in-Err-Full.ensures (Some ends.Full))
