use Rattle.std.proofs.Common.{◌∙◌, Some, ap, append-nil, refl, sym}
use Rattle.bb_trace.specs.Events.{unit_of}
use Rattle.bb_run.specs.declared.asking.Reply.TheVariants.{Over}
use Rattle.bb_run.specs.Asking.{entry_of}
use Rattle.bb_run.specs.Processing.{obviated_by}
use Rattle.bb_run.specs.State.{with_board}
use Rattle.bb_run.specs.Seen.{seen}
use Rattle.bb_run.proofs.emitting.ExecutionLemmas.{reply_noted}
use Rattle.bb_run.proofs.reacting.obviate_one.Goals as goal

pub returns-in-Over-clause-noted : goal.returns-in-Over-clause-noted
returns-in-Over-clause-noted g c =
    let begun = c.entry_of-entry.ensures ∙ ap (λ u. entry_of c.args.activation.unit (Some u)) c.unit.ensures in
    let s = seen g.N.NativeSource.meaning c.args.state.now in
    reply_noted c.args.notes.now.items c.args.notes.now.items s (with_board s c.ask.new.board) (Some c.in-Over.end) c.ask.new.board c.args.reaction.now.code.code (entry_of c.args.activation.unit (Some (unit_of c.args.event)))
    c.entry_of-entry.result c.in_ok-end.field-0 (Over c.in-Over.end) (obviated_by c.args.activation) begun c.in_ok-end.ensures.replied c.in-Over.is
    (record { notes = sym (append-nil c.args.notes.now.items); state = refl; end = refl })
