use Rattle.std.proofs.Common.{◌≡◌, drop}
use Rattle.std.specs.List.{fold}
use Rattle.bb_run_plan.specs.Foci.{told_note, with_foci}
use Rattle.bb_run_plan.proofs.foci.tell_notes.Given as goal

abbrev pub invariant-loop-note : goal.invariant-loop-note
invariant-loop-note l = record {
  same : l.agenda ≡ with_foci l.fn.agenda l.agenda.foci;
  left : fold (told_note l.board.schema l.board.world.units) l.agenda.foci (drop l.note-index l.notes) ≡ fold (told_note l.board.schema l.board.world.units) l.fn.agenda.foci l.notes;
}
