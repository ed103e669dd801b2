use Rattle.std.proofs.Common.{◌≡◌, ◌++◌, map}
use Rattle.std.specs.Vec.Iter.{into_iter_items}
use Rattle.bb_trace.specs.declared.note.Note.TheVariants.{Board}
use Rattle.bb_run.proofs.noting.add_board_notes.Given as goal

abbrev pub invariant-loop-note : goal.invariant-loop-note
invariant-loop-note l = l.notes.items ++ map Board (into_iter_items l.note-iterator) ≡ l.fn.notes.items ++ map Board l.fn.noted.items
