use Rattle.std.proofs.Common.{◌≡◌, ◌∷◌, ◌++◌, map}
use Rattle.std.specs.Vec.Iter.{into_iter_items}
use Rattle.bb_trace.specs.declared.note.Note.TheVariants.{Closed, Finished}
use Rattle.bb_run.proofs.ending.last_notes.Given as goal

abbrev pub invariant-loop-closing : goal.invariant-loop-closing
invariant-loop-closing l = l.notes.items ++ map Closed (into_iter_items l.closing-iterator) ≡ Finished l.fn.end ∷ map Closed l.fn.closed
