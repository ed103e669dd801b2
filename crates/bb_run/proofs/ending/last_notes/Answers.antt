use Rattle.std.proofs.Common.{◌∙◌, ◌∷◌, map, sym}
use Rattle.std.specs.Vec.Iter.{into_iter_items}
use Rattle.bb_trace.specs.declared.note.Note.TheVariants.{Closed, Finished}
use Rattle.bb_run.proofs.emitting.WholeLemmas.{all_moved}
use Rattle.bb_run.proofs.ending.last_notes.Goals as goal

pub returns : goal.returns
returns c =
    all_moved (λ n. Closed n) c.loop-closing.notes.items (Finished c.args.end ∷ map (λ n. Closed n) c.args.closed) (into_iter_items c.loop-closing.closing-iterator) (sym c.loop-closing.closing-iterator.rest.ok.0 ∙ c.in-None.ensures.steps.0) c.loop-closing.invariant
