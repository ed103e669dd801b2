use Rattle.bb_board.proofs.DeletingLemmas.{class_within}
use Rattle.bb_board.proofs.state.State.deletion_notes.Goals as goal

pub add_notes_of-requires-clause-class : goal.add_notes_of-requires-clause-class
add_notes_of-requires-clause-class c =
    class_within c.args.schema.now c.args.self.now c.requires.fits c.args.units.now c.loop-index.index 0 c.requires.live c.loop-index-test.true
