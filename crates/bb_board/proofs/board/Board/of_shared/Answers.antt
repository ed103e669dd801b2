use Rattle.std.proofs.Common.{ap, ◌∙◌}
use Rattle.bb_schema.specs.Fits as schemas
use Rattle.bb_board.specs.World.{empty_world}
use Rattle.bb_board.proofs.KeepLemmas.{empty_fits}
use Rattle.bb_board.proofs.board.Board.of_shared.Goals as goal

pub invariant_of-result : goal.invariant_of-result
invariant_of-result c =
    let schema_fits : schemas.Fits c.args.schema = rw (← c.get-2.ensures) c.fits.ensures in
    (schema_fits, empty_fits c.args.schema c.in_ok-state.state (c.in_ok-state.ensures.empty ∙ ap empty_world c.get.ensures) c.fits-2.ensures.units c.fits-2.ensures.links (rw c.get.ensures at c.in_ok-state.ensures.ends))
