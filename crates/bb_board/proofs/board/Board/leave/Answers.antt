use Rattle.std.proofs.Common.{◌≡◌, true, rules}
use Rattle.bb_units.specs.Units.{is_live}
use Rattle.bb_board.specs.State.{World}
use Rattle.bb_board.specs.Spaces.{after_leave}
use Rattle.bb_board.specs.Fits.{Fits}
use Rattle.bb_board.proofs.SpaceLemmas.{leave_keeps}
use Rattle.bb_board.proofs.ChangeLemmas.{after_step}
use Rattle.bb_board.proofs.board.Board.leave.Goals as goal

pub invariant_of-self : goal.invariant_of-self
invariant_of-self c =
    let s = c.self.inside.schema in
    let w = c.self.inside.state in
    let live : is_live w.units c.args.unit ≡ true = search (rules, rw (← c.self.view_is) at c.requires.live) in (
      c.self.invariant.0,
      after_step (λ (v : World). Fits s v) c.leave-changed.result w c.leave-changed.new.self (after_leave w c.args.unit c.args.space) c.leave-changed.ensures.ok c.leave-changed.ensures.err c.self.invariant.1
          (λ is. leave_keeps s w c.self.invariant.1 c.args.unit c.args.space live (rw (← c.self.view_is) at c.requires.space)),
    )
