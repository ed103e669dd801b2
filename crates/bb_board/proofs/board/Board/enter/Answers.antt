use Rattle.std.proofs.Common.{◌≡◌, Ok}
use Rattle.bb_board.specs.State.{World}
use Rattle.bb_board.specs.Spaces.{may_enter, after_enter}
use Rattle.bb_board.specs.Fits.{Fits}
use Rattle.bb_board.proofs.SpaceLemmas.{may_enter_facts, enter_keeps}
use Rattle.bb_board.proofs.ChangeLemmas.{after_step}
use Rattle.bb_board.proofs.board.Board.enter.Goals as goal

pub invariant_of-self : goal.invariant_of-self
invariant_of-self c =
    let s = c.self.inside.schema in
    let w = c.self.inside.state in
    let asked : may_enter s w c.args.unit c.args.space ≡ Ok tt = rw (← c.self.view_is) at c.requires in
    let ok = rw c.get-schema.ensures at c.enter-changed.ensures.ok in (
      c.self.invariant.0,
      after_step (λ (v : World). Fits s v) c.enter-changed.result w c.enter-changed.new.self (after_enter s w c.args.unit c.args.space) ok c.enter-changed.ensures.err c.self.invariant.1
          (λ is. enter_keeps s w c.self.invariant.1 c.args.unit c.args.space (may_enter_facts s w c.args.unit c.args.space asked)),
    )
