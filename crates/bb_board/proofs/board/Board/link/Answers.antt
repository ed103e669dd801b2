use Rattle.std.proofs.Common.{◌≡◌, Ok}
use Rattle.bb_board.specs.State.{World}
use Rattle.bb_board.specs.Links.{after_link}
use Rattle.bb_board.specs.May.{may_link}
use Rattle.bb_board.specs.Fits.{Fits}
use Rattle.bb_board.proofs.LinkLemmas.{may_link_facts, link_keeps}
use Rattle.bb_board.proofs.ChangeLemmas.{after_step}
use Rattle.bb_board.proofs.board.Board.link.Goals as goal

pub invariant_of-self : goal.invariant_of-self
invariant_of-self c =
    let s = c.self.inside.schema in
    let w = c.self.inside.state in
    let asked : may_link s w c.args.unit c.args.slot c.args.partner ≡ Ok tt = rw (← c.self.view_is) at c.requires in
    let ok = rw c.get-schema.ensures at c.link-changed.ensures.ok in (
      c.self.invariant.0,
      after_step (λ (v : World). Fits s v) c.link-changed.result w c.link-changed.new.self (after_link s w c.args.unit c.args.slot c.args.partner) ok c.link-changed.ensures.err c.self.invariant.1
          (λ is. link_keeps s w c.self.invariant.0 c.self.invariant.1 c.args.unit c.args.slot c.args.partner (may_link_facts s w c.args.unit c.args.slot c.args.partner asked) (rw is at c.fits.ensures.links)),
    )
