use Rattle.std.proofs.Common.{rules}
use Rattle.bb_board.specs.State.{World}
use Rattle.bb_board.specs.World.{after_set}
use Rattle.bb_board.specs.Fits.{Fits}
use Rattle.bb_board.specs.Named.{NotesChanges}
use Rattle.bb_board.proofs.KeepLemmas.{set_keeps}
use Rattle.bb_board.proofs.NamedLemmas.{same_named, set_named}
use Rattle.bb_board.proofs.ChangeLemmas.{after_step}
use Rattle.bb_board.proofs.board.Board.set.Goals as goal

pub invariant_of-self : goal.invariant_of-self
invariant_of-self c =
    let s = c.self.inside.schema in
    let w = c.self.inside.state in
    let ok = rw c.get-schema.ensures at c.set-changed.ensures.ok in (
      c.self.invariant.0,
      after_step (λ (v : World). Fits s v) c.set-changed.result w c.set-changed.new.self (after_set s w c.args.unit c.args.slot c.args.value) ok c.set-changed.ensures.err c.self.invariant.1
          (λ is. set_keeps s w c.args.unit c.args.slot c.args.value c.self.invariant.1 (rw is at c.fits.ensures.units) (search rules) (search rules)),
    )

pub returns-clause-named : goal.returns-clause-named
returns-clause-named c =
    let s = c.get-schema.result.now in
    let w = c.self.inside.state in
    let named = after_step (λ (v : World). NotesChanges w v) c.set-changed.result w c.set-changed.new.self (after_set s w c.args.unit c.args.slot c.args.value) c.set-changed.ensures.ok c.set-changed.ensures.err (same_named w) (λ is. set_named s w c.args.unit c.args.slot c.args.value) in
    search (rules, named)
