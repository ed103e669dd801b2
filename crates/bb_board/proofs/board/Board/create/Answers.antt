use Rattle.std.proofs.Common.{rules}
use Rattle.bb_board.specs.State.{World}
use Rattle.bb_board.specs.World.{after_create}
use Rattle.bb_board.specs.Fits.{Fits}
use Rattle.bb_board.specs.Named.{NotesChanges}
use Rattle.bb_board.proofs.KeepLemmas.{create_keeps}
use Rattle.bb_board.proofs.NamedLemmas.{same_named, create_named}
use Rattle.bb_board.proofs.ChangeLemmas.{after_step}
use Rattle.bb_board.proofs.board.Board.create.Goals as goal

pub invariant_of-self : goal.invariant_of-self
invariant_of-self c =
    let s = c.self.inside.schema in
    let w = c.self.inside.state in (
      c.self.invariant.0,
      after_step (λ (v : World). Fits s v) c.create-created.result w c.create-created.new.self (after_create w c.args.class) c.create-created.ensures.created c.create-created.ensures.err c.self.invariant.1
          (λ is. create_keeps s w c.args.class c.self.invariant.1 (rw is at c.fits.ensures.units) (rw (← c.self.view_is) at c.requires)),
    )

pub returns-clause-named : goal.returns-clause-named
returns-clause-named c =
    let w = c.self.inside.state in
    let named = after_step (λ (v : World). NotesChanges w v) c.create-created.result w c.create-created.new.self (after_create w c.args.class) c.create-created.ensures.created c.create-created.ensures.err (same_named w) (λ is. create_named w c.args.class) in
    search (rules, named)
