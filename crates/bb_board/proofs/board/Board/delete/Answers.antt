use Rattle.std.proofs.Common.{rules}
use Rattle.bb_board.specs.State.{World}
use Rattle.bb_board.specs.Deletion.{after_delete}
use Rattle.bb_board.specs.Fits.{Fits}
use Rattle.bb_board.specs.Named.{NotesChanges}
use Rattle.bb_board.proofs.DeletionLemmas.{delete_keeps}
use Rattle.bb_board.proofs.NamedLemmas.{same_named}
use Rattle.bb_board.proofs.StepLemmas.{delete_named}
use Rattle.bb_board.proofs.ChangeLemmas.{after_step}
use Rattle.bb_board.proofs.board.Board.delete.Goals as goal

pub invariant_of-self : goal.invariant_of-self
invariant_of-self c =
    let s = c.self.inside.schema in
    let w = c.self.inside.state in
    let ok = rw c.get-schema.ensures at c.delete-changed.ensures.ok in (
      c.self.invariant.0,
      after_step (λ (v : World). Fits s v) c.delete-changed.result w c.delete-changed.new.self (after_delete s w c.args.unit) ok c.delete-changed.ensures.err c.self.invariant.1
          (λ is. delete_keeps s w c.self.invariant.0 c.self.invariant.1 c.args.unit),
    )

pub returns-clause-named : goal.returns-clause-named
returns-clause-named c =
    let s = c.get-schema.result.now in
    let w = c.self.inside.state in
    let named = after_step (λ (v : World). NotesChanges w v) c.delete-changed.result w c.delete-changed.new.self (after_delete s w c.args.unit) c.delete-changed.ensures.ok c.delete-changed.ensures.err (same_named w) (λ is. delete_named s w c.args.unit) in
    search (rules, named)
