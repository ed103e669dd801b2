use Rattle.std.proofs.Common.{◌≡◌, ◌∙◌, refl}
use Rattle.std.proofs.lemmas.Result.{err_from_is_err_and}
use Rattle.bb_basis.proofs.PlacedLemmas.{placed_err, placed_ok}
use Rattle.bb_basis.proofs.FoldAtLemmas.{fold_at_next, fold_at_error, fold_at_end}
use Rattle.bb_schema_form.specs.UnitsDocument.{first_link_declaration}
use Rattle.bb_schema_form.specs.declared.place.ListKey.TheVariants as lists
use Rattle.bb_board.specs.UnitsFaults.{inside}
use Rattle.bb_board.proofs.CreateLemmas.{placed_leaves}
use Rattle.bb_board.specs.Load.{link_after}
use Rattle.bb_board.specs.declared.units_fault.UnitsFault.TheVariants.{Memory}
use Rattle.bb_board.proofs.loader.add_links.Goals as goal

pub returns-in_err-placed-clause-gives : goal.returns-in_err-placed-clause-gives
returns-in_err-placed-clause-gives c =
    let p = err_from_is_err_and c.from_residual.result c.from_residual.ensures.1 in
    rw (p.1, p.2) (fold_at_error Memory (inside lists.Links) (link_after c.args.schema.now c.args.names.now) first_link_declaration c.loop-index.board.world c.args.entries.now c.loop-index.index c.index-entries-index.result c.in_err-placed.field-0.0 _ c.loop-index-test.true c.index-entries-index.is
    (placed_err Memory Memory (inside lists.Links c.loop-index.index) (λ _. c.add_link.new.board.world) c.add_link.result ((link_after c.args.schema.now c.args.names.now) c.loop-index.board.world (first_link_declaration c.index-entries-index.result)) c.in_err-placed.field-0.0 refl c.add_link.ensures.gives c.in_err-placed.ensures) c.loop-index.invariant.0)

pub loop-index-preserved : goal.loop-index-preserved
loop-index-preserved c = (
  fold_at_next (inside lists.Links) (link_after c.args.schema.now c.args.names.now) first_link_declaration c.loop-index.board.world c.add_link.new.board.world c.args.entries.now c.loop-index.index c.index-entries-index.result _ c.loop-index-test.true c.index-entries-index.is
      (placed_ok Memory (inside lists.Links c.loop-index.index) (λ _. c.add_link.new.board.world) c.add_link.result ((link_after c.args.schema.now c.args.names.now) c.loop-index.board.world (first_link_declaration c.index-entries-index.result)) c.in_ok-placed.field-0 c.add_link.ensures.gives c.in_ok-placed.ensures) c.loop-index.invariant.0,
  placed_leaves (c.add_link.new.board.schema ≡ c.loop-index.board.schema) (inside lists.Links c.loop-index.index) c.add_link.result c.in_ok-placed.field-0 c.in_ok-placed.ensures c.add_link.ensures.schema ∙ c.loop-index.invariant.1,
  placed_leaves (c.add_link.new.board.refused ≡ c.loop-index.board.refused) (inside lists.Links c.loop-index.index) c.add_link.result c.in_ok-placed.field-0 c.in_ok-placed.ensures c.add_link.ensures.refused ∙ c.loop-index.invariant.2,
)

pub returns-clause-gives : goal.returns-clause-gives
returns-clause-gives c = fold_at_end (inside lists.Links) (link_after c.args.schema.now c.args.names.now) first_link_declaration c.loop-index.board.world c.args.entries.now c.loop-index.index _ c.loop-index-test.false c.loop-index.invariant.0
