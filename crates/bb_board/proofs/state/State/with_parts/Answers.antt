use Rattle.std.proofs.Common.{◌≡◌, ◌∙◌, Some, None, sym, arith}
use Rattle.std.specs.Prelude.{slice_get}
use Rattle.std.proofs.lemmas.Option.{slice_get_within}
use Rattle.bb_board.proofs.DeletingLemmas.{next_class}
use Rattle.bb_board.proofs.PartLemmas.{parts_begin, parts_few, parts_further, parts_done}
use Rattle.bb_board.proofs.state.State.with_parts.Goals as goal

pub loop-whole-init : goal.loop-whole-init
loop-whole-init c = rw (c.in_ok-add_all.ensures, c.new-found.ensures) (parts_begin c.args.schema.now c.args.self.now c.args.unit c.requires.live)

pub slots-slots-requires : goal.slots-slots-requires
slots-slots-requires c =
    let at : slice_get c.loop-whole.found c.loop-whole.place ≡ Some c.in-Some.whole = sym c.get.ensures ∙ c.in-Some.is in
    rw c.class_at.ensures (next_class c.args.schema.now c.args.self.now c.requires.fits c.loop-whole.found c.loop-whole.place c.in-Some.whole c.loop-whole.invariant.live at)

pub overflow_add-place : goal.overflow_add-place
overflow_add-place c =
    let at : slice_get c.loop-whole.found c.loop-whole.place ≡ Some c.in-Some.whole = sym c.get.ensures ∙ c.in-Some.is in
    let few = parts_few c.args.schema.now c.args.self.now c.requires.schema c.requires.fits c.args.unit c.loop-whole.found c.loop-whole.place c.loop-whole.invariant in
    omega (arith, few, slice_get_within c.loop-whole.found c.loop-whole.place c.in-Some.whole at)

pub loop-whole-smaller : goal.loop-whole-smaller
loop-whole-smaller c =
    let at : slice_get c.loop-whole.found c.loop-whole.place ≡ Some c.in-Some.whole = sym c.get.ensures ∙ c.in-Some.is in
    let few = parts_few c.args.schema.now c.args.self.now c.requires.schema c.requires.fits c.args.unit c.loop-whole.found c.loop-whole.place c.loop-whole.invariant in
    omega (arith, few, slice_get_within c.loop-whole.found c.loop-whole.place c.in-Some.whole at)

pub loop-whole-preserved : goal.loop-whole-preserved
loop-whole-preserved c =
    let at : slice_get c.loop-whole.found c.loop-whole.place ≡ Some c.in-Some.whole = sym c.get.ensures ∙ c.in-Some.is in
    rw (c.in_ok-add_parts.ensures, c.slots-slots.ensures, c.class_at.ensures)
    (parts_further c.args.schema.now c.args.self.now c.requires.schema c.requires.fits c.args.unit c.loop-whole.found c.loop-whole.place c.in-Some.whole at c.loop-whole.invariant)

pub returns : goal.returns
returns c =
    let none : slice_get c.loop-whole.found c.loop-whole.place ≡ None = sym c.get.ensures ∙ c.in_default.is in
    parts_done c.args.schema.now c.args.self.now c.args.unit c.loop-whole.found c.loop-whole.place none c.loop-whole.invariant c.rising.result.items c.rising.ensures.rises c.rising.ensures.same
