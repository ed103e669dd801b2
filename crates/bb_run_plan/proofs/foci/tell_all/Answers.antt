use Rattle.std.proofs.Common.{◌≡◌, ◌∙◌, ap, refl, sym, arith}
use Rattle.std.specs.List.{fold, range_with_len}
use Rattle.bb_run_plan.specs.Foci.{told_unit, with_foci}
use Rattle.bb_run_plan.proofs.FociLemmas.{fold_range, foci_again, foci_are}
use Rattle.bb_run_plan.proofs.foci.tell_all.Goals as goal

pub loop-unit-init : goal.loop-unit-init
loop-unit-init c = record { same = refl; emitted = refl }

pub loop-unit-preserved : goal.loop-unit-preserved
loop-unit-preserved c =
    let f = told_unit c.args.board.now.schema c.args.board.now.world.units in
    let foci = f c.loop-unit.agenda.foci c.loop-unit.unit in
    let emitted = c.in_ok-tell_unit.ensures in
    record {
      same = foci_again c.args.agenda.now c.loop-unit.agenda c.tell_unit.new.agenda foci c.loop-unit.invariant.same emitted;
      emitted =
          foci_are c.loop-unit.agenda c.tell_unit.new.agenda foci emitted
          ∙ ap (λ x. f x c.loop-unit.unit) c.loop-unit.invariant.emitted
          ∙ sym (fold_range f c.args.agenda.now.foci c.loop-unit.unit);
    }

pub returns : goal.returns
returns c =
    let f = told_unit c.args.board.now.schema c.args.board.now.world.units in
    let all : c.loop-unit.unit ≡ c.args.board.now.world.units.next = omega arith in
    c.loop-unit.invariant.same ∙ ap (with_foci c.args.agenda.now) (c.loop-unit.invariant.emitted ∙ ap (λ n. fold f c.args.agenda.now.foci (range_with_len 0 n)) all)
