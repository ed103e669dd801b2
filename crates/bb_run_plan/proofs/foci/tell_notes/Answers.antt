use Rattle.std.proofs.Common.{◌+◌, ◌∙◌, ap, drop, refl, sym}
use Rattle.std.specs.List.{fold}
use Rattle.std.proofs.lemmas.List.{drop_all}
use Rattle.bb_run_plan.specs.Foci.{told_note, with_foci}
use Rattle.bb_run_plan.proofs.FociLemmas.{fold_next, foci_again, foci_are}
use Rattle.bb_run_plan.proofs.foci.tell_notes.Goals as goal

pub loop-note-init : goal.loop-note-init
loop-note-init c = record { same = refl; left = refl }

pub loop-note-preserved : goal.loop-note-preserved
loop-note-preserved c =
    let f = told_note c.args.board.now.schema c.args.board.now.world.units in
    let foci = f c.loop-note.agenda.foci c.note-item.result in
    let emitted = c.in_ok-tell_note.ensures in
    record {
      same = foci_again c.args.agenda.now c.loop-note.agenda c.tell_note.new.agenda foci c.loop-note.invariant.same emitted;
      left =
          ap (λ x. fold f x (drop (c.loop-note.note-index + 1) c.args.notes.now)) (foci_are c.loop-note.agenda c.tell_note.new.agenda foci emitted)
          ∙ sym (fold_next f c.loop-note.agenda.foci c.args.notes.now c.loop-note.note-index c.note-item.result c.loop-note-test.true c.note-item.is)
          ∙ c.loop-note.invariant.left;
    }

pub returns : goal.returns
returns c =
    let f = told_note c.args.board.now.schema c.args.board.now.world.units in
    let none = drop_all c.loop-note.note-index c.args.notes.now c.loop-note-test.false in
    c.loop-note.invariant.same ∙ ap (with_foci c.args.agenda.now) (sym (ap (fold f c.loop-note.agenda.foci) none) ∙ c.loop-note.invariant.left)
