use Rattle.std.proofs.Common.{◌∙◌, Ok, Err, subst, sym}
use Rattle.bb_exec.specs.declared.stop.Stop.{Stop}
use Rattle.bb_exec.specs.declared.stop.Stop.TheVariants.{Full}
use Rattle.bb_rules.specs.Questions.{IsQuestion}
use Rattle.bb_run.specs.Asking.{attempt}
use Rattle.bb_run.specs.Emitting.{Attempts}
use Rattle.bb_run.proofs.emitting.ExecutionLemmas.{attempted_by, replied_full, replied_ok}
use Rattle.bb_run.proofs.keeping.ReadLemmas.{asked_kept}
use Rattle.bb_run.proofs.asking.ask.Goals as goal

pub returns-in-Ok-clause-replied : goal.returns-in-Ok-clause-replied
returns-in-Ok-clause-replied c =
    let e = attempt c.lowered.result.now.code c.args.entry c.args.board.now in
    rw (sym c.lowered.ensures) (replied_ok e c.in-Ok.outcome c.exec.new.board (attempted_by (Ok c.in-Ok.outcome) e c.exec.new.board c.in-Ok.ensures.outcome c.in-Ok.ensures.board))

pub returns-in-Ok-clause-kept : goal.returns-in-Ok-clause-kept
returns-in-Ok-clause-kept c =
    let e = attempt c.lowered.result.now.code c.args.entry c.args.board.now in
    (attempted_by (Ok c.in-Ok.outcome) e c.exec.new.board c.in-Ok.ensures.outcome c.in-Ok.ensures.board).1 ∙ asked_kept c.lowered.result.now c.args.entry c.args.board.now (subst IsQuestion (sym c.lowered.ensures) c.fits.ensures)

pub returns-in-Err-Full-clause-replied : goal.returns-in-Err-Full-clause-replied
returns-in-Err-Full-clause-replied c =
    let e = attempt c.lowered.result.now.code c.args.entry c.args.board.now in
    let came = attempted_by (Err c.in-Err-Full.field-0) e c.exec.new.board c.in-Err-Full.ensures.outcome c.in-Err-Full.ensures.board in
    rw (sym c.lowered.ensures) (replied_full e c.in-Err-Full.field-0-0 c.in-Err-Full.field-0-1 c.exec.new.board (subst (λ (r : Stop). Attempts e (Err r) c.exec.new.board) c.in-Err-Full.field-0-is came))

pub returns-in-Err-Full-clause-kept : goal.returns-in-Err-Full-clause-kept
returns-in-Err-Full-clause-kept c =
    let e = attempt c.lowered.result.now.code c.args.entry c.args.board.now in
    let came = attempted_by (Err c.in-Err-Full.field-0) e c.exec.new.board c.in-Err-Full.ensures.outcome c.in-Err-Full.ensures.board in
    let full : Attempts e (Err (Full c.in-Err-Full.field-0-0 c.in-Err-Full.field-0-1)) c.exec.new.board = subst (λ (r : Stop). Attempts e (Err r) c.exec.new.board) c.in-Err-Full.field-0-is came in
    full.1 ∙ asked_kept c.lowered.result.now c.args.entry c.args.board.now (subst IsQuestion (sym c.lowered.ensures) c.fits.ensures)
