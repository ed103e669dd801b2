use Rattle.std.proofs.Common.{Err, Ok, rules, subst}
use Rattle.std.specs.Str.Lines.{lines}
use Rattle.bb_c_run.specs.History.{TakesUp, past_of}
use Rattle.bb_c.proofs.PastLemmas.{resumes, resumes_none}
use Rattle.bb_c.proofs.history.resume.Goals as goal

pub returns : goal.returns
returns c =
    let input = c.args.input.now in let names = lines c.args.natives.now in let history = c.args.history.now in
    let takes : TakesUp (past_of input names c.args.floor history) (Ok c.in-Ok.held) =
    subst (λ floor. TakesUp (past_of input names floor history) (Ok c.in-Ok.held)) (search rules) c.in-Ok.ensures in
    resumes (past_of input names c.args.floor history) c.args.run.now.sitting c.put-2.new.self.sitting c.in-Ok.held c.in-Ok-new.held.value c.args.line.now c.status_of-status.result
    takes (search rules) (search rules) (search rules) (search rules) (search rules)

pub returns-in-Err : goal.returns-in-Err
returns-in-Err c =
    let input = c.args.input.now in let names = lines c.args.natives.now in let history = c.args.history.now in
    let takes : TakesUp (past_of input names c.args.floor history) (Err c.in-Err.fault) =
    subst (λ floor. TakesUp (past_of input names floor history) (Err c.in-Err.fault)) (search rules) c.in-Err.ensures in
    resumes_none (past_of input names c.args.floor history) c.args.run.now.sitting c.take.new.self.sitting c.in-Err.fault c.line_of.result c.unresumed_by.result
    takes (search rules) (search rules) (search rules) (search rules)
