use Rattle.std.proofs.Common.{◌≡◌, ℕ, ℤ, Err, List, None, Option, Some, ap, rules, subst, w64}
use Rattle.std.proofs.lemmas.Int.{to_z-of_z}
use Rattle.std.specs.Str.Lines.{lines}
use Rattle.bb_shell.specs.Meaning.{Meaning}
use Rattle.bb_c_run.specs.Opening.{meaning_of}
use Rattle.bb_c_run.specs.declared.held.OpenFault.TheVariants.{Refused}
use Rattle.bb_c_run.proofs.HistoryLemmas.{past_refused, past_taken}
use Rattle.bb_c_run.proofs.held.Held.resume.Goals as goal

pub returns-in-Ok-shell_of : goal.returns-in-Ok-shell_of
returns-in-Ok-shell_of c =
    let input = c.args.input.now in let names = lines c.args.natives.now in let floor = c.args.floor in
    let m : Meaning = record { plan = c.in-Ok-shell_of.shell.plan; board = c.in-Ok-shell_of.shell.board } in
    let by_floor : meaning_of input c.in-Ok.outside.items floor ≡ Some m = subst (λ (z : ℤ). meaning_of input c.in-Ok.outside.items z ≡ Some m) (to_z-of_z w64 floor (search rules)) c.in-Ok-shell_of.ensures.means in
    let is : meaning_of input names floor ≡ Some m = subst (λ (ns : List (List ℕ)). meaning_of input ns floor ≡ Some m) c.in-Ok.ensures by_floor in
    past_taken (meaning_of input names floor) m c.args.history.now c.resumed.result is c.resumed.ensures

pub returns-in-Err : goal.returns-in-Err
returns-in-Err c =
    let input = c.args.input.now in let names = lines c.args.natives.now in let floor = c.args.floor in let fault = c.in-Err.fault in
    let none = λ (is : fault ≡ Refused). subst (λ (ns : List (List ℕ)). meaning_of input ns floor ≡ None) c.in-Ok.ensures
    (subst (λ (z : ℤ). meaning_of input c.in-Ok.outside.items z ≡ None) (to_z-of_z w64 floor (search rules)) (c.in-Err.ensures.refused (ap Err is))) in
    rw (c.unopened.ensures) (past_refused (meaning_of input names floor) c.args.history.now fault none)
