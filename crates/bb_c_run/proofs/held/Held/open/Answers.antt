use Rattle.std.proofs.Common.{◌≡◌, ℕ, ℤ, List, rules, w64, Some, subst}
use Rattle.std.proofs.lemmas.Int.{to_z-of_z}
use Rattle.std.specs.Str.Lines.{lines}
use Rattle.bb_shell.specs.Meaning.{Meaning}
use Rattle.bb_c_run.specs.Opening.{meaning_of}
use Rattle.bb_c_run.proofs.OpenLemmas.{begun_of}
use Rattle.bb_c_run.proofs.held.Held.open.Goals as goal

pub returns-in-Ok-shell_of-clause-begun : goal.returns-in-Ok-shell_of-clause-begun
returns-in-Ok-shell_of-clause-begun c =
    let m : Meaning = record { plan = c.in-Ok-shell_of.shell.plan; board = c.in-Ok-shell_of.shell.board } in
    let by_names : meaning_of c.args.input.now c.in-Ok.outside.items c.args.floor ≡ Some m =
    subst (λ (z : ℤ). meaning_of c.args.input.now c.in-Ok.outside.items z ≡ Some m) (to_z-of_z w64 c.args.floor (search rules)) c.in-Ok-shell_of.ensures.means in
    begun_of c.args.input.now (lines c.args.natives.now) c.args.floor m c.begun.result
    (subst (λ (names : List (List ℕ)). meaning_of c.args.input.now names c.args.floor ≡ Some m) c.in-Ok.ensures by_names) c.begun.ensures.begun
