use Rattle.std.proofs.Common.{ℕ, ℤ, rules, w64, List, map, Ok, Err, subst}
use Rattle.std.proofs.lemmas.Int.{to_z-of_z}
use Rattle.std.specs.Prelude.{All}
use Rattle.bb_basis.specs.Results.{Gives}
use Rattle.bb_run.specs.Plan.{Plan}
use Rattle.bb_rules.specs.declared.fault.RuleFault.TheVariants.{Memory}
use Rattle.bb_shell.specs.Fitting.{HasAct}
use Rattle.bb_shell.specs.Shell.{shell_of}
use Rattle.bb_shell.proofs.UnstuckLemmas.{names_told}
use Rattle.bb_shell.proofs.shell.Shell.new.Goals as goal

pub invariant_of-result-clause-of_schema : goal.invariant_of-result-clause-of_schema
invariant_of-result-clause-of_schema g c = c.in-Ok.ensures.of_schema

pub invariant_of-result-clause-made : goal.invariant_of-result-clause-made
invariant_of-result-clause-made g c = ∣ c.in-Ok.ensures.made ∣₁

pub invariant_of-result-clause-acted : goal.invariant_of-result-clause-acted
invariant_of-result-clause-acted g c =
    let names = names_told (map g.N.NativeSource.meaning c.args.roster.natives.items) c.handed_in.result.now c.handed_in.ensures in
    subst (λ (ns : List (List ℕ)). All (HasAct ns) c.in-Ok.plan.sources) names c.in-Ok.ensures.acts

pub returns-in-Ok-clause-shell : goal.returns-in-Ok-clause-shell
returns-in-Ok-clause-shell g c =
    let names = names_told (map g.N.NativeSource.meaning c.args.roster.natives.items) c.handed_in.result.now c.handed_in.ensures in
    let gives = λ (ns : List (List ℕ)) (floor : ℤ). Gives Memory (λ (p : Plan). record { plan = p; board = c.args.board }) (Ok c.in-Ok.plan) (shell_of ns c.args.board c.args.sources.items floor) in
    subst (λ (ns : List (List ℕ)). gives ns c.args.floor) names (subst (gives _) (to_z-of_z w64 c.args.floor (search rules)) c.in-Ok.ensures.shell)

pub returns-in-Err-clause-shell : goal.returns-in-Err-clause-shell
returns-in-Err-clause-shell g c =
    let names = names_told (map g.N.NativeSource.meaning c.args.roster.natives.items) c.handed_in.result.now c.handed_in.ensures in
    let gives = λ (ns : List (List ℕ)) (floor : ℤ). Gives Memory (λ (p : Plan). record { plan = p; board = c.args.board }) (Err c.in-Err.fault) (shell_of ns c.args.board c.args.sources.items floor) in
    subst (λ (ns : List (List ℕ)). gives ns c.args.floor) names (subst (gives _) (to_z-of_z w64 c.args.floor (search rules)) c.in-Err.ensures.shell)
