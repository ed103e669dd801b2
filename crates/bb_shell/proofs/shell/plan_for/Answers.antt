use Rattle.std.proofs.Common.{subst, sym, ◌∙◌, ap}
use Rattle.std.specs.Prelude.{All}
use Rattle.bb_schema.specs.Schema.{Schema}
use Rattle.bb_rules.specs.Law.{IsMade}
use Rattle.bb_run.specs.Plan.{Plan}
use Rattle.bb_shell.specs.Fitting.{HasAct, names_in}
use Rattle.bb_shell.proofs.FitLemmas.{fitted_keeps}
use Rattle.bb_shell.proofs.UnstuckLemmas.{fitted_acts}
use Rattle.bb_shell.proofs.shell.plan_for.Goals as goal

pub returns-in-Ok-clause-of_schema : goal.returns-in-Ok-clause-of_schema
returns-in-Ok-clause-of_schema c = sym c.in_ok-schema.ensures ∙ sym (ap (λ (p : Plan). p.schema) c.in_ok-plan-in-Ok.ensures)

pub returns-in-Ok-clause-made : goal.returns-in-Ok-clause-made
returns-in-Ok-clause-made c =
    let natives = names_in c.args.natives.now in
    let s = c.args.board.now.schema in
    let made : All (IsMade s) c.into_sources.result.items = subst (All (IsMade s)) (sym c.into_sources.ensures.sources) (fitted_keeps natives (IsMade s) c.args.sources.items c.in-Ok.source_set c.requires.made c.in-Ok.ensures) in
    rw c.in_ok-plan-in-Ok.ensures (subst (λ (x : Schema). All (IsMade x) c.into_sources.result.items) (sym c.in_ok-schema.ensures) made)

pub returns-in-Ok-clause-acts : goal.returns-in-Ok-clause-acts
returns-in-Ok-clause-acts c =
    let natives = names_in c.args.natives.now in
    let acts : All (HasAct natives) c.into_sources.result.items = subst (All (HasAct natives)) (sym c.into_sources.ensures.sources) (fitted_acts natives c.args.sources.items c.in-Ok.source_set c.in-Ok.ensures) in
    subst (λ (p : Plan). All (HasAct natives) p.sources) (sym c.in_ok-plan-in-Ok.ensures) acts
