use Rattle.std.proofs.Common.{◌≡◌, ◌∙◌, ap, subst}
use Rattle.std.proofs.lemmas.Result.{on_ok_weaker}
use Rattle.bb_rules.specs.KindIndex.{put_if}
use Rattle.bb_rules.specs.Parts.{Source}
use Rattle.bb_run_plan.specs.Concerned.{any_of_kind, is_concerned, reaction_of_kind}
use Rattle.bb_run_plan.specs.proving.Concerned.{places_for}
use Rattle.bb_run_plan.proofs.ConcernedLemmas.{put_thrice}
use Rattle.bb_run_plan.proofs.concerned.Concerned.add_source.Goals as goal

pub returns : goal.returns
returns c =
    on_ok_weaker c.add_reaction-2.result (λ added event.
    let old = places_for c.args.self.now event in
    let parts = c.parts-parts.result.now in
    let triggers = c.in_ok-add_clauses.ensures event ∙ ap (λ cs. put_if (any_of_kind event cs) old c.args.place) c.as_slice.ensures in
    subst (λ (source : Source). places_for c.add_reaction-2.new.self event ≡ put_if (is_concerned event source) old c.args.place) c.parts-parts.ensures
    (put_thrice old c.args.place (any_of_kind event parts.triggers) (reaction_of_kind event parts.obviate) (reaction_of_kind event parts.retrigger)
    (places_for c.add_clauses.new.self event) (places_for c.add_reaction.new.self event) (places_for c.add_reaction-2.new.self event) triggers (c.in_ok-add_reaction.ensures event) (added event)))
    c.add_reaction-2.ensures
