use Rattle.std.proofs.Common.{◌∙◌, ap, sym}
use Rattle.std.specs.List.{list_any}
use Rattle.bb_schema.specs.Schema.{descends}
use Rattle.bb_rules.specs.Match.{any_match}
use Rattle.bb_rules.specs.KindIndex.{ids_for}
use Rattle.bb_rules.proofs.IndexLemmas.{change_named}
use Rattle.bb_rules.proofs.clauses.Clauses.match_any.Goals as goal

pub returns-in-Change : goal.returns-in-Change
returns-in-Change c =
    let named = change_named c.args.schema.now c.in-Change.unit c.in-Change.class c.in-Change.change c.self.inside.list c.self.inside.index c.self.inside.quiescence c.self.invariant in
    c.descends_from_named.ensures
    ∙ (ap (λ k. list_any (λ d. descends c.args.schema.now c.in-Change.class d) (ids_for c.self.inside.index k)) c.kind.ensures
    ∙ (named
    ∙ (ap (any_match c.args.schema.now c.self.inside.list) (sym c.in-Change.is)
    ∙ ap (λ cs. any_match c.args.schema.now cs c.args.event) c.self.view_is)))
