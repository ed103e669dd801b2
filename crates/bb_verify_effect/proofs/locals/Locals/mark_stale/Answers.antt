use Rattle.std.proofs.Common.{ap, ◌∙◌, map, take}
use Rattle.std.proofs.lemmas.List.{take-map}
use Rattle.bb_verify_effect.specs.Kinds.{struck}
use Rattle.bb_verify_effect.proofs.locals.Locals.mark_stale.Goals as goal

pub returns : goal.returns
returns c =
    ap (take c.self.inside.count) c.mark_stale.ensures
    ∙ (take-map (struck c.args.schema.now c.args.deleted) c.self.inside.count c.self.inside.kinds ∙ ap (map (struck c.args.schema.now c.args.deleted)) c.self.view_is)
