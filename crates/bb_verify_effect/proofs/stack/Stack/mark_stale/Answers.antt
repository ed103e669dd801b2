use Rattle.std.proofs.Common.{ap, ◌∙◌, map, take, reverse}
use Rattle.std.proofs.lemmas.List.{take-map}
use Rattle.bb_verify_effect.specs.Kinds.{struck}
use Rattle.bb_verify_effect.proofs.StackLemmas.{reverse_map}
use Rattle.bb_verify_effect.proofs.stack.Stack.mark_stale.Goals as goal

pub returns : goal.returns
returns c =
    ap (λ ks. reverse (take c.self.inside.len ks)) c.mark_stale.ensures
    ∙ (ap reverse (take-map (struck c.args.schema.now c.args.deleted) c.self.inside.len c.self.inside.kinds)
    ∙ (reverse_map (struck c.args.schema.now c.args.deleted) (take c.self.inside.len c.self.inside.kinds) ∙ ap (map (struck c.args.schema.now c.args.deleted)) c.self.view_is))
