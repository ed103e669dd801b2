use Rattle.std.proofs.Common.{◌∙◌, ap, List, map}
use Rattle.bb_schema.specs.declared.space.Dim.{Dim}
use Rattle.bb_schema.specs.proving.Readings.{first_named}
use Rattle.bb_schema.proofs.RelationLemmas.{made_more, made_all}
use Rattle.bb_schema.proofs.readings.dim_firsts.Goals as goal

pub loop-space-preserved : goal.loop-space-preserved
loop-space-preserved c =
    made_more (λ p. map (λ d. first_named c.args.bare.now.slots d.name) p.dims) c.args.spaces.now c.loop-space.dims.items c.push.new.self.items c.loop-space.space-index c.space-item.result _ c.loop-space-test.true c.space-item.is
    c.in_ok-push.ensures.items (c.from.ensures ∙ (c.in_ok-firsts.ensures
    ∙ ap (λ (ds : List Dim). map (λ d. first_named c.args.bare.now.slots d.name) ds) c.as_slice.ensures)) c.loop-space.invariant

pub returns : goal.returns
returns c = made_all (λ p. map (λ d. first_named c.args.bare.now.slots d.name) p.dims) c.args.spaces.now c.loop-space.dims.items c.loop-space.space-index c.loop-space-test.false c.loop-space.invariant
