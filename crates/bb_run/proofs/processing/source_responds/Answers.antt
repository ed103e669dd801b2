use Rattle.std.proofs.Common.{◌≡◌, ◌∙◌, ap, subst, sym, true}
use Rattle.bb_schema.specs.Schema.{Schema}
use Rattle.bb_rules.specs.Match.{any_match}
use Rattle.bb_run.specs.Processing.{obviated_by, reacting, rerated_by}
use Rattle.bb_run.specs.Seen.{seen}
use Rattle.bb_run.specs.Serving.{ServesAt}
use Rattle.bb_run.proofs.serving.ServeLemmas.{can_require, obviates_all, retriggers_all, serves_obviated, serves_retriggered}
use Rattle.bb_run.proofs.processing.source_responds.Goals as goal

pub obviate-requires : goal.obviate-requires
obviate-requires g c = record {
  begins = λ reaction is matched.
      obviates_all c.args.plan.now c.args.event (seen g.N.NativeSource.meaning c.args.state.now) c.requires.serves c.args.placed.place c.args.placed.source.now c.requires.there reaction is
      (subst (λ (s : Schema). any_match s reaction.clauses c.args.event ≡ true) c.schema-schema.ensures matched);
}

pub retrigger-requires : goal.retrigger-requires
retrigger-requires g c =
    let plan = c.args.plan.now in
    let event = c.args.event in
    let source = c.args.placed.source.now in
    let s = seen g.N.NativeSource.meaning c.args.state.now in
    let t = seen g.N.NativeSource.meaning c.obviate.new.state in
    let same = c.in_ok-end.ensures.state ∙ ap (λ (x : Schema). (reacting x event c.args.placed.place obviated_by source.obviate s).state) c.schema-schema.ensures in
    let serves = subst (ServesAt plan event) (sym same) (serves_obviated plan event s c.requires.serves c.args.placed.place source c.requires.there) in
    record {
      begins = λ reaction is matched.
          retriggers_all plan event t serves c.args.placed.place source c.requires.there reaction is
          (subst (λ (x : Schema). any_match x reaction.clauses event ≡ true) c.schema-schema.ensures matched);
    }

pub trigger-requires : goal.trigger-requires
trigger-requires g c =
    let plan = c.args.plan.now in
    let event = c.args.event in
    let source = c.args.placed.source.now in
    let s = seen g.N.NativeSource.meaning c.args.state.now in
    let t = seen g.N.NativeSource.meaning c.obviate.new.state in
    let u = seen g.N.NativeSource.meaning c.retrigger.new.state in
    let same = c.in_ok-end.ensures.state ∙ ap (λ (x : Schema). (reacting x event c.args.placed.place obviated_by source.obviate s).state) c.schema-schema.ensures in
    let serves = subst (ServesAt plan event) (sym same) (serves_obviated plan event s c.requires.serves c.args.placed.place source c.requires.there) in
    let next = c.in_ok-end-2.ensures.state ∙ ap (λ (x : Schema). (reacting x event c.args.placed.place rerated_by source.retrigger t).state) c.schema-schema.ensures in
    let still = subst (ServesAt plan event) (sym next) (serves_retriggered plan event t serves c.args.placed.place source c.requires.there) in
    record {
      begins = λ code is matched.
          can_require plan event u still c.args.placed.place source c.requires.there code is (subst (λ (x : Schema). any_match x source.triggers event ≡ true) c.schema-schema.ensures matched);
    }
