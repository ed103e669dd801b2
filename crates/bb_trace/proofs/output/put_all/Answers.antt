use Rattle.std.proofs.Common.{◌∙◌}
use Rattle.std.proofs.lemmas.Bool.{eqb-true, false_from_ne_true}
use Rattle.bb_trace.proofs.OutLemmas.{sent_front, sent_more}
use Rattle.bb_trace.proofs.output.put_all.Goals as goal

pub loop-rest-preserved : goal.loop-rest-preserved
loop-rest-preserved g c = record {
  told = sent_more (g.O.Out.taken c.args.out.now) (g.O.Out.taken c.loop-rest.out) (g.O.Out.taken c.put-count.new.self) c.loop-rest.rest.now c.args.bytes.now c.put-count.result c.loop-rest.invariant.told c.put-count.ensures.taken;
  open_still = c.put-count.ensures.failed ∙ false_from_ne_true _ (λ e. c.if-count-eq0.false (eqb-true _ _ e));
}

-- what was sent before the failure, and of the last piece nothing
pub returns-then-count-eq0-clause-front : goal.returns-then-count-eq0-clause-front
returns-then-count-eq0-clause-front g c =
    sent_front (g.O.Out.taken c.args.out.now) (g.O.Out.taken c.put-count.new.self) _ c.args.bytes.now
    (sent_more (g.O.Out.taken c.args.out.now) (g.O.Out.taken c.loop-rest.out) (g.O.Out.taken c.put-count.new.self) c.loop-rest.rest.now c.args.bytes.now c.put-count.result c.loop-rest.invariant.told c.put-count.ensures.taken)
