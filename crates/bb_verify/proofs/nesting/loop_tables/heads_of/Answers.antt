use Rattle.std.proofs.Common.{length, subst}
use Rattle.std.proofs.lemmas.Result.{IfOk-weaker}
use Rattle.bb_verify.specs.nesting.proving.LoopTables.{HasDeepest}
use Rattle.bb_verify.proofs.nesting_lemmas.LoopTableLemmas.{heads_from}
use Rattle.bb_verify.proofs.nesting.loop_tables.heads_of.Goals as goal

pub returns : goal.returns
returns c =
    IfOk-weaker c.deepest_of.result _ _
    (λ v tops. heads_from c.args.count c.args.loops.now c.in_ok-reach.reach.items v.items c.in_ok-reach.ensures (subst (λ r. HasDeepest (length r) r v.items) c.deref.ensures.value tops))
    c.deepest_of.ensures
