use Rattle.std.proofs.Common.{refl, length, arith}
use Rattle.std.proofs.lemmas.Option.{slice_get_read, slice_get_past}
use Rattle.bb_agenda.proofs.OrderLemmas.{changed_less, gone_less}
use Rattle.bb_agenda.proofs.order.rank_out.Goals as goal

pub returns-then-place-len : goal.returns-then-place-len
returns-then-place-len c =
    let orders = c.args.orders.now.items in
    changed_less orders c.args.source c.args.rank c.index_mut.result.now c.remove.new.self
    (slice_get_read orders (length orders) c.args.source c.index_mut.result.now refl (omega (arith, c.if-place-len.true, c.len.ensures)) c.index_mut.ensures.value) c.remove.ensures.updates

pub returns-else-place-len : goal.returns-else-place-len
returns-else-place-len c =
    gone_less c.args.orders.now.items c.args.source c.args.rank (slice_get_past c.args.orders.now.items c.args.source (omega (arith, c.if-place-len.false, c.len.ensures)))
