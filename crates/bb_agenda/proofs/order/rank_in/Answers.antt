use Rattle.std.proofs.Common.{◌∙◌, ◌&&◌, ◌==◌, true, ap, cond, length, refl}
use Rattle.std.proofs.lemmas.Option.{slice_get_read}
use Rattle.bb_agenda.specs.proving.Ranks.{same_rank}
use Rattle.bb_agenda.proofs.OrderLemmas.{changed_more}
use Rattle.bb_agenda.proofs.order.rank_in.Goals as goal

pub returns-clause-ok : goal.returns-clause-ok
returns-clause-ok c = λ s r.
    changed_more c.reach.new.orders.items c.args.source c.args.rank c.index_mut.result.now c.insert.new.self (slice_get_read c.reach.new.orders.items (length c.reach.new.orders.items) c.args.source c.index_mut.result.now refl c.in_ok-reach.ensures.ok c.index_mut.ensures.value) c.in_ok-insert.ensures.updates s r
    ∙ ap (cond (c.args.source == s && same_rank c.args.rank r) true) (c.reach.ensures.same s r)
