use Rattle.std.proofs.Common.{string_bytes}
use Rattle.bb_schema_form.proofs.EntryLemmas.{three_items, link_made}
use Rattle.bb_schema_form.proofs.quick_entry.link.Goals as goal

pub returns : goal.returns
returns c =
    let a = c.from-item.result in
    let b = c.slot-item.result in
    let d = c.to-item.result in
    rw (three_items c.args.names.now a b d c.in-len3.len_at_least c.in-len3.len_below c.from-item.is c.slot-item.is c.to-item.is)
    (link_made a b d (string_bytes c.in_ok-from.from) (string_bytes c.in_ok-slot.slot) (string_bytes c.in_ok-to.to) c.in_ok-from.ensures c.in_ok-slot.ensures c.in_ok-to.ensures)
