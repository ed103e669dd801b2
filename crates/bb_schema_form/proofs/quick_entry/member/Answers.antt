use Rattle.std.proofs.Common.{string_bytes}
use Rattle.bb_schema_form.proofs.EntryLemmas.{two_items, member_made}
use Rattle.bb_schema_form.proofs.quick_entry.member.Goals as goal

pub returns : goal.returns
returns c =
    let a = c.unit-item.result in
    let b = c.space-item.result in
    rw (two_items c.args.names.now a b c.in-len2.len_at_least c.in-len2.len_below c.unit-item.is c.space-item.is)
    (member_made a b (string_bytes c.in_ok-unit.unit) (string_bytes c.in_ok-space.space) c.in_ok-unit.ensures c.in_ok-space.ensures)
