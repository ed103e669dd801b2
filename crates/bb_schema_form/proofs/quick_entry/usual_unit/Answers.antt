use Rattle.std.proofs.Common.{map, string_bytes}
use Rattle.bb_schema_form.specs.UnitsDocument.{given_declaration}
use Rattle.bb_schema_form.proofs.EntryLemmas.{two_items, three_items, plain_unit_made, unit_made}
use Rattle.bb_schema_form.proofs.quick_entry.usual_unit.Goals as goal

pub returns-in_ok-class-in-len2 : goal.returns-in_ok-class-in-len2
returns-in_ok-class-in-len2 c =
    let a = c.name-item.result in
    let b = c.class-item.result in
    rw (two_items c.args.members.now a b c.in-len2.len_at_least c.in-len2.len_below c.name-item.is c.class-item.is, c.new-slots.ensures.items)
    (plain_unit_made a b (string_bytes c.in_ok-name-in-len2.name) (string_bytes c.in_ok-class-in-len2.class) c.in_ok-name-in-len2.ensures c.in_ok-class-in-len2.ensures)

pub returns-in_ok-slots-in-len3 : goal.returns-in_ok-slots-in-len3
returns-in_ok-slots-in-len3 c =
    let a = c.name-item-then-members-lt4.result in
    let b = c.class-item-then-members-lt4.result in
    let d = c.slots-item.result in
    rw (three_items c.args.members.now a b d c.in-len3.len_at_least c.in-len3.len_below c.name-item-then-members-lt4.is c.class-item-then-members-lt4.is c.slots-item.is)
    (unit_made a b d (string_bytes c.in_ok-name-in-len3.name) (string_bytes c.in_ok-class-in-len3.class) (map given_declaration c.in_ok-slots-in-len3.slots.items) c.in_ok-name-in-len3.ensures c.in_ok-class-in-len3.ensures c.in_ok-slots-in-len3.ensures)
