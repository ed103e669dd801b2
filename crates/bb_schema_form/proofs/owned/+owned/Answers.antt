use Rattle.std.proofs.Common.{◌≡◌, string_bytes, string_cmp, rules}
use Rattle.std.specs.BTreeMap.{insert_entry}
use Rattle.bb_schema_form.proofs.QuickLemmas.{array_made, member_made}
use Rattle.bb_schema_form.proofs.owned.+owned.Goals as goal

pub owned-returns-in_ok-owned_items-in-Array : goal.owned-returns-in_ok-owned_items-in-Array
owned-returns-in_ok-owned_items-in-Array t c =
    rw c.in-Array.is (array_made c.in-Array.values c.in_ok-owned_items-in-Array.field-0 c.in_ok-owned_items-in-Array.ensures)

pub owned_members-loop-member-preserved : goal.owned_members-loop-member-preserved
owned_members-loop-member-preserved t c =
    let l = c.loop-member in
    let inserted : c.insert.new.self.entries ≡ insert_entry string_cmp l.made.entries c.in_ok-key.key c.in_ok-value.value = search rules in
    let named : string_bytes c.in_ok-key.key ≡ c.member-item.result.0.now = search rules in
    rw inserted (member_made c.deref-member-items.result.now l.made.entries l.member-index c.member-item.result c.in_ok-key.key c.in_ok-value.value _ c.loop-member-test.true c.member-item.is named c.in_ok-value.ensures l.invariant)
