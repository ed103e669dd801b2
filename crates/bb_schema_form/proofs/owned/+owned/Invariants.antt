use Rattle.std.proofs.Common.{◌≡◌, take, drop, map}
use Rattle.json.specs.Value as borrowed
use Rattle.serde_json.specs.Data.{no_members}
use Rattle.serde_json.specs.Read.{of_members}
use Rattle.serde_json.specs.View.{members_view}
use Rattle.bb_schema_form.specs.Quick.{read_of, seen}
use Rattle.bb_schema_form.proofs.owned.+owned.Given as goal

abbrev pub invariant-owned_items-loop-value : goal.invariant-owned_items-loop-value
invariant-owned_items-loop-value l = map seen l.made.items ≡ map read_of (take l.value-index l.value-items)

abbrev pub invariant-owned_members-loop-member : goal.invariant-owned_members-loop-member
invariant-owned_members-loop-member l =
    of_members (borrowed.members_view (drop l.member-index l.member-items)) (members_view l.made.entries)
    ≡ of_members (borrowed.members_view l.member-items) no_members
