use Rattle.std.proofs.Common.{◌≡◌, ◌++◌, map, drop}
use Rattle.serde_json.specs.View.{view}
use Rattle.bb_board_document.specs.Document.{member_data}
use Rattle.bb_board_document.proofs.link.add_members.Given as goal

abbrev pub invariant-loop-space : goal.invariant-loop-space
invariant-loop-space l =
    map view l.list.items ++ map (member_data l.listing l.unit) (drop l.space-index l.space-items) ≡ map view l.fn.list.items ++ map (member_data l.listing l.unit) l.space-items
