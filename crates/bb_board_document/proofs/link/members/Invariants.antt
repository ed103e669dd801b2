use Rattle.std.proofs.Common.{◌≡◌, ◌++◌, map, drop}
use Rattle.std.specs.List.{flat_map}
use Rattle.serde_json.specs.View.{view}
use Rattle.bb_board_document.specs.Document.{members_of}
use Rattle.bb_board_document.proofs.link.members.Given as goal

abbrev pub invariant-loop-unit : goal.invariant-loop-unit
invariant-loop-unit l = map view l.list.items ++ flat_map (members_of l.listing) (drop l.unit-index l.unit-items) ≡ flat_map (members_of l.listing) l.unit-items
