use Rattle.std.proofs.Common.{◌≡◌, ◌++◌, map, drop}
use Rattle.std.specs.List.{flat_map}
use Rattle.serde_json.specs.View.{view}
use Rattle.bb_board_document.specs.Document.{links_by}
use Rattle.bb_board_document.proofs.link.links.Given as goal

abbrev pub invariant-loop-slot : goal.invariant-loop-slot
invariant-loop-slot l = map view l.list.items ++ flat_map (links_by l.listing) (drop l.slot-index l.slot-items) ≡ flat_map (links_by l.listing) l.slot-items
