use Rattle.std.proofs.Common.{◌≡◌, ◌++◌, map, drop}
use Rattle.serde_json.specs.View.{view}
use Rattle.bb_board_document.specs.Document.{link_data}
use Rattle.bb_board_document.proofs.link.add_links.Given as goal

abbrev pub invariant-loop-pair : goal.invariant-loop-pair
invariant-loop-pair l =
    map view l.list.items ++ map (link_data l.listing l.slot) (drop l.pair-index l.pair-items) ≡ map view l.fn.list.items ++ map (link_data l.listing l.slot) l.pair-items
