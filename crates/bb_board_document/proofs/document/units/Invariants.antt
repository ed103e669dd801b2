use Rattle.std.proofs.Common.{◌≡◌, ◌++◌, map, drop}
use Rattle.serde_json.specs.View.{view}
use Rattle.bb_board_document.specs.Document.{unit_data}
use Rattle.bb_board_document.proofs.document.units.Given as goal

abbrev pub invariant-loop-unit : goal.invariant-loop-unit
invariant-loop-unit l = map view l.list.items ++ map (unit_data l.listing) (drop l.unit-index l.unit-items) ≡ map (unit_data l.listing) l.unit-items
