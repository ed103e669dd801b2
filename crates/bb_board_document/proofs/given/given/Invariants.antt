use Rattle.std.proofs.Common.{◌≡◌, drop}
use Rattle.std.specs.List.{fold}
use Rattle.serde_json.specs.Data.{no_members}
use Rattle.serde_json.specs.View.{members_view}
use Rattle.bb_board_document.specs.Document.{with_given}
use Rattle.bb_board_document.proofs.given.given.Given as goal

abbrev pub invariant-loop-slot : goal.invariant-loop-slot
invariant-loop-slot l = fold (with_given l.seen l.unit) (members_view l.members.entries) (drop l.slot-index l.slot-items) ≡ fold (with_given l.seen l.unit) no_members l.slot-items
