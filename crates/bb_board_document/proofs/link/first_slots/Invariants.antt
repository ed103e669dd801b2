use Rattle.std.proofs.Common.{◌≡◌, ◌++◌, drop}
use Rattle.bb_schema.specs.Couples.{firsts}
use Rattle.bb_board_document.proofs.link.first_slots.Given as goal

abbrev pub invariant-loop-slot : goal.invariant-loop-slot
invariant-loop-slot l = l.slots.items ++ firsts l.slot (drop l.slot l.schema.slots) ≡ firsts 0 l.schema.slots
