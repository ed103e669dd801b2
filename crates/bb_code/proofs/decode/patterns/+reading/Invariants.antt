use Rattle.std.proofs.Common.{◌≡◌, ◌-◌, ◌+◌, ◌*◌}
use Rattle.bb_code.specs.Fields.{repeated}
use Rattle.bb_code.specs.Patterns.{parts_at, pattern_at}
use Rattle.bb_code.proofs.Turns.{with_front}
use Rattle.bb_code.proofs.decode.patterns.+reading.Given as goal

abbrev pub decreases-read_node : goal.decreases-read_node
decreases-read_node l = 4 * l.depth + 2

abbrev pub decreases-read_parts : goal.decreases-read_parts
decreases-read_parts l = 4 * l.depth + 1

abbrev pub decreases-read_pattern : goal.decreases-read_pattern
decreases-read_pattern l = 4 * l.depth

abbrev pub decreases-read_tagged : goal.decreases-read_tagged
decreases-read_tagged l = 4 * l.depth + 3

-- what was read and what is still to be read are the whole
abbrev pub invariant-read_parts-loop : goal.invariant-read_parts-loop
invariant-read_parts-loop l =
    with_front l.parts.items (repeated (pattern_at l.depth) (l.count - l.counter) (l.left, l.rest)) ≡ parts_at (pattern_at l.depth) (l.room, l.bytes)
