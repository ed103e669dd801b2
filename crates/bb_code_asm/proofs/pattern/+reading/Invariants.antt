use Rattle.std.proofs.Common.{◌+◌, ◌*◌}
use Rattle.bb_code_asm.proofs.pattern.+reading.Given as goal

abbrev pub decreases-read_pattern : goal.decreases-read_pattern
decreases-read_pattern l = 2 * l.depth

abbrev pub decreases-read_part : goal.decreases-read_part
decreases-read_part l = 2 * l.depth + 1

abbrev pub decreases-read_parts : goal.decreases-read_parts
decreases-read_parts l = 2 * l.depth + 1
