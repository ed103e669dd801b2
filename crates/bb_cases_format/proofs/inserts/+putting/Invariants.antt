-- Each call of a cycle goes one level down, or to the next function of the same level.
use Rattle.std.proofs.Common.{◌+◌, ◌*◌}
use Rattle.bb_cases_format.proofs.inserts.+putting.Given as goal

abbrev pub decreases-put : goal.decreases-put
decreases-put l = 3 * l.depth + 1

abbrev pub decreases-put_insert : goal.decreases-put_insert
decreases-put_insert l = 3 * l.depth

abbrev pub decreases-put_times : goal.decreases-put_times
decreases-put_times l = 3 * l.depth + 2

abbrev pub decreases-put_code : goal.decreases-put_code
decreases-put_code l = 3 * l.depth + 2
