use Rattle.std.proofs.Common.{take}
use Rattle.bb_space.proofs.LeavingLemmas.{AreCleared}
use Rattle.bb_space.proofs.spaces.leave_each.Given as goal

abbrev pub invariant-loop-space : goal.invariant-loop-space
invariant-loop-space l = AreCleared l.unit (take l.space-index l.list) l.fn.spaces.items l.spaces.items
