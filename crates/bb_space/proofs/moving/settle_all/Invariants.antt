use Rattle.std.proofs.Common.{◌≡◌, drop}
use Rattle.bb_space.specs.proving.Indexed.{seen, AreLoose}
use Rattle.bb_space.proofs.moving.settle_all.Given as goal

abbrev pub invariant-loop-space : goal.invariant-loop-space
invariant-loop-space l = (seen l.spaces.items ≡ seen l.fn.spaces.items) × AreLoose l.unit (drop l.space-index l.moves) l.spaces.items
