use Rattle.std.proofs.Common.{◌≡◌, length, take}
use Rattle.bb_verify_effect.proofs.locals.Locals.of.Given as goal

abbrev pub invariant-loop-i : goal.invariant-loop-i
invariant-loop-i l = (take l.i l.kinds ≡ take l.i l.declared) × (length l.kinds ≡ 32)
