use Rattle.std.proofs.Common.{◌≡◌, drop}
use Rattle.std.specs.Cmp.Lexicographic.{pointwise}
use Rattle.bb_verify_effect.specs.Kinds.{weakens}
use Rattle.bb_verify_effect.proofs.kind.all_weaken.Given as goal

abbrev pub invariant-loop-i : goal.invariant-loop-i
invariant-loop-i l = pointwise (weakens l.schema) (drop l.i l.kinds) (drop l.i l.declared) ≡ pointwise (weakens l.schema) l.kinds l.declared
