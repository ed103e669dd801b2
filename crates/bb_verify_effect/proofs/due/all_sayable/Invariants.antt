use Rattle.std.proofs.Common.{◌≡◌, drop}
use Rattle.bb_code.specs.Each.{each}
use Rattle.bb_verify_effect.specs.Due.{sayable}
use Rattle.bb_verify_effect.proofs.due.all_sayable.Given as goal

abbrev pub invariant-loop-kind : goal.invariant-loop-kind
invariant-loop-kind l = each sayable (drop l.kind-index l.kinds) ≡ each sayable l.kinds
