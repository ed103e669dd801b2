use Rattle.std.proofs.Common.{◌≡◌, drop}
use Rattle.bb_code.specs.Each.{each}
use Rattle.bb_verify.specs.Tables.{known_kind}
use Rattle.bb_verify.proofs.tables.known_kinds.Given as goal

abbrev pub invariant-loop-kind : goal.invariant-loop-kind
invariant-loop-kind l = each (known_kind l.schema) (drop l.kind-index l.kinds) ≡ each (known_kind l.schema) l.kinds
