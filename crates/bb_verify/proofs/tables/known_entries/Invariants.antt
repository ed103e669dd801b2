use Rattle.std.proofs.Common.{◌≡◌, drop}
use Rattle.bb_code.specs.Each.{each}
use Rattle.bb_verify.specs.Tables.{known_entry}
use Rattle.bb_verify.proofs.tables.known_entries.Given as goal

abbrev pub invariant-loop-kind : goal.invariant-loop-kind
invariant-loop-kind l = each (known_entry l.schema) (drop l.kind-index l.kinds) ≡ each (known_entry l.schema) l.kinds
