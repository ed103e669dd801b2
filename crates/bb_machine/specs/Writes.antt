-- Which codes only read the blackboard (of this project).
use Rattle.std.specs.Prelude.{Bool, true, false, not}
use Rattle.std.specs.List.{list_all}
use Rattle.bb_code.specs.Code.{Code}
use Rattle.bb_code.specs.declared.op.Op.{Op}
use Rattle.bb_code.specs.declared.op.Op.TheVariants as ops

-- the op changes the blackboard, or says something there
abbrev pub is_write : Op → Bool
is_write (ops.New class) = true
is_write (ops.Set slot) = true
is_write (ops.Relink change slot) = true
is_write (ops.Enter space) = true
is_write (ops.Leave space) = true
is_write ops.Delete = true
is_write (ops.Say count) = true
is_write op = false

-- a code has no op that writes
unfoldable pub has_no_writes : Code → Bool
has_no_writes code = list_all (λ op. not (is_write op)) code.ops
