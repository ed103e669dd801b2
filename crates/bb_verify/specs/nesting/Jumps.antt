-- Where ops may jump (of this project).
use Rattle.std.specs.Prelude.{ℕ, nat_lt, length, slice_get, Option, Some, None, Result, Ok, Err, if◌then◌else◌}
use Rattle.bb_basis.specs.Results.{◌>>=◌, map_err}
use Rattle.bb_code.specs.Code.{Code, places}
use Rattle.bb_code.specs.declared.op.Op.{Op}
use Rattle.bb_code.specs.declared.op.Op.TheVariants as ops
use Rattle.bb_code.specs.declared.flaw.Flaw.{Flaw}
use Rattle.bb_code.specs.declared.flaw.Flaw.TheVariants.{Jump}
use Rattle.bb_code.specs.declared.flaw.VerifyFault.{VerifyFault}
use Rattle.bb_code.specs.Each.{each}
use Rattle.bb_code.specs.Flaws.{fault_at}

-- the target of an op, if it has one besides the next op
abbrev pub target_of : Op → Option ℕ
target_of (ops.One slot target) = Some target
target_of (ops.Alive target) = Some target
target_of (ops.As class target) = Some target
target_of (ops.Jump target) = Some target
target_of (ops.Unless target) = Some target
target_of (ops.Next l target) = Some target
target_of (ops.Back target) = Some target
target_of op = None

-- the first place is before the second
abbrev pub before : (place other : ℕ) → Result (Unit {0}) Flaw
before place other = if nat_lt place other then Ok tt else Err Jump

-- a target is ahead of the op, inside a code of `count` ops
unfoldable pub ahead : (count place target : ℕ) → Result (Unit {0}) Flaw
ahead count place target = do
  _ ← before place target
  before target count

-- an op at a place may jump to its target
unfoldable pub check_target : (count place : ℕ) → Op → Result (Unit {0}) Flaw
check_target count place (ops.One slot target) = ahead count place target
check_target count place (ops.Alive target) = ahead count place target
check_target count place (ops.As class target) = ahead count place target
check_target count place (ops.Jump target) = ahead count place target
check_target count place (ops.Unless target) = ahead count place target
check_target count place (ops.Next l target) = before target count
check_target count place (ops.Back target) = before target place
check_target count place op = Ok tt

-- the op at a place, if there is one, may jump to its target
unfoldable pub jump_at : Code → ℕ → Result (Unit {0}) VerifyFault
jump_at code place =
    elim (slice_get code.ops place)
    [ None ↦ Ok tt | Some op ↦ map_err (fault_at place) (check_target (length code.ops) place op) ]

-- all jumps of a code
unfoldable pub jumps : Code → Result (Unit {0}) VerifyFault
jumps code = each (jump_at code) (places code)
