-- The loops of a code (of this project).
use Rattle.std.specs.Prelude.{ℕ, zero, suc, ◌+◌, min, Bool, true, false, ◌==◌, ◌&&◌, nat_le, nat_lt, List, [], ◌∷◌, length, filter, slice_get}
use Rattle.std.specs.Prelude.{Option, Some, None, Result, Ok, Err, if◌then◌else◌}
use Rattle.std.specs.List.{list_any}
use Rattle.bb_basis.specs.Results.{◌>>=◌, map_err}
use Rattle.bb_code.specs.Code.{Code, places}
use Rattle.bb_code.specs.declared.frame.Loop.{Loop}
use Rattle.bb_code.specs.declared.op.Op.{Op}
use Rattle.bb_code.specs.declared.op.Op.TheVariants as ops
use Rattle.bb_code.specs.declared.flaw.Flaw.{Flaw}
use Rattle.bb_code.specs.declared.flaw.Flaw.TheVariants as flaws
use Rattle.bb_code.specs.declared.flaw.VerifyFault.{VerifyFault}
use Rattle.bb_verify.specs.declared.nesting.loops.TheConstants.{NESTING_LIMIT}
use Rattle.bb_code.specs.Each.{each}
use Rattle.bb_code.specs.Flaws.{fault_at}

-- the test must hold
abbrev pub check_order : Bool → Result (Unit {0}) Flaw
check_order true = Ok tt
check_order false = Err flaws.Loop

-- the test must not hold
abbrev pub never : Bool → Result (Unit {0}) Flaw
never true = Err flaws.Loop
never false = Ok tt

-- a loop holds a place: from its head to before its end
abbrev pub holds : ℕ → Loop → Bool
holds place l = nat_le l.head place && nat_lt place l.end

-- the number of loops that hold a place
abbrev pub depth : Code → ℕ → ℕ
depth code place = length (filter (holds place) code.loops)

-- ---- the list of loops

-- the head of the second loop is at the place, and the head of the first is not before it
abbrev pub is_misplaced : ℕ → (first second : Loop) → Bool
is_misplaced place first second = (second.head == place) && nat_le second.head first.head

-- no loop with its head at the place is listed directly after one whose head is not before it
unfoldable pub rising : ℕ → List Loop → Result (Unit {0}) Flaw
rising place (first ∷ second ∷ ls) =
    never (is_misplaced place first second) >>= λ _. rising place (second ∷ ls)
rising place _ = Ok tt

-- the op at the head is a Next with the end as its target
abbrev pub begins : Loop → Option Op → Bool
begins l (Some (ops.Next local target)) = target == l.end
begins l _ = false

-- the op before the end is a Back to the head
abbrev pub ends : Loop → Option Op → Bool
ends l (Some (ops.Back target)) = target == l.head
ends l _ = false

-- the op before a place
abbrev pub op_before : Code → ℕ → Option Op
op_before code zero = None
op_before code (suc place) = slice_get code.ops place

-- the local of a loop, if there is a Next at its head
abbrev pub local_in : Option Op → Option ℕ
local_in (Some (ops.Next local target)) = Some local
local_in _ = None

abbrev pub local_of : Code → Loop → Option ℕ
local_of code l = local_in (slice_get code.ops l.head)

-- two locals are present and equal
abbrev pub is_same_local : Option ℕ → Option ℕ → Bool
is_same_local (Some l) (Some other) = l == other
is_same_local _ _ = false

-- the first loop holds the head of the second, and has an earlier head
abbrev pub is_around : Loop → Loop → Bool
is_around outer l = nat_lt outer.head l.head && nat_lt l.head outer.end

-- if `outer` is around `l`, it ends no earlier and has another local
unfoldable pub nests : Code → Loop → Loop → Result (Unit {0}) Flaw
nests code l outer = do
  _ ← never (is_around outer l && nat_lt outer.end l.end)
  never (is_around outer l && is_same_local (local_of code outer) (local_of code l))

-- a loop has the right first and last op, and nests with all others
unfoldable pub loop_due : Code → Loop → Result (Unit {0}) Flaw
loop_due code l = do
  _ ← check_order (begins l (slice_get code.ops l.head))
  _ ← check_order (ends l (op_before code l.end))
  each (nests code l) code.loops

-- a loop, if it has its head at the place, has the right first and last op, and nests with all others
unfoldable pub head_due : Code → ℕ → Loop → Result (Unit {0}) Flaw
head_due code place l = if l.head == place then loop_due code l else Ok tt

-- ---- the op at a place

abbrev pub is_head : ℕ → Loop → Bool
is_head place l = l.head == place

abbrev pub is_end : ℕ → Loop → Bool
is_end place l = l.end == place

-- a loop, if it holds the target, holds the place
unfoldable pub enters_at_head : (place target : ℕ) → Loop → Result (Unit {0}) Flaw
enters_at_head place target l = if holds target l then check_order (holds place l) else Ok tt

-- a loop, if it holds the place, has another local
unfoldable pub keeps_local : Code → (place local : ℕ) → Loop → Result (Unit {0}) Flaw
keeps_local code place local l = never (holds place l && is_same_local (local_of code l) (Some local))

-- the restrictions of loops on an op at a place
unfoldable pub op_due : Code → ℕ → Op → Result (Unit {0}) Flaw
op_due code place (ops.Next local target) = check_order (list_any (is_head place) code.loops)
op_due code place (ops.Back target) = check_order (list_any (is_end (place + 1)) code.loops)
op_due code place (ops.Store local) = each (keeps_local code place local) code.loops
op_due code place (ops.Jump target) = each (enters_at_head place target) code.loops
op_due code place (ops.Unless target) = each (enters_at_head place target) code.loops
op_due code place (ops.One slot target) = each (enters_at_head place target) code.loops
op_due code place (ops.Alive target) = each (enters_at_head place target) code.loops
op_due code place (ops.As class target) = each (enters_at_head place target) code.loops
op_due code place op = Ok tt

-- ---- a place, and all of them

-- the loops with their heads at the place, the number of loops that hold the place, and the op there
unfoldable pub place_due : Code → ℕ → Option Op → Result (Unit {0}) Flaw
place_due code place None = Ok tt
place_due code place (Some op) = do
  _ ← rising place code.loops
  _ ← each (head_due code place) code.loops
  _ ← check_order (nat_le (depth code place) NESTING_LIMIT)
  op_due code place op

unfoldable pub loop_at : Code → ℕ → Result (Unit {0}) VerifyFault
loop_at code place = map_err (fault_at place) (place_due code place (slice_get code.ops place))

-- the smaller of two places, the first of which may be missing
abbrev pub lesser : Option ℕ → ℕ → ℕ
lesser None head = head
lesser (Some so_far) head = min so_far head

-- the lowest head outside a code of `count` ops, or `so_far` if it is lower
unfoldable pub lowest_outside : ℕ → Option ℕ → List Loop → Option ℕ
lowest_outside count so_far [] = so_far
lowest_outside count so_far (l ∷ ls) =
    lowest_outside count (if nat_lt l.head count then so_far else Some (lesser so_far l.head)) ls

-- no head is outside the code
abbrev pub none_outside : Option ℕ → Result (Unit {0}) VerifyFault
none_outside None = Ok tt
none_outside (Some head) = Err (fault_at head flaws.Loop)

-- all loops of a code; the fault is the first place at which they are not in order
unfoldable pub loops : Code → Result (Unit {0}) VerifyFault
loops code = do
  _ ← each (loop_at code) (places code)
  none_outside (lowest_outside (length code.ops) None code.loops)
