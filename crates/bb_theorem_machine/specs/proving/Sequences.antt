-- The number of units left in the sequences of a state, and how an op changes it.
use Rattle.std.specs.Prelude.{◌≡◌, ◌⊎◌, ◌≤◌, ◌<◌, ℕ, List, length, set, All, slice_get, Option, Some, None}
use Rattle.bb_units.specs.declared.units.TheConstants.{UNIT_LIMIT}
use Rattle.bb_code.specs.Code.{Code}
use Rattle.bb_code.specs.declared.frame.Loop.{Loop}
use Rattle.bb_code.specs.declared.op.Op.{Op}
use Rattle.bb_code.specs.declared.op.Op.TheVariants as ops
use Rattle.bb_verify.specs.nesting.Loops.{local_of}
use Rattle.bb_machine.specs.declared.value.Value.{Value}
use Rattle.bb_machine.specs.declared.value.Value.TheVariants.{Seq}
use Rattle.bb_machine.specs.Sequence.{Sequence}
use Rattle.bb_machine.specs.Machine.{Machine}
use Rattle.bb_machine.specs.Changing.{State}

-- a value is not a sequence, or has at most k units left
abbrev pub IsLow : ℕ → Value → Type 0
IsLow k (Seq q) = length q.rest ≤ k
IsLow k v = Unit {0}

-- the same for the value of a local
abbrev pub IsLowIn : ℕ → Option Value → Type 0
IsLowIn k None = Unit {0}
IsLowIn k (Some v) = IsLow k v

-- no sequence of a state has more units left than the longest sequence found so far
pub record AreLow (m : Machine) : Type 0 where
  pub locals : All (IsLowIn m.found) m.locals
  pub stack : All (IsLow m.found) m.stack

-- the number of units left in the sequence in a local, or 0 if it has none
abbrev pub elements : Option (Option Value) → ℕ
elements (Some (Some (Seq q))) = length q.rest
elements _ = 0

abbrev pub left_in : List (Option Value) → Option ℕ → ℕ
left_in locals None = 0
left_in locals (Some l) = elements (slice_get locals l)

-- the number of units left for a loop
abbrev pub left_of : Code → Machine → Loop → ℕ
left_of code m l = left_in m.locals (local_of code l)

-- the locals are unchanged, and the stack got no sequence except one just found, with at most as many units as there
-- can be
pub record Keeps (m next : Machine) : Type 0 where
  pub locals : next.locals ≡ m.locals
  pub found : m.found ≤ next.found
  pub few : m.found ≤ UNIT_LIMIT → next.found ≤ UNIT_LIMIT
  pub stack : All (IsLow m.found) m.stack → All (IsLow next.found) next.stack

-- a local was set to a value from the stack
pub record Stores (local : ℕ) (m next : Machine) : Type 0 where
  pub value : Value
  pub locals : next.locals ≡ set m.locals local (Some value)
  pub found : next.found ≡ m.found
  pub value_low : All (IsLow m.found) m.stack → IsLow m.found value
  pub stack : All (IsLow m.found) m.stack → All (IsLow m.found) next.stack

-- the sequence in a local lost at least one unit and the next op follows, or the op at `place` follows
pub record Takes (local place : ℕ) (m next : Machine) : Type 0 where
  pub before : Sequence
  pub later : Sequence
  pub held : slice_get m.locals local ≡ Some (Some (Seq before))
  pub locals : next.locals ≡ set (set m.locals local None) local (Some (Seq later))
  pub fewer : length later.rest ≤ length before.rest
  pub goes : ((next.place ≡ m.place) × (length later.rest < length before.rest)) ⊎ (next.place ≡ place)
  pub found : next.found ≡ m.found
  pub stack : All (IsLow m.found) m.stack → All (IsLow m.found) next.stack

-- how an op changes a state
abbrev pub Moved : Op → Machine → State → Type 0
Moved (ops.Store l) m next = Stores l m next.0
Moved (ops.Next l place) m next = Takes l place m next.0
Moved (ops.Back place) m next = Keeps m next.0 × (next.0.place ≡ place)
Moved op m next = Keeps m next.0
