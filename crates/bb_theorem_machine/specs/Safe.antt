-- Safe steps: after them, the state suits the frame that the verifier gives for its place.
use Rattle.std.specs.Prelude.{◌≡◌, ◌⊎◌, ℕ, Bool, true, false, Option, Some, None, Result, Ok, Err}
use Rattle.bb_board.specs.Fits.{Fits}
use Rattle.bb_schema.specs.Schema.{Schema}
use Rattle.bb_code.specs.declared.op.Op.{Op}
use Rattle.bb_code.specs.declared.op.Op.TheVariants as ops
use Rattle.bb_verify.specs.FrameType.{Frame}
use Rattle.bb_verify.specs.nesting.Jumps.{target_of}
use Rattle.bb_machine.specs.declared.outcome.Answer.{Answer}
use Rattle.bb_machine.specs.declared.outcome.Answer.TheVariants.{Done, Rated, Declined, Yes, No}
use Rattle.bb_machine.specs.declared.halt.Halt.{Halt}
use Rattle.bb_machine.specs.declared.halt.Halt.TheVariants.{Answered, Full, Stuck, Memory}
use Rattle.bb_machine.specs.Changing.{State}
pub use Rattle.bb_verify.specs.Facts.{edges_of}
use Rattle.bb_theorem_machine.specs.Kinds.{Suits}

-- the edge exists, and a state suits its frame
abbrev pub SuitsEdge : Option Frame → State → Type 0
SuitsEdge None state = ⊥
SuitsEdge (Some f) state = Suits state.1.schema state.1.world state.0 f

-- a state is at the next place or at the target of the op, and suits the frame of the edge to it
abbrev pub IsAtEdge : (next : ℕ) → Op → Option Frame × Option Frame → State → Type 0
IsAtEdge next op edges state =
    ((state.0.place ≡ next) × SuitsEdge edges.0 state)
    ⊎ ((target_of op ≡ Some (state.0.place)) × SuitsEdge edges.1 state)

-- the blackboard still has the schema and fits it, and the state suits an edge of the op
pub record Leads (s : Schema) (next : ℕ) (op : Op) (edges : Option Frame × Option Frame) (state : State) : Type 0 where
  pub schema : state.1.schema ≡ s
  pub fits : Fits s state.1.world
  pub edge : IsAtEdge next op edges state

-- the op can end an execution with the answer
abbrev pub can_answer : Op → Answer → Bool
can_answer ops.Done Done = true
can_answer ops.Rate (Rated n) = true
can_answer ops.Decline Declined = true
can_answer ops.Answer Yes = true
can_answer ops.Answer No = true
can_answer _ _ = false

-- an op leads to a next state, ends with an answer that it can give, or finds that no more units can be created
abbrev pub IsSafe : Schema → (next : ℕ) → Op → Option Frame × Option Frame → Result State Halt → Type 0
IsSafe s next op edges (Ok state) = Leads s next op edges state
IsSafe s next op edges (Err (Answered a)) = can_answer op a ≡ true
IsSafe s next op edges (Err Full) = Unit {0}
IsSafe s next op edges (Err (Stuck reason)) = ⊥
IsSafe s next op edges (Err Memory) = ⊥
