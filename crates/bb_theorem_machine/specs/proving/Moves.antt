-- Pops and pushes on a state that suits a frame.
use Rattle.std.specs.Prelude.{◌≡◌, ℕ, List, ◌∷◌, Result, Ok}
use Rattle.bb_schema.specs.Schema.{Schema}
use Rattle.bb_board.specs.State.{World}
use Rattle.bb_code.specs.declared.frame.Kind.{Kind}
use Rattle.bb_verify.specs.FrameType.{Frame}
use Rattle.bb_machine.specs.declared.halt.Halt.{Halt}
use Rattle.bb_machine.specs.declared.value.Value.{Value}
use Rattle.bb_machine.specs.declared.value.Value.TheVariants.{Unit as One}
use Rattle.bb_machine.specs.Machine.{Machine, with_stack}
use Rattle.bb_theorem_machine.specs.Kinds.{IsOf, HasKind, Suits}

-- the newest entry of the stack has the kind `left.0`, and the rest suits the frame `left.1`
pub record Pops (s : Schema) (w : World) (m : Machine) (left : Kind × Frame) : Type 0 where
  pub value : Value
  pub rest : List Value
  pub stack : m.stack ≡ value ∷ rest
  pub has : HasKind s w left.0 value
  pub suits : Suits s w (with_stack rest m) left.1

-- the new state is at the same place, and suits the frame
pub record Makes (s : Schema) (w : World) (m : Machine) (f : Frame) (made : Result Machine Halt) : Type 0 where
  pub next : Machine
  pub is : made ≡ Ok next
  pub place : next.place ≡ m.place
  pub suits : Suits s w next f

-- the newest entry of the stack is a live unit of class `left.0`, and the rest suits the frame `left.1`
pub record PopsLive (s : Schema) (w : World) (m : Machine) (left : ℕ × Frame) : Type 0 where
  pub n : ℕ
  pub rest : List Value
  pub stack : m.stack ≡ One n ∷ rest
  pub of : IsOf s w left.0 n
  pub suits : Suits s w (with_stack rest m) left.1

-- the two newest entries of the stack have the kinds `left.0`, and the rest suits the frame `left.1`
pub record PopsTwo (s : Schema) (w : World) (m : Machine) (left : (Kind × Kind) × Frame) : Type 0 where
  pub first : Value
  pub second : Value
  pub rest : List Value
  pub stack : m.stack ≡ second ∷ first ∷ rest
  pub has_first : HasKind s w left.0.0 first
  pub has_second : HasKind s w left.0.1 second
  pub suits : Suits s w (with_stack rest m) left.1
