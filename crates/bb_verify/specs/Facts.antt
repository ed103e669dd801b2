-- What holds at every place of an accepted code (of this project).
use Rattle.std.specs.Prelude.{◌≡◌, ◌⊎◌, ◌≤◌, ℕ, ◌+◌, Bool, true, false, List, length, All, slice_get, Option, Some, None, Result, Ok}
use Rattle.bb_basis.specs.Results.{◌>>=◌}
use Rattle.bb_schema.specs.Schema.{Schema}
use Rattle.bb_code.specs.Code.{Code}
use Rattle.bb_code.specs.declared.frame.Kind.{Kind}
use Rattle.bb_code.specs.declared.frame.Kind.TheVariants.{Any}
use Rattle.bb_code.specs.declared.op.Op.{Op}
use Rattle.bb_code.specs.declared.flaw.Flaw.{Flaw}
use Rattle.bb_verify_effect.specs.declared.frame.Frame.{Frame}
use Rattle.bb_verify_effect.specs.declared.part.Part.{Part}
use Rattle.bb_verify_effect.specs.Part.{units_of}
use Rattle.bb_verify_effect.specs.Kinds.{frame_weakens}
use Rattle.bb_verify_effect.specs.Effect.{effect}
use Rattle.bb_verify.specs.Tables.{in_tables}
use Rattle.bb_verify.specs.nesting.Jumps.{target_of, check_target}
use Rattle.bb_verify.specs.nesting.Loops.{place_due, lowest_outside, none_outside}
use Rattle.bb_verify.specs.Places.{entry_frame}

-- the frames after an op: at the next place, and at its target
abbrev pub edges_of : Schema → Part → Code → Op → Frame → Result (Option Frame × Option Frame) Flaw
edges_of s part code op f = effect s part code op f >>= λ e. Ok (e.on, e.target)

-- the kind of an entry of the stack is not `Any`
abbrev pub is_known : Kind → Bool
is_known Any = false
is_known k = true

-- a frame is allowed at a place: the frame there is equal, or weaker
abbrev pub StandsAt : Schema → List Frame → (place : ℕ) → Frame → Type 0
StandsAt s frames place left =
    (f : Frame) × (slice_get frames place ≡ Some f) × ((left ≡ f) ⊎ (frame_weakens s left f ≡ true))

-- the frames after an op are allowed at the places where execution may continue
pub record Leaves (s : Schema) (part : Part) (code : Code) (frames : List Frame) (place : ℕ) (op : Op) (f : Frame) : Type 0 where
  pub edges : Option Frame × Option Frame
  pub are : edges_of s part code op f ≡ Ok edges
  pub on : (g : Frame) → edges.0 ≡ Some g → StandsAt s frames (place + 1) g
  pub target : (g : Frame) (to : ℕ) → edges.1 ≡ Some g → target_of op ≡ Some to → StandsAt s frames to g

-- what holds of a code that is accepted for a part with these frames
pub record Facts (s : Schema) (part : Part) (code : Code) (frames : List Frame) : Type 0 where
  -- there is a local for each unit that the part starts with, and a frame for each op
  pub units : length (units_of part) ≤ code.locals
  pub count : length frames ≡ length code.ops
  -- the frame before the first op is allowed at its place
  pub entry : StandsAt s frames 0 (entry_frame part code.locals)
  -- the operands of every op name entries of their tables, and it passes the checks of jumps and of loops
  pub tables : (place : ℕ) (op : Op) → slice_get code.ops place ≡ Some op → in_tables s code op ≡ Ok tt
  pub jumps : (place : ℕ) (op : Op) → slice_get code.ops place ≡ Some op → check_target (length code.ops) place op ≡ Ok tt
  pub loops : (place : ℕ) (op : Op) → slice_get code.ops place ≡ Some op → place_due code place (Some op) ≡ Ok tt
  -- no loop has its head outside the code
  pub heads : none_outside (lowest_outside (length code.ops) None code.loops) ≡ Ok tt
  -- every op has an effect on the frame of its place, and the frames after it are allowed
  pub leaves : (place : ℕ) (op : Op) (f : Frame) → slice_get code.ops place ≡ Some op → slice_get frames place ≡ Some f
      → Leaves s part code frames place op f
  -- no frame has an entry of the stack of kind `Any`
  pub known : (place : ℕ) (f : Frame) → slice_get frames place ≡ Some f → All (λ k. is_known k ≡ true) f.stack
