-- Operations on the stack and the locals of a frame (of this project).
use Rattle.std.specs.Prelude.{ℕ, nat_le, nat_lt, List, ◌∷◌, length, take, drop, set, slice_get, reverse, Some, None}
use Rattle.std.specs.Prelude.{Result, Ok, Err, if◌then◌else◌}
use Rattle.bb_basis.specs.Results.{◌>>=◌, ok_or}
use Rattle.bb_code.specs.declared.parts.TheConstants.{STACK_LIMIT}
use Rattle.bb_code.specs.declared.frame.Frame.{Frame as DeclaredFrame}
use Rattle.bb_code.specs.declared.frame.Kind.{Kind}
use Rattle.bb_code.specs.declared.frame.Kind.TheVariants.{Any}
use Rattle.bb_code.specs.declared.flaw.Flaw.{Flaw}
use Rattle.bb_code.specs.declared.flaw.Flaw.TheVariants.{Depth}
use Rattle.bb_verify_effect.specs.declared.frame.Frame.{Frame}
use Rattle.bb_verify_effect.specs.Stack.{newest}

-- a frame with another stack
abbrev pub with_stack : List Kind → Frame → Frame
with_stack stack f = record { locals = f.locals; stack = stack }

-- a declared frame, the newest entry of its stack first
abbrev pub frame_of : DeclaredFrame → Frame
frame_of f = record { locals = f.locals; stack = reverse f.stack }

-- ---- the stack

-- the newest entry, and the frame without it
unfoldable pub pop : Frame → Result (Kind × Frame) Flaw
pop f = do
  top ← ok_or (newest f.stack) Depth
  Ok (top.0, with_stack top.1 f)

-- the two newest entries, the deeper one first, and the frame without them
unfoldable pub pop_two : Frame → Result ((Kind × Kind) × Frame) Flaw
pop_two f = do
  second ← pop f
  first ← pop second.1
  Ok ((first.0, second.0), first.1)

-- the stack has at least n entries
unfoldable pub enough : ℕ → Frame → Result (Unit {0}) Flaw
enough n f = if nat_lt (length f.stack) n then Err Depth else Ok tt

-- the n newest entries, the deepest first
abbrev pub top : ℕ → Frame → List Kind
top n f = reverse (take n f.stack)

-- the frame without the n newest entries
abbrev pub without : ℕ → Frame → Frame
without n f = with_stack (drop n f.stack) f

-- the stack has room for another entry
unfoldable pub room : Frame → Result (Unit {0}) Flaw
room f = if nat_le STACK_LIMIT (length f.stack) then Err Depth else Ok tt

-- pushes an entry
unfoldable pub push : Kind → Frame → Result Frame Flaw
push k f = do
  _ ← room f
  Ok (with_stack (k ∷ f.stack) f)

-- ---- the locals

-- the kind of a local, or `Any` if there is no such local
unfoldable pub local_at : ℕ → Frame → Kind
local_at l f = elim (slice_get f.locals l) [ None ↦ Any | Some k ↦ k ]

-- sets the kind of a local, if there is one of that number
abbrev pub with_local : ℕ → Kind → Frame → Frame
with_local l k f = record { locals = set f.locals l k; stack = f.stack }
