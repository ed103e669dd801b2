-- What a `Run` owns.
use Rattle.std.specs.Prelude.{Bool, true, false, Option, Some, None}
use base.Fml.{Fml, ftrue, ffalse}
use denote.RattleType.{RattleType}
use denote.RawPtr.{Ptr}
use mir.Syntax.{Ty}
use Rattle.std.specs.contracts.impls.GlobalAllocator.TheImpl.{ghosts}
use Rattle.std.specs.Box.Ownership.{box_owns}
use Rattle.std.specs.Coded.{Coded, coded_option}
use Rattle.bb_c_run.specs.contracts.held.Held.{the_row}
use Rattle.bb_c_run.specs.declared.held.Held.{Held}

-- the right to free a block of the C library's heap
abbrev pub chunk : Ty → Ptr → Fml
chunk = ghosts.dealloc_token (record { memory = record { seal = tt } })

-- the value of a box at a pointer, with its block
abbrev pub boxed : (R : RattleType) → Ptr → R.Denot → Fml
boxed R at x = box_owns chunk R at x

-- if the handle is open, the box at its pointer; else nothing
abbrev pub run_owns : Bool → Ptr → Option Held → Fml
run_owns true at (Some t) = boxed the_row at t
run_owns false at None = ftrue
run_owns _ _ _ = ffalse

-- the code of what a handle holds
abbrev pub held_code : Coded (Option Held)
held_code = coded_option the_row.coded
