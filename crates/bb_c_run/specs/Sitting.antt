-- A run that a host in another language holds, and its state.
use Rattle.std.specs.Prelude.{ℕ, Bool, List, [], drop, is_some, if◌then◌else◌, Option, Some, None, option_and_then, pos}
use Rattle.bb_schema.specs.Schema.{Schema, label_named, label_set_named}
use Rattle.bb_shell.specs.Native.{Native}
use Rattle.bb_shell.specs.Seen.{seen}
use Rattle.bb_shell.specs.Sight.{sight_of}
use Rattle.bb_run_held.specs.Making.{stands}
use Rattle.bb_run_held.specs.Moves.{Standing}
use Rattle.bb_run_held.specs.declared.pause.Pause.{Pause}
use Rattle.bb_run_held.specs.declared.pause.Pause.TheVariants.{Going, Resting, Due, Over}
use Rattle.bb_run_held.specs.declared.running.Running.{Running}
use Rattle.bb_shell.specs.Value.{Value}
use Rattle.bb_shell.specs.Value.TheVariants as values
use Rattle.bb_c_run.specs.declared.no_native.NoNative.{NoNative}
use Rattle.bb_c_run.specs.declared.stands.Stands.{Stands}
use Rattle.bb_c_run.specs.declared.stands.Stands.TheVariants as stand
use Rattle.bb_c_run.specs.declared.trace.Trace.{Trace}

-- a native that asks for nothing
abbrev pub nothing : (is_open : Bool) → Native
nothing is_open = record {
  name = [];
  held = [];
  is_open = is_open;
  asks = λ held unit seen. [];
  next = λ held unit seen. held;
  closing = λ held. pos 0;
}

abbrev pub meant : NoNative → Native
meant native = nothing native.is_open

-- what was written and not read yet
abbrev pub unread : Trace → List ℕ
unread t = drop t.read t.bytes.items

abbrev pub stands_by : Pause → Stands
stands_by Going = stand.Going
stands_by Resting = stand.Resting
stands_by (Due a) = stand.Due
stands_by (Over end) = stand.Full

-- the state of a run: after a move that was cut short, only memory is reported
abbrev pub stands_now : {b : _} → Option (Running NoNative b) → Stands
stands_now None = stand.Finished
stands_now (Some r) = if is_some r.cut then stand.Memory else stands_by r.pause

-- the standing of a held run
abbrev pub standing : {b : _} → Running NoNative b → Standing
standing r = stands (seen meant r.state) r.made r.pause

-- the number of the next new unit, or 0 once the run is finished
abbrev pub next_in : {b : _} → Option (Running NoNative b) → ℕ
next_in None = 0
next_in (Some r) = (sight_of r.state.board).world.units.next

-- the number of cycles that were made, or 0 once the run is finished
abbrev pub made_in : {b : _} → Option (Running NoNative b) → ℕ
made_in None = 0
made_in (Some r) = r.made

-- a label of a schema, by the names of its set and of the label
abbrev pub label_of : Schema → (set label : List ℕ) → Option Value
label_of s set label = option_and_then (λ n. option_and_then (λ l. Some (values.Label n l)) (label_named s n label)) (label_set_named s set)

-- a label by its names, if the run has it
abbrev pub label_in : {b : _} → Option (Running NoNative b) → (set label : List ℕ) → Option Value
label_in None set label = None
label_in (Some r) set label = label_of r.state.board.schema set label
