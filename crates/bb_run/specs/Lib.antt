-- the state of a run with one part of it changed
pub mod State
-- what a part of a run emits, the state that it leaves, and its end
pub mod Emission
-- what a code of a source answers
pub mod Asking
-- the response to an event
pub mod Processing
-- the run
pub mod Run
-- a turn of a run, and asks from outside
pub mod Turns
-- what notes report, how each choice is made, and how each run ends
pub mod Order
-- the phases of a run
pub mod Phases
-- what follows a choice
pub mod Executed
-- why a run ends full or stuck, or with a native due
pub mod Causes
-- why no run is stuck
pub mod Unstuck
-- what leaves the blackboard unchanged
pub mod Reads
-- what the sources emit in response to events
pub mod Responses
-- how a run continues
pub mod Responds
-- what the act of a source emits and leaves
pub mod Acts
-- the foci that a run rates by
pub mod Weighed
-- the state that a run leaves
pub mod Left
-- the end of a run by the finish that is returned, and what was written if it was cut short
pub mod Finish
-- what a part of the run's code emits, compared with the definitions
pub mod Emitting
-- how the definitions see the state of the code
pub mod Seen
-- what the code needs so that each code is executed for units that fit its part
pub mod Serving
-- what the code needs to rate by the foci of the blackboard
pub mod Knowing
-- for proofs only
pub mod proving
-- of bb_trace: the plan of a run, what the run emits, and the text of that
pub use Rattle.bb_trace.specs.TraceText
pub use Rattle.bb_trace.specs.End
pub use Rattle.bb_trace.specs.Page
pub use Rattle.bb_trace.specs.declared.halt.Halt
pub use Rattle.bb_trace.specs.declared.note.Note
pub use Rattle.bb_run_plan.specs.Plan
pub use Rattle.bb_run_plan.specs.declared.plan.TheConstants as Limits
-- of bb_agenda: pending activations
pub use Rattle.bb_agenda.specs.declared.focusing.activation.Activation
-- of bb_board: the blackboard that a run begins with, and the document of its initial units
pub use Rattle.bb_trace.specs.Board
pub use Rattle.bb_trace.specs.Load
pub use Rattle.bb_trace.specs.UnitsFaults
-- of bb_native: natives, what they see and ask, and how asks are applied
pub use Rattle.bb_trace.specs.Native
pub use Rattle.bb_trace.specs.Roster
pub use Rattle.bb_trace.specs.Sight
pub use Rattle.bb_trace.specs.Ask
pub use Rattle.bb_trace.specs.Closing
pub use Rattle.bb_trace.specs.Refusals
pub use Rattle.bb_trace.specs.Applied
-- of bb_rules: sources, and how they are made
pub use Rattle.bb_trace.specs.Classes
pub use Rattle.bb_trace.specs.Law
pub use Rattle.bb_trace.specs.MadeSource
pub use Rattle.bb_trace.specs.RuleFault
pub use Rattle.bb_trace.specs.RuleFaults
pub use Rattle.bb_trace.specs.Act
pub use Rattle.bb_trace.specs.Source
