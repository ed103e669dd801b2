-- what each move of a held run emits, and the run's state after it
pub mod Moves
-- natives outside the run
pub mod Outside
-- what the code of a move did, compared with the definitions
pub mod Making
-- for models only
pub mod proving
-- of bb_run: the run, what a part of it emits, and the response to an event
pub use Rattle.bb_run.specs.Emission
pub use Rattle.bb_run.specs.Emitting
pub use Rattle.bb_run.specs.Note
pub use Rattle.bb_run.specs.Processing
pub use Rattle.bb_run.specs.Run
pub use Rattle.bb_run.specs.Seen
-- of bb_run: what every run is like
pub use Rattle.bb_run.specs.Causes
pub use Rattle.bb_run.specs.Order
pub use Rattle.bb_run.specs.Unstuck
-- of bb_run: how a run ends, and what was written if it was cut short
pub use Rattle.bb_run.specs.End
pub use Rattle.bb_run.specs.Finish
pub use Rattle.bb_run.specs.Halt
pub use Rattle.bb_run.specs.declared.finish.Finish as Finishes
-- of bb_trace: the plan of a run, and the text of a trace
pub use Rattle.bb_run.specs.Limits
pub use Rattle.bb_run.specs.Page
pub use Rattle.bb_run.specs.Plan
pub use Rattle.bb_run.specs.TraceText
-- of bb_board: the blackboard that a run begins with
pub use Rattle.bb_run.specs.Board
pub use Rattle.bb_run.specs.Load
-- of bb_native: natives, what they see and ask
pub use Rattle.bb_run.specs.Ask
pub use Rattle.bb_run.specs.Closing
pub use Rattle.bb_run.specs.Native
pub use Rattle.bb_run.specs.Roster
pub use Rattle.bb_run.specs.Sight
-- of bb_rules: sources, and how they are made
pub use Rattle.bb_run.specs.Act
pub use Rattle.bb_run.specs.Classes
pub use Rattle.bb_run.specs.Law
pub use Rattle.bb_run.specs.MadeSource
pub use Rattle.bb_run.specs.RuleFault
pub use Rattle.bb_run.specs.Source
