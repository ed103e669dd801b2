-- the results of ops on numbers, truth values, texts, labels and intervals
pub mod Arithmetic
-- the ops that only read the blackboard
pub mod Reading
-- the ops that change the blackboard
pub mod Changing
-- the ops that may jump, and those that end an execution
pub mod Jumping
-- the blackboard after an op that ends the execution
pub mod Kept
-- one step of the defensive machine
pub mod Step
-- an execution: steps from the first place
pub mod Activation
-- which codes only read the blackboard
pub mod Writes
-- the types of executions and of values
pub use Rattle.bb_machine.specs.declared.halt.Halt
pub use Rattle.bb_machine.specs.declared.outcome.Answer
pub use Rattle.bb_machine.specs.declared.outcome.Entry
pub use Rattle.bb_machine.specs.declared.outcome.Outcome
pub use Rattle.bb_machine.specs.declared.outcome.Stop
pub use Rattle.bb_machine.specs.declared.outcome.Stuck
pub use Rattle.bb_machine.specs.declared.value.Value as Values
-- of bb_query: the result of a query
pub use Rattle.bb_query.specs.Answer as QueryAnswer
pub use Rattle.bb_query.specs.PresentValues
-- the numbers in traces for why an execution is stuck
pub mod Reasons
-- the bytes of a text
pub mod TextRef
-- a sequence of units
pub mod Sequence
-- values and their kinds
pub mod Value
-- the state of an execution, and its stack
pub mod Machine
-- of bb_board: the blackboard, and its changes
pub use Rattle.bb_board.specs.Board
pub use Rattle.bb_board.specs.World
pub use Rattle.bb_board.specs.Links
pub use Rattle.bb_board.specs.Deletion
pub use Rattle.bb_board.specs.Spaces
pub use Rattle.bb_board.specs.May
pub use Rattle.bb_board.specs.Fits
pub use Rattle.bb_board.specs.declared.note.Said
pub use Rattle.bb_board.specs.declared.reason.Reason
pub use Rattle.bb_board.specs.State
pub use Rattle.bb_board.specs.Named
-- of bb_units: the units, what their slots can hold, and why a unit cannot be created
pub use Rattle.bb_units.specs.Units
pub use Rattle.bb_units.specs.Layout
pub use Rattle.bb_units.specs.declared.fault.CreateFault
pub use Rattle.bb_units.specs.declared.units.TheConstants as Limits
