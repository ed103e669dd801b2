-- the values of a kind, and the states that suit a frame
pub mod Kinds
-- safe steps
pub mod Safe
-- verified code never goes wrong
pub mod NeverWrong
-- only for proofs
pub mod proving
-- of bb_machine: the steps of an execution
pub use Rattle.bb_machine.specs.Reading
pub use Rattle.bb_machine.specs.Changing
pub use Rattle.bb_machine.specs.Jumping
pub use Rattle.bb_machine.specs.Step
pub use Rattle.bb_machine.specs.Activation
pub use Rattle.bb_machine.specs.Kept
pub use Rattle.bb_machine.specs.Writes
-- of bb_machine: the state and the outcome of an execution
pub use Rattle.bb_machine.specs.Reasons
pub use Rattle.bb_machine.specs.Machine
pub use Rattle.bb_machine.specs.declared.outcome.Answer
pub use Rattle.bb_machine.specs.declared.outcome.Entry
pub use Rattle.bb_machine.specs.declared.outcome.Outcome
pub use Rattle.bb_machine.specs.declared.outcome.Stop
pub use Rattle.bb_machine.specs.declared.outcome.Stuck
-- of bb_board and bb_units: units, notes, and when no unit can be created
pub use Rattle.bb_board.specs.Fits
pub use Rattle.bb_board.specs.Named
pub use Rattle.bb_units.specs.Units
