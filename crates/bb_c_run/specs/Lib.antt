-- a held run, and its state
pub mod Sitting
-- the run that an input begins
pub mod Opening
-- why an input is refused
pub mod Refused
-- what moves do to a held run
pub mod Moving
-- what a host sees of it
pub mod Looking
-- what a host sees of its agenda
pub mod Waiting
-- what its sources can cost
pub mod Costs
-- the text of a move, and the run that a history leaves
pub mod History
-- of bb_shell: what an input means
pub use Rattle.bb_shell.specs.Meaning
-- of bb_run_held: what a host makes a run do, and what that means
pub use Rattle.bb_shell.specs.Ask
pub use Rattle.bb_run_held.specs.Moves
-- of bb_schema: values of slots
pub use Rattle.bb_shell.specs.Value
