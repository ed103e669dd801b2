-- events and changes
pub use Rattle.bb_board.specs.declared.event.Event
pub use Rattle.bb_board.specs.declared.event.Change
pub use Rattle.bb_board.specs.declared.event.ChangeKind
pub mod Events
-- what a board notes
pub use Rattle.bb_board.specs.declared.note.Note
pub use Rattle.bb_board.specs.declared.note.Said
-- why a change may not be made
pub use Rattle.bb_board.specs.declared.reason.Reason
-- units by their numbers
pub use Rattle.bb_units.specs.Units
-- what a query answers
pub use Rattle.bb_query.specs.Answer
-- which spaces a unit is in
pub use Rattle.bb_space.specs.Spaces as Members
-- a blackboard: its schema, its state, and whether it still takes changes
pub mod Board
-- the state of a blackboard, and what each change makes of it
pub mod State
pub mod World
-- what spaces are told of a unit
pub mod Told
-- which spaces units enter and leave
pub mod Spaces
-- what links change
pub mod Links
-- what is deleted with a unit
pub mod Deletion
-- when a change may be made
pub mod May
-- what holds of a blackboard at any time
pub mod Fits
-- what a change leaves of earlier units
pub mod Outlives
-- what changes leave of the units that none of their notes names
pub mod Named
-- the faults of a document of first units
pub mod UnitsFaults
-- the blackboard that a document of first units means, or its first fault
pub mod Load
-- what only invariants of models, contracts of private functions and proofs cite
pub mod proving
