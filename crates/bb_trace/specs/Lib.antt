-- how a run ends
pub mod End
-- the text of a trace
pub mod TraceText
-- what writing a page does
pub mod Page
-- for proofs only
pub mod proving
-- of bb_board: the blackboard, its events and notes, and the document of its initial units
pub use Rattle.bb_board.specs.Board
pub use Rattle.bb_board.specs.World
pub use Rattle.bb_board.specs.Events
pub use Rattle.bb_board.specs.Load
pub use Rattle.bb_board.specs.UnitsFaults
pub use Rattle.bb_board.specs.declared.event.Change
pub use Rattle.bb_board.specs.declared.event.ChangeKind
pub use Rattle.bb_board.specs.declared.event.Event
pub use Rattle.bb_board.specs.declared.note.Note as BoardNote
pub use Rattle.bb_board.specs.declared.note.Said
pub use Rattle.bb_board.specs.Outlives
-- of bb_native: what a native means, sees and asks, how asks are applied, and what a roster of natives means
pub use Rattle.bb_native.specs.Native
pub use Rattle.bb_native.specs.Roster
pub use Rattle.bb_native.specs.Sight
pub use Rattle.bb_native.specs.Refusals
pub use Rattle.bb_native.specs.Applied
pub use Rattle.bb_native.specs.declared.ask.Ask
pub use Rattle.bb_native.specs.declared.closing.Closing
pub use Rattle.bb_native.specs.declared.refusal.Refusal
pub use Rattle.bb_native.specs.declared.denial.Denial
-- of bb_rules: sources, how they are made, and which events trigger them
pub use Rattle.bb_rules.specs.Match
pub use Rattle.bb_rules.specs.Law
pub use Rattle.bb_rules.specs.Questions
pub use Rattle.bb_rules.specs.Source as MadeSource
pub use Rattle.bb_rules.specs.Faults as RuleFaults
pub use Rattle.bb_rules.specs.declared.clause.Clause
pub use Rattle.bb_rules.specs.declared.fault.RuleFault
pub use Rattle.bb_rules.specs.declared.resolve.Classes
pub use Rattle.bb_rules.specs.declared.source.Act
pub use Rattle.bb_rules.specs.declared.source.Reaction
pub use Rattle.bb_rules.specs.Parts as Source
