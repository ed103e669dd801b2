-- the codes of a source, accepted for their parts
pub mod Accepting
-- the sources that run together
pub mod Fitting
-- the sources of an input
pub mod Sources
-- what an input means
pub mod Meaning
-- how far a text was written
pub mod Written
-- the lines of a check, and how far they are written
pub mod CheckText
pub mod Check
-- the bundle of the sources that are text
pub mod Compile
-- the shell of a blackboard and sources
pub mod Shell
-- for models only
pub mod proving
-- of bb_refusal: why an input is refused, and the line of a refusal
pub use Rattle.bb_refusal.specs.Refusals
pub use Rattle.bb_refusal.specs.declared.input_fault.InputFault
-- of bb_run: what a part of a run emits, how much of it was written, and the response to an event
pub use Rattle.bb_run.specs.Emission
pub use Rattle.bb_run.specs.Emitting
pub use Rattle.bb_run.specs.Note
pub use Rattle.bb_run.specs.Plan
pub use Rattle.bb_run.specs.Processing
pub use Rattle.bb_run.specs.Seen
-- of bb_run: the run, and what every run is like
pub use Rattle.bb_run.specs.Run
pub use Rattle.bb_run.specs.Order
pub use Rattle.bb_run.specs.Unstuck
-- of bb_run: how a run ends, by what `run` returns, and what was written if it was cut short
pub use Rattle.bb_run.specs.End
pub use Rattle.bb_run.specs.Finish
pub use Rattle.bb_run.specs.declared.finish.Finish as Finishes
pub use Rattle.bb_run.specs.Halt
-- of bb_trace: the text of a trace
pub use Rattle.bb_run.specs.TraceText
-- of bb_bundle: sources with codes, and the text that is written for them
pub use Rattle.bb_bundle.specs.Written as BundleText
pub use Rattle.bb_bundle.specs.declared.draft.SourceDraft
pub use Rattle.bb_code.specs.Code
-- of bb_native: natives, what they see and ask, and what a roster of them means
pub use Rattle.bb_run.specs.Native
pub use Rattle.bb_run.specs.Roster
pub use Rattle.bb_run.specs.Sight
pub use Rattle.bb_run.specs.Ask
pub use Rattle.bb_run.specs.Closing
pub use Rattle.bb_schema_classes.specs.declared.value.Value
-- of bb_rules: what sources were made of
pub use Rattle.bb_run.specs.Law
pub use Rattle.bb_run.specs.Source
-- what a run leaves
pub mod Left
