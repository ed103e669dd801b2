-- Each part of a run is emitted and written, or cut short; and what is emitted of a code that was executed.
-- For the answers of the functions, for `stretches` and `serving`, and for `Laws`.
pub mod SegmentLemmas
pub mod EmitLemmas
pub mod WholeLemmas
pub mod TurnLemmas
pub mod ExecutionLemmas
