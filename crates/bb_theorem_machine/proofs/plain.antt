-- Ops on plain values and on locals.
pub mod LocalLemmas
pub mod RangeLemmas
pub mod PlainLemmas
pub mod PlainSteps
