-- Each native is closed once, a run ends with one due only where a source lacks it, and how an answer goes on.
-- For the law of runs and the answer of `run_to_end`, for `Corollaries`, and for `Laws`.
pub mod ClosedLemmas
pub mod CauseLemmas
pub mod DueLemmas
pub mod NativesApart
pub mod OutsideLemmas
