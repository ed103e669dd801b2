-- The notes of a run: the agenda is what is pending by them, and each part of a run goes on in order after them.
-- For all folders below but `keeping`, for the law of runs, and for `Laws`.
pub mod PendingLemmas
pub mod PaidLemmas
pub mod OrderlyParts
pub mod OrderlyCycles
pub mod OrderlyRuns
