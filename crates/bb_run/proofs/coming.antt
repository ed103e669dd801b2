-- What comes next in a run: after a choice, of an execution, in the next cycle, and where events were emitted.
-- For the law of runs.
pub mod ExecutedLemmas
pub mod ActLemmas
pub mod ContinueLemmas
pub mod RespondLemmas
pub mod RestLemmas
