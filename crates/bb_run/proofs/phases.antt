-- Each run goes by its phases, and the response to an event is what the sources emit by the notes before.
-- For `coming`, and for the law of runs.
pub mod PastLemmas
pub mod PhaseMoves
pub mod PhaseLemmas
pub mod PhasedRuns
