-- The response to an event, source by source, with those left out that it does not concern; and asks of natives.
-- For the answers in `calling`, `processing` and `reacting`.
pub mod ConcernedLemmas
pub mod OwnLemmas
pub mod ResponseLemmas
pub mod CallLemmas
pub mod WaitingLemmas
