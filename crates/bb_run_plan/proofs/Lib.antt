-- which sources an event concerns
pub mod ConcernedLemmas
-- the agenda is told of units one after another
pub mod FociLemmas
pub mod Laws
pub mod Limits
