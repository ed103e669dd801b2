-- Definitions that only the contracts of private functions use.
-- lists of units that include an answer
pub mod Enough
-- properties of searches
pub mod Searches
-- tests equivalent to patterns or implied by them
pub mod Tests
