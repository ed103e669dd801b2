-- The verifier goes from place to place: what it finds at each, and where a statement or a test leads it.
-- For `branches`, `loops` and `whole`.
pub mod WalkLemmas
pub mod TraceLemmas
pub mod JoinLemmas
pub mod GoesLemmas
pub mod GuideLemmas
