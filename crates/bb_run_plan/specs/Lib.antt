-- the plan of a run
pub mod Plan
-- which sources an event concerns by its kind
pub mod Concerned
-- the foci of a blackboard, and how the agenda learns of them
pub mod Foci
-- for proofs only
pub mod proving
