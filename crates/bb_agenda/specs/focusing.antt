-- the foci that are set, and what they are matched with
pub mod Foci
-- which activations a focus matches
pub mod Matching
-- the rating of an activation
pub mod Rating
-- what only the invariants of models, the contracts of private functions and proofs use
pub mod proving
