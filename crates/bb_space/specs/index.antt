-- whether a unit's values pass one test, or several
pub mod Leaf
-- which values can pass a test
pub mod Candidates
-- whether a unit is in a list
pub mod Among
-- what only the invariants of models, contracts inside the crate and proofs use
pub mod proving
