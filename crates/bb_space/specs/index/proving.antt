-- What only the invariants of models, contracts inside the crate and proofs use.
-- the places of values in the index of a space
pub mod Places
-- the ranges of the index that contain the candidates for a test
pub mod Stretches
-- the candidates for two tests together
pub mod Pairs
-- the units that remain after marking
pub mod Marks
