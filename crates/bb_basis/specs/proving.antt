-- Relations that only the invariants of models and the proofs use.
-- the invariant of tables
pub mod Tables
