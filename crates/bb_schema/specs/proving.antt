-- Relations that only the invariants of models and the proofs use.
-- the invariant of schemas
pub mod WellFormed
-- classes with their spans
pub mod Lineage
-- relations as tables of truth values
pub mod Relation
-- the table of what a delete strikes
pub mod Struck
-- the tables of what dimensions read
pub mod Readings
-- a schema without spaces
pub mod Bare
