-- Relations that only the invariants of models and the proofs use.
-- indexes of entries by name
pub mod Entries
-- classes that are inserted into a walk one after another
pub mod SpanWalk
