-- faults: their numbers and their places
pub mod Faults
-- of bb_schema_form: places in a document
pub use Rattle.bb_schema_form.specs.Places
-- the kinds of values
pub mod Kinds
-- of bb_schema_form: numbers of 64 bits
pub use Rattle.bb_schema_form.specs.Numbers
-- which values a slot of a kind can hold
pub mod Values
-- parents, which class descends from which, and the slots of a class
pub mod Inheritance
-- spans: which class descends from which, by its number in a walk over the classes
pub mod Spans
-- the built-in class and its slots
pub mod Focus
-- lists of names
pub mod Naming
-- the label sets that entries declare
pub mod LabelReading
-- classes that are being read
pub mod Drafts
-- the ordinary slots that entries declare
pub mod SlotReading
-- the link slots that entries declare
pub mod LinkReading
-- the classes that entries declare
pub mod ClassReading
-- links with numbers instead of names
pub mod Resolution
-- names told by the first slots that have them
pub mod Firsts
-- the result of a walk over label sets and classes
pub mod Walk
-- the properties of every result of a walk
pub mod Fits
-- relations that only invariants and proofs use
pub mod proving
