-- schemas, and how their parts are found
pub mod Schema
-- couples of link slots
pub mod Couples
-- of a schema: which slots own, and what a delete strikes
pub mod Ownership
-- which units a space admits
pub mod Spaces
-- which slots dimensions read
pub mod Readings
-- the slots of the built-in class
pub mod Focus
-- the properties of every schema
pub mod Fits
-- the spaces that entries declare
pub mod SpaceReading
-- the schema that a text declares, or its first fault
pub mod Reading
-- relations that only invariants and proofs use
pub mod proving
-- what a slot can hold
pub mod Kinds
-- how slots are found, and their contents
pub mod Slots
-- slots with numbers instead of names
pub mod Resolution
-- of classes and slots: which slots own, and what a delete strikes
pub mod Heirs
