-- the number of each fault of a source
pub mod Faults
-- which events a clause names
pub mod Match
-- what contracts see of a source
pub mod Parts
-- the source that a draft makes under a schema
pub mod Source
-- the codes that a source may ask
pub mod Questions
-- questions whose answer is no if the activation's unit is not the event's
pub mod Own
-- the laws of every source
pub mod Law
-- sets of numbers for each kind of change
pub mod KindIndex
-- the codes of a source, in the order of its parts
pub mod Codes
-- what a source may cost
pub mod Cost
-- used only in models, private contracts and proofs
pub mod proving
