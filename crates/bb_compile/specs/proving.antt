-- Definitions used only in measures, private contracts and proofs.
-- the size of steps of a chain and of sequences
pub mod Sizes
-- what a loop over patterns has made so far
pub mod Fronts
-- what a call does to an emitter
pub mod Laying
