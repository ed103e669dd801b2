-- Definitions used only in measures and proofs.
-- the size of statements
pub mod Sizes
