-- Sources that were read from a text contain only what codes can hold, and their names are valid. So a part fits exactly
-- if it is small.

-- text constants and numbers
pub mod LossyLemmas
pub mod HeldExprs
-- statements, and sources
pub mod HeldBlocks
pub mod HeldSources
-- names and clauses
pub mod SpelledSources
-- which parts fit
pub mod SmallParts
