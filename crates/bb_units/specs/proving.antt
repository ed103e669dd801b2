-- Definitions that only the invariants of models and the proofs use.
-- how units are encoded as data that can be compared
pub mod Codes
-- the live units in a slab, and their keys in a list by number
pub mod Numbered
-- what the layout keeps for each class
pub mod Blocks
