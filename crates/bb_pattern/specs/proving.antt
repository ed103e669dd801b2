-- Definitions that only models use.
-- how trees are encoded as data that can be compared
pub mod Codes
-- a pattern has more nodes than any of its parts
pub mod Depths
