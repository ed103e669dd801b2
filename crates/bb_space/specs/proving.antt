-- Definitions that only models and the contracts of private functions use.
-- how spaces are encoded as data that can be compared
pub mod Codes
-- the members of some entries
pub mod Entries
-- the members of a space with their index, and the invariant of both
pub mod Indexed
-- the spaces that each unit is in
pub mod Standing
-- the recorded results of units that are close together
pub mod Known
