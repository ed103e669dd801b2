-- Definitions that only the invariants of models and the contracts of private functions use.
-- a list of numbers for each unit
pub mod Lists
-- maps from two numbers to one
pub mod Maps
-- the partners of each unit at both sides
pub mod Partners
-- pairs under rising stamps
pub mod Stamps
-- the couples in which a unit may have a pair
pub mod Standing
