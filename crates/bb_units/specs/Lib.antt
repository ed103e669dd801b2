-- the values of a unit
pub mod Values
-- the slots of the units of a class, and their values in a new unit
pub mod Layout
-- the units, and every change of them
pub mod Units
-- the invariant of the units
pub mod Fits
-- definitions that only invariants and proofs use
pub mod proving
