-- the pairs of one couple, and every change of them
pub mod Pairs
-- the couples of a schema, and the couple of each link slot
pub mod Layout
-- all couples, and every change of them
pub mod Couples
-- the links of a unit by a slot
pub mod Links
-- the invariant of the couples
pub mod Fits
-- definitions that only invariants and proofs use
pub mod proving
