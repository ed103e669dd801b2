-- the spaces, and every change of them
pub mod Spaces
-- the members that are candidates for a test
pub mod Candidates
-- the units that pass several tests
pub mod Passing
-- the invariant of the spaces
pub mod Fits
-- definitions that only models and the contracts of private functions use
pub mod proving
-- the tests of values on one dimension, and the index by which the members that can pass one are found
pub mod index
