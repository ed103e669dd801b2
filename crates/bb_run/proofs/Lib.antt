-- worked runs
mod Rows
-- what the functions emit, and how sources respond
pub mod emitting
pub mod responding
-- what the law of runs rests on
pub mod rules
pub mod notes
pub mod stretches
-- the law of runs
pub mod phases
pub mod keeping
pub mod natives
pub mod coming
-- no run is stuck
pub mod serving
-- what follows from the law
pub mod following
pub mod Corollaries
-- what crates above use
pub mod Laws
