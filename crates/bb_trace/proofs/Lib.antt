-- for crates above
pub mod Laws
-- what an output took
pub mod OutLemmas
pub mod Limits
pub mod Rows
