-- the number of a refusal, and its line
pub mod Refusals
