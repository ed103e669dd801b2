-- worked texts
mod Rows
-- what the compiler refuses has a fault
pub mod scopes
pub mod faults
-- what has no fault, and fits, has a code
pub mod laying
pub mod within
pub mod SourceLemmas
-- what has a code fits
pub mod exact
-- sources that were read from a text
pub mod parsed
