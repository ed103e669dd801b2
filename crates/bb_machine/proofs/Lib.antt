-- what crates above use
pub mod Laws
pub mod SaidLemmas
pub mod ExecutionLemmas
pub mod ReadLemmas
pub mod NamedLemmas
pub mod HaltLemmas
pub mod FullLemmas
-- what crates above use
pub mod StateLaws
pub mod StackLemmas
pub mod Numbers
