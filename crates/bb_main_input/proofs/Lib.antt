pub mod LineLemmas
pub mod HeaderLemmas
pub mod PartLemmas
pub mod ReadLemmas
pub mod InputLemmas
pub mod OrderLemmas
pub mod Limits
pub mod Laws
