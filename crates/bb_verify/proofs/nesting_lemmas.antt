pub mod LoopInversion
pub mod LoopLemmas
pub mod LoopTableLemmas
pub mod OpenLemmas
pub mod SortedLemmas
pub mod Laws
pub mod Limits
