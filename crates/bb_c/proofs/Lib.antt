pub mod Handle
pub mod Heap
pub mod MisuseLemmas
pub mod ServedLemmas
pub mod OpenLemmas
pub mod PastLemmas
