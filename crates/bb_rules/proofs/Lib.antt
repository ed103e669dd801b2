pub mod IndexLemmas
pub mod LawLemmas
pub mod StepLemmas
pub mod Laws
pub mod Numbers
pub mod Rows
