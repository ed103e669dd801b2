pub mod ServeLemmas
pub mod Limits
pub mod Laws
