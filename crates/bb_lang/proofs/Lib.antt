pub mod TestLemmas
pub mod RepeatLemmas
pub mod NestingLemmas
pub mod ChainLemmas
pub mod BlockLemmas
pub mod ClauseLemmas
pub mod Limits
