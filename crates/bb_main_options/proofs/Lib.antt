pub mod CommandLemmas
pub mod NumberLemmas
pub mod AnswerLemmas
pub mod Limits
