-- Ops that change the blackboard, and what is known of values after them.
pub mod OutliveLemmas
pub mod StruckLemmas
pub mod CreatedLemmas
pub mod SetLemmas
pub mod RelinkLemmas
pub mod SayLemmas
pub mod ChangeSteps
pub mod EnterSteps
pub mod WriteSteps
pub mod OutlivedSteps
