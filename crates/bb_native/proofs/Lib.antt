-- the lemmas on natives that crates above use
pub mod Laws
-- what asks leave of a blackboard
mod AppliedLemmas
mod AskedLemmas
mod RosterLemmas
pub mod Numbers
