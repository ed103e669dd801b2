-- the test says that the units fit
pub mod EntryLemmas
