pub mod AgendaLemmas
pub mod AskLemmas
pub mod EndLemmas
pub mod HistoryLemmas
pub mod Laws
pub mod NameLemmas
pub mod OpenLemmas
