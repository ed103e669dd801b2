-- The lemmas on agendas that crates above use.
pub use Rattle.bb_agenda.proofs.AgendaLemmas.{pending_added, pending_obviated, pending_executed, pending_rebased, given_added, given_obviated, given_executed, given_rebased}
pub use Rattle.bb_agenda.proofs.ChosenLemmas.{chosen_some}
