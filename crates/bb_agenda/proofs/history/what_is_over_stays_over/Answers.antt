use Rattle.bb_agenda.proofs.HistoryLemmas.{executed_stays, obviated_stays}
use Rattle.bb_agenda.proofs.history.what_is_over_stays_over.Goals as goal

pub returns : goal.returns
returns c = record { executed = executed_stays; obviated = obviated_stays }
