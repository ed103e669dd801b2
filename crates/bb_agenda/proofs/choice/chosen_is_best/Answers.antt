use Rattle.bb_agenda.proofs.ChosenLemmas.{chosen_some, chosen_none}
use Rattle.bb_agenda.proofs.choice.chosen_is_best.Goals as goal

pub returns : goal.returns
returns c = record { some = chosen_some; none = chosen_none }
