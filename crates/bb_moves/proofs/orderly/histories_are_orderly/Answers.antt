use Rattle.bb_moves.proofs.AgainLemmas.{history_again}
use Rattle.bb_moves.proofs.JoinLemmas.{read_together}
use Rattle.bb_moves.proofs.TellLemmas.{only_told}
use Rattle.bb_moves.proofs.orderly.histories_are_orderly.Goals as goal

pub returns : goal.returns
returns c = record {
  joined = read_together;
  again = λ s ms fits told utf8. history_again s fits ms told utf8;
  told = only_told;
}
