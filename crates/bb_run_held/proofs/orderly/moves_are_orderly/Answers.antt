use Rattle.bb_run_held.proofs.ApartLemmas.{moves_apart, run_alone}
use Rattle.bb_run_held.proofs.OutsideLemmas.{turn_outside}
use Rattle.bb_run_held.proofs.TurnLemmas.{moves_turn, post_first}
use Rattle.bb_run_held.proofs.orderly.moves_are_orderly.Goals as goal

pub returns : goal.returns
returns c = record {
  apart = moves_apart;
  turns = moves_turn;
  alone = run_alone;
  posts = post_first;
  outside = λ plan t a natives asks goes chosen due inside. turn_outside plan natives asks a t goes chosen due inside;
}
