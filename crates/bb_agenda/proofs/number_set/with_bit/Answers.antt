use Rattle.bb_agenda.proofs.BitLemmas.{has_bit_or}
use Rattle.bb_agenda.proofs.number_set.with_bit.Goals as goal

pub returns : goal.returns
returns c = λ i. has_bit_or c.args.word c.args.bit i c.requires
