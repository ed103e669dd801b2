use Rattle.bb_theorem_meaning.proofs.SourceLemmas.{source_accepted}
use Rattle.bb_theorem_meaning.proofs.laws.compiled_source_is_accepted.Goals as goal

pub returns : goal.returns
returns c = record {
  accepted = λ text draft is. source_accepted c.args.schema.now c.fits.ensures text draft is;
}
