use Rattle.bb_theorem_meaning.proofs.SourceLemmas.{loopless_meant, source_meant}
use Rattle.bb_theorem_meaning.proofs.laws.compiled_source_means_its_text.Goals as goal

pub returns : goal.returns
returns c = record {
  means = λ text draft is. source_meant c.args.schema.now c.fits.ensures text draft is;
  once_each = λ text draft loopless is. loopless_meant c.args.schema.now c.fits.ensures text draft loopless is;
}
