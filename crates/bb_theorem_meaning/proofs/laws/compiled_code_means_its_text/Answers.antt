use Rattle.bb_theorem_meaning.proofs.SourceLemmas.{code_meant, text_meant}
use Rattle.bb_theorem_meaning.proofs.laws.compiled_code_means_its_text.Goals as goal

pub returns : goal.returns
returns c = record {
  means = λ part place block code classes made. text_meant c.args.schema.now c.fits.ensures part place block code tt classes made;
  once_each = λ part place block code loopless classes made. code_meant c.args.schema.now c.fits.ensures part place block code loopless classes made;
}
