use Rattle.bb_theorem_accepted.proofs.whole.TextLemmas.{part_laid, text_accepted}
use Rattle.bb_theorem_accepted.proofs.acceptance.compiled_code_is_accepted.Goals as goal

pub returns : goal.returns
returns c = record {
  accepted = λ part place block code classes is.
      let it = text_accepted c.args.schema.now c.fits.ensures part classes place block code (part_laid c.args.schema.now part place block code is) in
      (it.0, it.1);
}
