use Rattle.bb_theorem_grammar.proofs.judged_lemmas.exact.ExactParts.{code_fits}
use Rattle.bb_theorem_grammar.proofs.judged_lemmas.exact.ExactSources.{source_fits}
use Rattle.bb_theorem_grammar.proofs.judged_lemmas.within.FineParts.{part_judged}
use Rattle.bb_theorem_grammar.proofs.judged_lemmas.SourceLemmas.{source_judged, clean_judged, whole_judged}
use Rattle.bb_theorem_grammar.proofs.judged.judged.refusals_are_judged.Goals as goal

pub returns : goal.returns
returns c =
    let schema = c.args.schema.now in
    let sf = c.fits.ensures in
    record {
      parts = λ part place block. part_judged schema sf part place block;
      sources = λ text. source_judged schema sf text;
      clean = λ text fault none refused. clean_judged schema sf text fault none refused;
      whole = λ text none all. whole_judged schema sf text none all;
      fitting = λ text draft held made. source_fits schema sf text held draft made;
      exact = λ part place block known held code made. code_fits schema part place block known held code made;
    }
