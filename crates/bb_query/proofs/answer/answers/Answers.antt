use Rattle.bb_query.proofs.FitLemmas.{fitting_space}
use Rattle.bb_query.proofs.answer.answers.Goals as goal

pub values-requires : goal.values-requires
values-requires c =
    let search = c.args.search.now in
    fitting_space search.schema.now search.spaces.now search.query.now c.requires.suits.knows.spaces c.requires.suits.fits
