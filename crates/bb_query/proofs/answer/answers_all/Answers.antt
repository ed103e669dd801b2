use Rattle.bb_query.proofs.AnswerLemmas.{all_answer}
use Rattle.bb_query.proofs.answer.answers_all.Goals as goal

pub returns : goal.returns
returns c = λ all.
    let asked = c.args.search.now in
    all_answer asked.schema.now asked.units.now asked.spaces.now c.requires.suits.knows asked.query.now asked.operands.now (c.is_all.ensures all) (c.requires.sure c.if-not-sure.false)
