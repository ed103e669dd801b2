use Rattle.std.proofs.Common.{◌≡◌, ◌∙◌, ap, length, filter}
use Rattle.bb_basis.proofs.ListLemmas.{if_some}
use Rattle.bb_space.specs.Spaces.{members}
use Rattle.bb_query.specs.Answer.{answers}
use Rattle.bb_query.proofs.AnswerLemmas.{answer_members}
use Rattle.bb_query.proofs.answer.count.Goals as goal

pub returns-in-Some : goal.returns-in-Some
returns-in-Some c =
    let s = c.args.schema.now in
    let u = c.args.units.now in
    let t = c.args.spaces.now in
    let q = c.args.query.now in
    let operands = c.args.operands.now in
    if_some (λ n. n ≡ length (filter (answers s u t q operands) (members t q.space))) c.counted.result c.in-Some.number c.in-Some.is c.counted.ensures
    ∙ ap length (answer_members s u t c.requires.knows q operands)
