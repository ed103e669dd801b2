use Rattle.std.proofs.Common.{ap, ◌∙◌}
use Rattle.std.specs.Prelude.{filter}
use Rattle.std.proofs.lemmas.Result.{IfOk-weaker}
use Rattle.bb_basis.proofs.ListLemmas.{if_some}
use Rattle.bb_pattern.specs.Holds.{holds}
use Rattle.bb_query.specs.Answer.{answers}
use Rattle.bb_query.specs.proving.Enough.{AreEnough}
use Rattle.bb_query.proofs.AnswerLemmas.{answer_among, answer_members}
use Rattle.bb_query.proofs.FitLemmas.{fitting_space}
use Rattle.bb_query.proofs.answer.find.Goals as goal

pub near-requires : goal.near-requires
near-requires c = fitting_space c.args.schema.now c.args.spaces.now c.args.query.now c.requires.knows.spaces c.requires.fits

pub returns-in-None : goal.returns-in-None
returns-in-None c =
    IfOk-weaker c.walked.result _ _ (λ found is_all. is_all ∙ answer_members c.args.schema.now c.args.units.now c.args.spaces.now c.requires.knows c.args.query.now c.args.operands.now) c.walked.ensures

pub returns-in-Some : goal.returns-in-Some
returns-in-Some c =
    let s = c.args.schema.now in
    let u = c.args.units.now in
    let t = c.args.spaces.now in
    let q = c.args.query.now in
    let operands = c.args.operands.now in
    let enough = if_some (λ list. AreEnough t q.space (λ values. holds operands values q.pattern) list.items) c.in_ok-among.among c.in-Some.list c.in-Some.is c.in_ok-among.ensures in
    IfOk-weaker c.answered.result _ _ (λ found is_all. is_all ∙ (ap (filter (answers s u t q operands)) c.deref.ensures.value ∙ answer_among s u t c.requires.knows q operands c.in-Some.list.items enough)) c.answered.ensures
