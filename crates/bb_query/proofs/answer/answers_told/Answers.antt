use Rattle.std.proofs.Common.{◌∙◌, sym}
use Rattle.bb_query.proofs.MemberLemmas.{fails_told, passes_told}
use Rattle.bb_query.proofs.answer.answers_told.Goals as goal

pub returns-then-not-holds : goal.returns-then-not-holds
returns-then-not-holds c =
    let asked = c.args.search.now in
    sym (fails_told asked.schema.now asked.units.now asked.spaces.now c.requires.suits.knows asked.query.now asked.operands.now c.args.unit c.args.values.now c.requires.told (sym c.holds.ensures ∙ c.if-not-holds.true))

pub returns-then-sure : goal.returns-then-sure
returns-then-sure c =
    let asked = c.args.search.now in
    let passes = passes_told asked.schema.now asked.units.now asked.spaces.now c.requires.suits.knows asked.query.now asked.operands.now c.args.unit c.args.values.now c.requires.told (sym c.holds.ensures ∙ c.if-not-holds.false) in
    sym (passes ∙ c.requires.sure c.if-sure.true c.args.unit c.args.values.now c.requires.told)

pub returns : goal.returns
returns c =
    let asked = c.args.search.now in
    let passes = passes_told asked.schema.now asked.units.now asked.spaces.now c.requires.suits.knows asked.query.now asked.operands.now c.args.unit c.args.values.now c.requires.told (sym c.holds.ensures ∙ c.if-not-holds.false) in
    c.is_of_class.ensures ∙ sym passes
