use Rattle.std.proofs.Common.{◌∙◌, sym, ap, length}
use Rattle.std.specs.FinMap.{len-entries, entries}
use Rattle.std.proofs.lemmas.List.{length-map}
use Rattle.std.proofs.lemmas.Option.{IfSome_then}
use Rattle.bb_space.specs.Spaces.{membership}
use Rattle.bb_query.proofs.AnswerLemmas.{test_answers}
use Rattle.bb_query.proofs.FitLemmas.{fitting_space}
use Rattle.bb_query.proofs.answer.counted.Goals as goal

pub member_count-member_count-requires : goal.member_count-member_count-requires
member_count-member_count-requires c =
    let asked = c.args.search.now in
    fitting_space asked.schema.now asked.spaces.now asked.query.now c.requires.knows.spaces c.requires.fits

pub count_passing-requires : goal.count_passing-requires
count_passing-requires c =
    let asked = c.args.search.now in
    fitting_space asked.schema.now asked.spaces.now asked.query.now c.requires.knows.spaces c.requires.fits

pub returns-then-answers_all : goal.returns-then-answers_all
returns-then-answers_all c =
    let asked = c.args.search.now in
    let all = membership asked.spaces.now asked.query.now.space in
    c.member_count-member_count.ensures ∙ (len-entries all ∙ (sym (length-map (entries all) (λ e. e.0)) ∙ ap length (sym (c.answers_all.ensures c.if-answers_all.true))))

pub returns : goal.returns
returns c =
    let asked = c.args.search.now in
    let test = c.in_ok-test.test in
    let asks = c.in_ok-test.ensures in
    IfSome_then c.count_passing.result c.count_passing.ensures (λ n is. is ∙ ap length (test_answers asked.schema.now asked.units.now asked.spaces.now c.requires.knows asked.query.now asked.operands.now test asks (c.is_sure-sure.ensures c.if-not-sure.false)))
