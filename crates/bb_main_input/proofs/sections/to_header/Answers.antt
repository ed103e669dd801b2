use Rattle.std.proofs.Common.{rules, ap, sym, ◌∙◌, length}
use Rattle.std.specs.Option.{is_some}
use Rattle.bb_main_input.specs.proving.Cuts.{Begins}
use Rattle.std.proofs.lemmas.Bool.{eqb-true}
use Rattle.bb_main_input.proofs.HeaderLemmas.{passed-more, none_from, begins-nil, begins-header, before-cut, cut-at, some_from}
use Rattle.bb_main_input.proofs.sections.to_header.Goals as goal
use Rattle.bb_main_input.proofs.sections.to_header.Goals.{else-loop-line-test, then-loop-line-test+then-is_some}

pub loop-line-preserved : goal.loop-line-preserved
loop-line-preserved c =
    let some = some_from (length c.loop-line.rest.now) c.loop-line-test.ensures in (
      search rules,
      passed-more c.args.text.now c.loop-line.rest.now c.first_line.result.0.now c.first_line.result.1.now c.loop-line.invariant.1 c.first_line.ensures.joined (c.first_line.ensures.first some) (sym c.header_of.ensures ∙ none_from c.header_of.result (sym c.is_some.ensures ∙ c.if-is_some.false)),
    )

pub range-requires-clause-end_boundary : goal.range-requires-clause-end_boundary
range-requires-clause-end_boundary c = cut-at c.args.text.now c.loop-line.rest.now c.loop-line.invariant.1 c.loop-line.invariant.0

pub returns : goal.returns
returns c =
    let begins : Begins c.loop-line.rest.now = elim c.loop-line-test.branch [
      | else-loop-line-test w ↦ begins-nil c.loop-line.rest.now (eqb-true (length c.loop-line.rest.now) 0 (sym w.loop-line-test.ensures))
      | then-loop-line-test+then-is_some w ↦ begins-header c.loop-line.rest.now w.first_line.result.0.now w.first_line.result.1.now (w.first_line.ensures.first (some_from (length c.loop-line.rest.now) w.loop-line-test.ensures)) (ap is_some (sym w.header_of.ensures) ∙ (sym w.is_some.ensures ∙ w.if-is_some.true))
    ] in
    record {
      before = c.range.ensures.value ∙ before-cut c.args.text.now c.loop-line.rest.now c.loop-line.invariant.1 begins;
      parts = c.loop-line.invariant.1.parts_is;
      begins = begins;
    }
