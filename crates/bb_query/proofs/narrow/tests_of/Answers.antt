use Rattle.std.proofs.Common.{◌≡◌, sym, ap, ◌∙◌}
use Rattle.std.proofs.lemmas.Result.{IfOk-weaker}
use Rattle.bb_pattern.specs.Trees.{and_of}
use Rattle.bb_pattern.specs.View.{tree_of, trees_of}
use Rattle.bb_query.proofs.NarrowLemmas.{and_asked}
use Rattle.bb_query.proofs.narrow.tests_of.Goals as goal

pub returns-in-And : goal.returns-in-And
returns-in-And c =
    let parts : and_of (trees_of c.as_slice.result.now) ≡ c.args.pattern.now = ap (λ ps. and_of (trees_of ps)) c.as_slice.ensures.value ∙ (sym (ap tree_of c.in-And.is) ∙ c.node.ensures) in
    IfOk-weaker c.tests_among.result _ _ (λ tests ask. and_asked c.args.operands.now c.args.pattern.now (trees_of c.as_slice.result.now) tests.items parts ask) c.tests_among.ensures
