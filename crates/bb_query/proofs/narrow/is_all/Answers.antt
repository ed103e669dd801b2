use Rattle.std.proofs.Common.{◌≡◌, ◌∙◌, sym, ap}
use Rattle.bb_pattern.specs.Trees.{and_of}
use Rattle.bb_pattern.specs.View.{tree_of, trees_of}
use Rattle.bb_query.proofs.NarrowLemmas.{all_holds, none_asked}
use Rattle.bb_query.proofs.narrow.is_all.Goals as goal

pub returns-in-All : goal.returns-in-All
returns-in-All c = λ is. all_holds c.args.pattern.now (sym (ap tree_of c.in-All.is) ∙ c.node.ensures)

pub returns-in-And : goal.returns-in-And
returns-in-And c = λ is.
    let parts : and_of (trees_of c.as_slice.result.now) ≡ c.args.pattern.now = ap (λ ps. and_of (trees_of ps)) c.as_slice.ensures.value ∙ (sym (ap tree_of c.in-And.is) ∙ c.node.ensures) in
    none_asked c.args.pattern.now c.as_slice.result.now parts (sym c.is_empty.ensures ∙ is)
