use Rattle.std.proofs.Common.{arith, sym, ap, ◌∙◌}
use Rattle.bb_pattern.specs.View.{tree_of}
use Rattle.bb_pattern.proofs.Parts.{parts_below_and, parts_below_or}
use Rattle.bb_pattern.proofs.+tests.Goals as goal

pub pattern::Pattern::tests_fit-all_tests_fit-requires : goal.pattern::Pattern::tests_fit-all_tests_fit-requires
pattern::Pattern::tests_fit-all_tests_fit-requires t c =
    let below = parts_below_and c.args.self.now c.in-And.parts.items c.as_slice.result.now (sym (ap tree_of c.in-And.is) ∙ c.self.view_is) c.as_slice.ensures.value in
    (omega (arith, below), tt)

pub pattern::Pattern::tests_fit-all_tests_fit-requires-in-Or : goal.pattern::Pattern::tests_fit-all_tests_fit-requires-in-Or
pattern::Pattern::tests_fit-all_tests_fit-requires-in-Or t c =
    let below = parts_below_or c.args.self.now c.in-Or.parts.items c.as_slice-in-Or.result.now (sym (ap tree_of c.in-Or.is) ∙ c.self.view_is) c.as_slice-in-Or.ensures.value in
    (omega (arith, below), tt)
