use Rattle.std.proofs.Common.{◌≡◌, ◌≤◌, List, length, sym, ap, ◌∙◌, subst}
use Rattle.bb_lang_tree.specs.declared.tree.Step.{Step}
use Rattle.bb_lang_tree.specs.View.{expr_of}
use Rattle.bb_compile_scope.specs.Killed.{value_class}
use Rattle.bb_compile_scope.proofs.ChainLemmas.{stepped}
use Rattle.bb_compile_scope.proofs.killed.+value_class.Goals as goal

pub returns-in_default-as_slice : goal.returns-in_default-as_slice
returns-in_default-as_slice t c =
    let some = subst (λ (steps : List Step). 1 ≤ length steps) c.as_slice.ensures.value c.in_default-as_slice.len_at_least in
    stepped c.args.scope.now c.in-Chain.first.value c.in-Chain.steps.items some
    ∙ ap (value_class c.args.scope.now) (ap expr_of (sym c.in-Chain.is) ∙ c.node.ensures)
