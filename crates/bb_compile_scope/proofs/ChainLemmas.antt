-- A chain with a step is no name.
use Rattle.std.proofs.Common.{◌≡◌, ◌≤◌, List, [], ◌∷◌, length, None, refl, arith}
use Rattle.bb_lang_tree.specs.declared.tree.Step.{Step}
use Rattle.bb_lang_tree.specs.declared.tree.Step.TheVariants.{Apply, Divide}
use Rattle.bb_lang_tree.specs.Trees.{ExprTree, chain}
use Rattle.bb_lang_tree.specs.View.{steps_of}
use Rattle.bb_compile_scope.specs.declared.scope.Scope.{Scope}
use Rattle.bb_compile_scope.specs.Killed.{value_class}

pub stepped : (scope : Scope) (first : ExprTree) (steps : List Step) → 1 ≤ length steps → None ≡ value_class scope (chain first (steps_of steps))
stepped scope first [] some = absurd (omega (arith, some))
stepped scope first (Apply operator e ∷ steps) some = refl
stepped scope first (Divide division divisor ∷ steps) some = refl
