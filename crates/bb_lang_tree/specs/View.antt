-- The trees that values of `Expr`, `Sequence` and `Pattern` stand for.
use Rattle.std.specs.Prelude.{List, [], ◌∷◌}
use Rattle.bb_lang_tree.specs.declared.tree.ExprNode.{ExprNode}
use Rattle.bb_lang_tree.specs.declared.tree.ExprNode.TheVariants as exprs
use Rattle.bb_lang_tree.specs.declared.tree.Step.{Step}
use Rattle.bb_lang_tree.specs.declared.tree.Step.TheVariants as stepping
use Rattle.bb_lang_tree.specs.declared.tree.Sequence.{Sequence}
use Rattle.bb_lang_tree.specs.declared.tree.Sequence.TheVariants.{Find, Links}
use Rattle.bb_lang_tree.specs.declared.tree.PatternNode.{PatternNode}
use Rattle.bb_lang_tree.specs.declared.tree.PatternNode.TheVariants.{All, And, Or, Not, Test}
use Rattle.bb_lang_tree.specs.Trees.{ExprTree, Steps, SequenceTree, PatternTree, Patterns, atom, unary, binary, chain, size_of, no_step, apply, divide, found, linked, all, and_of, or_of, not_of, test, no_pattern, more}

-- the steps of a chain, in order
abbrev pub steps_of : List Step → Steps
steps_of [] = no_step
steps_of (stepping.Apply operator operand ∷ steps) = apply operator operand (steps_of steps)
steps_of (stepping.Divide division divisor ∷ steps) = divide division divisor (steps_of steps)

abbrev pub sequence_of : Sequence → SequenceTree
sequence_of (Find class space pattern) = found class space pattern
sequence_of (Links unit slot) = linked unit slot

abbrev pub expr_of : ExprNode → ExprTree
expr_of (exprs.Atom a) = atom a
expr_of (exprs.Unary operation operand) = unary operation operand.value
expr_of (exprs.Binary operation left right) = binary operation left.value right.value
expr_of (exprs.Chain first steps) = chain first.value (steps_of steps.items)
expr_of (exprs.Size sequence) = size_of (sequence_of sequence.value)

-- the parts of a pattern, in order
abbrev pub patterns_of : List PatternTree → Patterns
patterns_of [] = no_pattern
patterns_of (p ∷ ps) = more p (patterns_of ps)

abbrev pub pattern_of : PatternNode → PatternTree
pattern_of All = all
pattern_of (And parts) = and_of (patterns_of parts.items)
pattern_of (Or parts) = or_of (patterns_of parts.items)
pattern_of (Not part) = not_of part.value
pattern_of (Test dimension relation operand) = test dimension relation operand
