-- An expression or a pattern has more nodes than any of its parts.
use Rattle.std.specs.Prelude.{◌+◌, ◌≤◌, max, List, [], ◌∷◌}
use Rattle.std.proofs.Common.{arith}
use denote.Param.Weighed.{most}
use Rattle.bb_lang_tree.specs.declared.tree.ExprNode.{ExprNode}
use Rattle.bb_lang_tree.specs.declared.tree.ExprNode.TheVariants as exprs
use Rattle.bb_lang_tree.specs.declared.tree.Step.{Step}
use Rattle.bb_lang_tree.specs.declared.tree.Step.TheVariants as stepping
use Rattle.bb_lang_tree.specs.declared.tree.Sequence.{Sequence}
use Rattle.bb_lang_tree.specs.declared.tree.Sequence.TheVariants.{Find, Links}
use Rattle.bb_lang_tree.specs.declared.tree.PatternNode.{PatternNode}
use Rattle.bb_lang_tree.specs.declared.tree.PatternNode.TheVariants.{All, And, Or, Not, Test}
use Rattle.bb_lang_tree.specs.declared.tree.Expr.TheDeep.{deep-ExprNode, deep-Step, deep-Sequence, deep-PatternNode}
use Rattle.bb_lang_tree.specs.Trees.{PatternTree}
use Rattle.bb_lang_tree.specs.View.{expr_of, steps_of, sequence_of, patterns_of, pattern_of}
use Rattle.bb_lang_tree.specs.proving.Rose.{nodes, all_nodes}
use Rattle.bb_lang_tree.specs.proving.Codes.{step_roses, sequence_rose, pattern_roses, expr_size, pattern_size}

steps_below : (steps : List Step) → most deep-Step steps ≤ all_nodes (step_roses (steps_of steps))
steps_below [] = omega arith
steps_below (stepping.Apply operator operand ∷ steps) = omega (arith, steps_below steps)
steps_below (stepping.Divide division divisor ∷ steps) = omega (arith, steps_below steps)

sequence_below : (s : Sequence) → deep-Sequence s ≤ nodes (sequence_rose (sequence_of s))
sequence_below (Find class space pattern) = omega arith
sequence_below (Links unit slot) = omega arith

-- no pattern of a list has more nodes than all of them together; one is added on both sides
parts_below : (ps : List PatternTree) → most (λ p. pattern_size p + 1) ps ≤ all_nodes (pattern_roses (patterns_of ps)) + 1
parts_below [] = omega arith
parts_below (p ∷ ps) = omega (arith, parts_below ps)

pub expr_falls : (n : ExprNode) → max (deep-ExprNode n) 0 ≤ expr_size (expr_of n)
expr_falls (exprs.Atom a) = omega arith
expr_falls (exprs.Unary operation operand) = omega arith
expr_falls (exprs.Binary operation left right) = omega arith
expr_falls (exprs.Chain first steps) = omega (arith, steps_below steps.items)
expr_falls (exprs.Size sequence) = omega (arith, sequence_below sequence.value)

pub pattern_falls : (n : PatternNode) → max (deep-PatternNode n) 0 ≤ pattern_size (pattern_of n)
pattern_falls All = omega arith
pattern_falls (And parts) = omega (arith, parts_below parts.items)
pattern_falls (Or parts) = omega (arith, parts_below parts.items)
pattern_falls (Not part) = omega arith
pattern_falls (Test dimension relation operand) = omega arith
