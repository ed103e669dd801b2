-- A pattern has more nodes than any of its parts.
use Rattle.std.specs.Prelude.{◌+◌, ◌≤◌, max, List, [], ◌∷◌}
use Rattle.std.proofs.Common.{arith}
use denote.Param.Weighed.{most}
use Rattle.bb_pattern.specs.declared.pattern.Node.{Node}
use Rattle.bb_pattern.specs.declared.pattern.Node.TheVariants.{All, And, Or, Not, Ordered, Is}
use Rattle.bb_pattern.specs.declared.pattern.Pattern.TheDeep.{deep-Node}
use Rattle.bb_pattern.specs.Trees.{Tree, node_count, nodes_count}
use Rattle.bb_pattern.specs.View.{tree_of, trees_of}

-- no part has more nodes than all of them together, with one added on both sides
pub most_le-nodes_count : (ps : List Tree) → most (λ p. node_count p + 1) ps ≤ nodes_count (trees_of ps) + 1
most_le-nodes_count [] = omega arith
most_le-nodes_count (p ∷ ps) = omega (arith, most_le-nodes_count ps)

pub falls : (n : Node) → max (deep-Node n) 0 ≤ node_count (tree_of n)
falls All = omega arith
falls (And parts) = omega (arith, most_le-nodes_count parts.items)
falls (Or parts) = omega (arith, most_le-nodes_count parts.items)
falls (Not part) = omega arith
falls (Ordered relation dim operand) = omega arith
falls (Is dim operand) = omega arith

-- no part has more nodes than all of them together
pub most_below : (ps : List Tree) → most node_count ps ≤ nodes_count (trees_of ps)
most_below [] = omega arith
most_below (p ∷ ps) = omega (arith, most_below ps)
