-- The parts of a node, and how many there are.
use Rattle.std.proofs.Common.{◌≡◌, suc, ◌-◌, ◌<◌, ◌≤◌, List, [], ◌∷◌, length, refl, ap, arith}
use Rattle.bb_pattern.specs.Trees.{Tree, all, and_of, or_of, not_of, ordered, is_label, node_count, nodes_count}
use Rattle.bb_pattern.specs.View.{trees_of}
use Rattle.bb_code.specs.Spelling.{part_count}

pub few_of_and : (p : Tree) (parts slice : List Tree) → and_of (trees_of parts) ≡ p → slice ≡ parts → nodes_count (trees_of slice) < node_count p
few_of_and p parts slice is same = rw (← is, same) (omega arith)

pub few_of_or : (p : Tree) (parts slice : List Tree) → or_of (trees_of parts) ≡ p → slice ≡ parts → nodes_count (trees_of slice) < node_count p
few_of_or p parts slice is same = rw (← is, same) (omega arith)

-- the number of the parts is the length of their list
pub part_count-length : (parts : List Tree) → part_count (trees_of parts) ≡ length parts
part_count-length [] = refl
part_count-length (p ∷ ps) = ap suc (part_count-length ps)

-- no pattern is without nodes
some_nodes : (p : Tree) → 0 < node_count p
some_nodes all = omega arith
some_nodes (and_of ps) = omega arith
some_nodes (or_of ps) = omega arith
some_nodes (not_of p) = omega arith
some_nodes (ordered relation dim operand) = omega arith
some_nodes (is_label dim operand) = omega arith

-- there are no more parts than nodes in them
pub few_parts : (parts : List Tree) → length parts ≤ nodes_count (trees_of parts)
few_parts [] = omega arith
few_parts (p ∷ ps) = omega (arith, some_nodes p, few_parts ps)
