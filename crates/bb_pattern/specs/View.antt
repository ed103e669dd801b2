-- The trees of patterns.
use Rattle.std.specs.Prelude.{List, [], ◌∷◌}
use Rattle.bb_pattern.specs.declared.pattern.Node.{Node}
use Rattle.bb_pattern.specs.declared.pattern.Node.TheVariants.{All, And, Or, Not, Ordered, Is}
use Rattle.bb_pattern.specs.Trees.{Tree, Trees, all, and_of, or_of, not_of, ordered, is_label, no_more, more}

-- the parts of a node, in order
abbrev pub trees_of : List Tree → Trees
trees_of [] = no_more
trees_of (p ∷ ps) = more p (trees_of ps)

abbrev pub tree_of : Node → Tree
tree_of All = all
tree_of (And parts) = and_of (trees_of parts.items)
tree_of (Or parts) = or_of (trees_of parts.items)
tree_of (Not part) = not_of part.value
tree_of (Ordered relation dim operand) = ordered relation dim operand
tree_of (Is dim operand) = is_label dim operand
