-- What the parts of a node are to the whole, for a recursion that goes over them.
use Rattle.std.proofs.Common.{◌≡◌, ◌+◌, ◌*◌, ◌<◌, ◌≤◌, ℕ, List, [], ◌∷◌, None, arith, refl}
use Rattle.std.proofs.lemmas.Bool.{lt-leb}
use denote.Param.Weighed.{most}
use Rattle.bb_pattern.specs.declared.pattern.Pattern.TheDeep.{size-Pattern}
use Rattle.bb_pattern.specs.Trees.{Tree, all, and_of, or_of, not_of, ordered, is_label, node_count, nodes_count}
use Rattle.bb_pattern.specs.Fits.{left_of, room_after}
use Rattle.bb_pattern.specs.View.{trees_of}

all_below : (parts : List Tree) → most (λ x. size-Pattern x) parts ≤ 2 * nodes_count (trees_of parts) + 2
all_below [] = omega arith
all_below (p ∷ ps) = omega (arith, all_below ps)

pub parts_below_and : (p : Tree) (parts slice : List Tree) → and_of (trees_of parts) ≡ p → slice ≡ parts → most (λ x. size-Pattern x) slice + 2 ≤ size-Pattern p
parts_below_and p parts slice is same = rw (← is, same) (omega (arith, all_below parts))

pub parts_below_or : (p : Tree) (parts slice : List Tree) → or_of (trees_of parts) ≡ p → slice ≡ parts → most (λ x. size-Pattern x) slice + 2 ≤ size-Pattern p
parts_below_or p parts slice is same = rw (← is, same) (omega (arith, all_below parts))

-- no pattern is without nodes
some_nodes : (p : Tree) → 0 < node_count p
some_nodes all = omega arith
some_nodes (and_of ps) = omega arith
some_nodes (or_of ps) = omega arith
some_nodes (not_of p) = omega arith
some_nodes (ordered relation dim operand) = omega arith
some_nodes (is_label dim operand) = omega arith

none_of : (n : ℕ) → 0 < n → None ≡ left_of 0 n
none_of n some = rw (lt-leb n 0 some) refl

pub no_room_after : (p : Tree) (room : ℕ) → room ≡ 0 → None ≡ room_after room p
no_room_after p room is = rw is (none_of (node_count p) (some_nodes p))
