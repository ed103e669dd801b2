-- A pattern as a tree (GBBopen Reference Manual, find-instances; the operators are this project's).
use Rattle.std.specs.Prelude.{ℕ, suc, ◌+◌}
use Rattle.bb_pattern.specs.declared.pattern.Relation.{Relation}

mutual
  pub data Tree : Type 0 where
    -- holds of every unit
    all : Tree
    -- all parts hold; at least one part holds; the part does not hold
    and_of : Trees → Tree
    or_of : Trees → Tree
    not_of : Tree → Tree
    -- the value on the ordered dimension is in the relation to the operand
    ordered : Relation → ℕ → ℕ → Tree
    -- the value on the enumerated dimension equals the operand
    is_label : ℕ → ℕ → Tree

  pub data Trees : Type 0 where
    no_more : Trees
    more : Tree → Trees → Trees

-- the number of nodes
abbrev mutual
  pub node_count : Tree → ℕ
  node_count all = 1
  node_count (and_of ps) = suc (nodes_count ps)
  node_count (or_of ps) = suc (nodes_count ps)
  node_count (not_of p) = suc (node_count p)
  node_count (ordered relation dim operand) = 1
  node_count (is_label dim operand) = 1

  pub nodes_count : Trees → ℕ
  nodes_count no_more = 0
  nodes_count (more p ps) = node_count p + nodes_count ps
