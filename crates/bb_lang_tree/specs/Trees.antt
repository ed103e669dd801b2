-- Expressions, sequences and patterns as trees.
use Rattle.std.specs.Prelude.{ℤ, List, ℕ}
use Rattle.bb_lang_tree.specs.declared.atom.Atom.{Atom}
use Rattle.bb_lang_tree.specs.declared.atom.Unary.{Unary}
use Rattle.bb_lang_tree.specs.declared.atom.Binary.{Binary}
use Rattle.bb_lang_tree.specs.declared.atom.Operator.{Operator}
use Rattle.bb_lang_tree.specs.declared.atom.Division.{Division}
use Rattle.bb_lang_tree.specs.declared.atom.Relation.{Relation}
use Rattle.bb_lang_tree.specs.declared.atom.Variable.{Variable}

mutual
  pub data ExprTree : Type 0 where
    -- an expression without parts
    atom : Atom → ExprTree
    -- an operation on one operand, or on two
    unary : Unary → ExprTree → ExprTree
    binary : Binary → ExprTree → ExprTree → ExprTree
    -- operands with operators of one level between them, grouped from the left
    chain : ExprTree → Steps → ExprTree
    -- the number of units in a sequence
    size_of : SequenceTree → ExprTree

  pub data Steps : Type 0 where
    no_step : Steps
    -- an operator with its operand; a division by a number
    apply : Operator → ExprTree → Steps → Steps
    divide : Division → ℤ → Steps → Steps

  pub data SequenceTree : Type 0 where
    -- the units of a class in a space for which the pattern holds
    found : (class space : List ℕ) → PatternTree → SequenceTree
    -- the units that a unit is linked to
    linked : Variable → (slot : List ℕ) → SequenceTree

  pub data PatternTree : Type 0 where
    -- holds for every unit
    all : PatternTree
    -- every part holds; at least one part holds; the part does not hold
    and_of : Patterns → PatternTree
    or_of : Patterns → PatternTree
    not_of : PatternTree → PatternTree
    -- the value on the dimension is in the relation to the operand
    test : (dimension : List ℕ) → Relation → ExprTree → PatternTree

  pub data Patterns : Type 0 where
    no_pattern : Patterns
    more : PatternTree → Patterns → Patterns
