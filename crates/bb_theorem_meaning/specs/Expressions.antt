-- The values of expressions, sequences and patterns, with the values of names and the state of the blackboard given.
use Rattle.std.specs.Prelude.{ℕ, pos, List, [], ◌∷◌, ◌++◌, length, Ok}
use Rattle.bb_basis.specs.Results.{◌>>=◌, ok_or, try_map}
use Rattle.bb_pattern.specs.declared.pattern.Relation.TheVariants as holding
use Rattle.bb_pattern.specs.Trees.{Tree, Trees, no_more, ordered, is_label}
use Rattle.bb_pattern.specs.Trees as patterns
use Rattle.bb_pattern.specs.declared.value.DimValue.{DimValue}
use Rattle.bb_query.specs.Answer.{answer}
use Rattle.bb_schema.specs.Schema.{class_named, space_named, label_set_named, label_named, dims_of}
use Rattle.bb_lang.specs.Atom.{Atom}
use Rattle.bb_lang.specs.Atom.TheVariants as atoms
use Rattle.bb_lang.specs.Relation.{Relation}
use Rattle.bb_lang.specs.Relation.TheVariants as relations
use Rattle.bb_lang.specs.Trees.{ExprTree, Steps, SequenceTree, PatternTree, Patterns, atom, unary, binary, chain, size_of, no_step, apply, divide, found, linked, all, and_of, or_of, not_of, test, no_pattern, more}
use Rattle.bb_compile_scope.specs.Scope.{name_of}
use Rattle.bb_compile_scope.specs.Slots.{index_of}
use Rattle.bb_board.specs.Board.{Board}
use Rattle.bb_machine.specs.Value.{operand_of}
use Rattle.bb_machine.specs.declared.value.Value.{Value}
use Rattle.bb_machine.specs.declared.value.Value.TheVariants.{Int, Text, Bool as Truth, Label}
use Rattle.bb_theorem_meaning.specs.Meaning.{Meaning, Name, meaningless, named}
use Rattle.bb_theorem_meaning.specs.Values.{unary_value, binary_value, operator_value, division_value}
use Rattle.bb_theorem_meaning.specs.Units.{value_in, linked_units}

-- ---- expressions without parts

-- a label of a set
unfoldable pub label : Board → (set label : List ℕ) → Meaning Value
label b set name = do
  number ← ok_or (label_set_named b.schema set) meaningless
  label ← ok_or (label_named b.schema number name) meaningless
  Ok (Label number label)

unfoldable pub atom_value : Board → List Name → Atom → Meaning Value
atom_value b names (atoms.Int n) = Ok (Int n)
atom_value b names (atoms.Text text) = Ok (Text text)
atom_value b names (atoms.Bool truth) = Ok (Truth truth)
atom_value b names (atoms.Label set name) = label b set name
atom_value b names (atoms.Variable v) = named (name_of v) names
atom_value b names (atoms.Slot unit slot) = value_in b names unit slot

-- ---- queries

-- a test of a dimension by an operand, both by number
abbrev pub tested : Relation → (dim operand : ℕ) → Tree
tested relations.Within = ordered holding.Within
tested relations.Covers = ordered holding.Covers
tested relations.Overlaps = ordered holding.Overlaps
tested relations.Less = ordered holding.Less
tested relations.More = ordered holding.More
tested relations.Is = is_label

-- a value as an operand: an interval or a label
abbrev pub operand : Value → Meaning DimValue
operand v = ok_or (operand_of v) meaningless

-- the units of a class in a space that match a pattern with these operands
abbrev pub found_units : Board → (class space : ℕ) → Tree → List DimValue → List ℕ
found_units b class space pattern operands =
    answer b.schema b.world.units b.world.spaces
    (record { class = class; space = space; kinds = []; pattern = pattern }) operands

-- ---- expressions, sequences and patterns, from the left

unfoldable mutual
  pub value_of : Board → List Name → ExprTree → Meaning Value
  value_of b names (atom a) = atom_value b names a
  value_of b names (unary operation e) = value_of b names e >>= unary_value operation
  value_of b names (binary operation l r) = do
    left ← value_of b names l
    right ← value_of b names r
    binary_value operation left right
  value_of b names (chain first steps) = value_of b names first >>= λ v. after_steps b names steps v
  value_of b names (size_of sequence) = units_of b names sequence >>= λ units. Ok (Int (pos (length units)))

  -- a value after the steps of a chain
  pub after_steps : Board → List Name → Steps → Value → Meaning Value
  after_steps b names no_step v = Ok v
  after_steps b names (apply operator e steps) v = do
    right ← value_of b names e
    next ← operator_value operator v right
    after_steps b names steps next
  after_steps b names (divide division divisor steps) v = do
    next ← division_value division divisor v
    after_steps b names steps next

  -- the units of a sequence, in order
  pub units_of : Board → List Name → SequenceTree → Meaning (List ℕ)
  units_of b names (linked unit slot) = linked_units b names unit slot
  units_of b names (found class space p) = do
    c ← ok_or (class_named b.schema class) meaningless
    s ← ok_or (space_named b.schema space) meaningless
    (pattern, values) ← pattern_of b names s p []
    operands ← try_map operand values
    Ok (found_units b c s pattern operands)

  -- a pattern; its operands are numbered after the values of the operands before it
  pub pattern_of : Board → List Name → (space : ℕ) → PatternTree → List Value → Meaning (Tree × List Value)
  pattern_of b names space all before = Ok (patterns.all, before)
  pattern_of b names space (and_of ps) before = do
    (parts, values) ← patterns_of b names space ps before
    Ok (patterns.and_of parts, values)
  pattern_of b names space (or_of ps) before = do
    (parts, values) ← patterns_of b names space ps before
    Ok (patterns.or_of parts, values)
  pattern_of b names space (not_of p) before = do
    (part, values) ← pattern_of b names space p before
    Ok (patterns.not_of part, values)
  pattern_of b names space (test dimension relation e) before = do
    v ← value_of b names e
    index ← ok_or (index_of (dims_of b.schema space) dimension) meaningless
    Ok (tested relation index (length before), before ++ v ∷ [])

  pub patterns_of : Board → List Name → (space : ℕ) → Patterns → List Value → Meaning (Trees × List Value)
  patterns_of b names space no_pattern before = Ok (no_more, before)
  patterns_of b names space (more p ps) before = do
    (first, values) ← pattern_of b names space p before
    (others, last) ← patterns_of b names space ps values
    Ok (patterns.more first others, last)
