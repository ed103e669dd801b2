-- Expressions, sequences and patterns: the kind of an expression, if it is known, the class of the units of a sequence,
-- and the flaws of each in order, with room for `room` values on the stack.
use Rattle.std.specs.Prelude.{ℕ, ◌-◌, List, [], ◌++◌, Option, Some}
use Rattle.bb_code.specs.declared.frame.Kind.{Kind}
use Rattle.bb_code.specs.declared.frame.Kind.TheVariants.{Int}
use Rattle.bb_schema.specs.Schema.{Schema, class_named, space_named}
use Rattle.bb_lang.specs.Trees.{ExprTree, Steps, SequenceTree, PatternTree, Patterns, atom, unary, binary, chain, size_of, no_step, apply, divide, found, linked, all, and_of, or_of, not_of, test, no_pattern, more}
use Rattle.bb_compile_scope.specs.declared.fault.TextFlaw.{TextFlaw}
use Rattle.bb_theorem_grammar.specs.judged.Atoms.{unit_flaws, atom_kind, atom_flaws}
use Rattle.bb_theorem_grammar.specs.judged.Flaws.{if_unknown, if_other}
use Rattle.bb_theorem_grammar.specs.judged.Names.{Names, unit_class}
use Rattle.bb_theorem_grammar.specs.judged.Operations.{unary_wants, unary_gives, if_either_other, binary_flaws, binary_gives, operator_kind, division_flaws}
use Rattle.bb_theorem_grammar.specs.judged.Queries.{Counts, no_operand, node_counted, node_flaws, test_counted, test_flaws, found_flaws, linked_class, linked_flaws}

-- ---- kinds and classes

-- after the steps of a chain
abbrev pub steps_kind : (left : Option Kind) → Steps → Option Kind
steps_kind left no_step = left
steps_kind left (apply operator e steps) = steps_kind (Some (operator_kind operator)) steps
steps_kind left (divide division divisor steps) = steps_kind (Some Int) steps

abbrev pub expr_kind : Schema → Names → ExprTree → Option Kind
expr_kind schema names (atom a) = atom_kind schema names a
expr_kind schema names (unary operation e) = Some (unary_gives operation)
expr_kind schema names (binary operation l r) = Some (binary_gives operation)
expr_kind schema names (chain first steps) = steps_kind (expr_kind schema names first) steps
expr_kind schema names (size_of sequence) = Some Int

abbrev pub sequence_class : Schema → Names → SequenceTree → Option ℕ
sequence_class schema names (linked unit slot) = linked_class schema (unit_class names unit) slot
sequence_class schema names (found class space p) = class_named schema class

-- ---- the counts after a pattern, from the counts before it

unfoldable mutual
  pub pattern_counted : Schema → (space : Option ℕ) → PatternTree → Counts → Counts
  pattern_counted schema space all c = node_counted c
  pattern_counted schema space (and_of ps) c = patterns_counted schema space ps (node_counted c)
  pattern_counted schema space (or_of ps) c = patterns_counted schema space ps (node_counted c)
  pattern_counted schema space (not_of p) c = pattern_counted schema space p (node_counted c)
  pattern_counted schema space (test dim relation e) c = test_counted schema space dim relation (node_counted c)

  pub patterns_counted : Schema → (space : Option ℕ) → Patterns → Counts → Counts
  patterns_counted schema space no_pattern c = c
  patterns_counted schema space (more p ps) c = patterns_counted schema space ps (pattern_counted schema space p c)

-- ---- flaws

unfoldable mutual
  pub expr_flaws : Schema → Names → (room : ℕ) → ExprTree → List TextFlaw
  expr_flaws schema names room (atom a) = atom_flaws schema names room a
  expr_flaws schema names room (unary operation e) =
      expr_flaws schema names room e ++ if_other (expr_kind schema names e) (unary_wants operation)
  expr_flaws schema names room (binary operation l r) =
      expr_flaws schema names room l ++ (expr_flaws schema names (room - 1) r
      ++ binary_flaws operation (expr_kind schema names l) (expr_kind schema names r))
  expr_flaws schema names room (chain first steps) =
      expr_flaws schema names room first ++ steps_flaws schema names room (expr_kind schema names first) steps
  expr_flaws schema names room (size_of sequence) = sequence_flaws schema names room sequence

  -- the steps of a chain, after its first operand
  pub steps_flaws : Schema → Names → (room : ℕ) → (left : Option Kind) → Steps → List TextFlaw
  steps_flaws schema names room left no_step = []
  steps_flaws schema names room left (apply operator e steps) =
      expr_flaws schema names (room - 1) e ++ (if_either_other left (expr_kind schema names e) (operator_kind operator)
      ++ steps_flaws schema names room (Some (operator_kind operator)) steps)
  steps_flaws schema names room left (divide division divisor steps) =
      division_flaws divisor left ++ steps_flaws schema names room (Some Int) steps

  pub sequence_flaws : Schema → Names → (room : ℕ) → SequenceTree → List TextFlaw
  sequence_flaws schema names room (linked unit slot) =
      unit_flaws names room unit ++ linked_flaws schema (unit_class names unit) slot
  sequence_flaws schema names room (found class space p) =
      if_unknown (class_named schema class) ++ (if_unknown (space_named schema space)
      ++ (pattern_flaws schema names room (space_named schema space) p no_operand
      ++ found_flaws (class_named schema class) (space_named schema space) room))

  -- a pattern, with the counts before it
  pub pattern_flaws : Schema → Names → (room : ℕ) → (space : Option ℕ) → PatternTree → Counts → List TextFlaw
  pattern_flaws schema names room space all c = node_flaws c
  pattern_flaws schema names room space (and_of ps) c =
      node_flaws c ++ patterns_flaws schema names room space ps (node_counted c)
  pattern_flaws schema names room space (or_of ps) c =
      node_flaws c ++ patterns_flaws schema names room space ps (node_counted c)
  pattern_flaws schema names room space (not_of p) c =
      node_flaws c ++ pattern_flaws schema names room space p (node_counted c)
  pattern_flaws schema names room space (test dim relation e) c =
      node_flaws c ++ (expr_flaws schema names (room - c.operands) e
      ++ test_flaws schema space dim relation (expr_kind schema names e) (node_counted c))

  pub patterns_flaws : Schema → Names → (room : ℕ) → (space : Option ℕ) → Patterns → Counts → List TextFlaw
  patterns_flaws schema names room space no_pattern c = []
  patterns_flaws schema names room space (more p ps) c =
      pattern_flaws schema names room space p c
      ++ patterns_flaws schema names room space ps (pattern_counted schema space p c)
