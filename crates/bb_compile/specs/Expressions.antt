-- Expressions, sequences and patterns, with room for `room` values on the stack.
use Rattle.std.specs.Prelude.{ℕ, ◌-◌, List, [], ◌∷◌, length, Option, Some, None, Result, Ok, Err}
use Rattle.bb_basis.specs.Results.{◌>>=◌}
use Rattle.bb_pattern.specs.Trees.{Tree, Trees, no_more}
use Rattle.bb_pattern.specs.Trees as nodes
use Rattle.bb_code.specs.declared.frame.Kind.TheVariants.{Int}
use Rattle.bb_code.specs.declared.op.Op.TheVariants.{Size}
use Rattle.bb_schema.specs.Schema.{Schema, class_named, space_named}
use Rattle.bb_lang.specs.Step.{Step as OneStep}
use Rattle.bb_lang.specs.Step.TheVariants.{Apply, Divide}
use Rattle.bb_lang.specs.Trees.{ExprTree, Steps, SequenceTree, PatternTree, Patterns, atom, unary, binary, chain, size_of, no_step, apply, divide, found, linked, all, and_of, or_of, not_of, test, no_pattern, more}
use Rattle.bb_compile_scope.specs.declared.fault.CompileFault.{CompileFault}
use Rattle.bb_compile.specs.declared.asked.Asked.{Asked}
use Rattle.bb_compile_buffer.specs.declared.buffer.Buffer.{Buffer}
use Rattle.bb_compile_buffer.specs.Buffers.{Step, Change, known, put}
use Rattle.bb_compile_buffer.specs.Operations.{Made, unary_code, binary_code, operator_code, division_code}
use Rattle.bb_compile_buffer.specs.Atoms.{atom_code}
use Rattle.bb_compile.specs.Queries.{Patterned, no_operand, node_counted, node_noted, test_code, query_code, links_code}

-- each emits its parts from the left, and then its op
unfoldable mutual
  pub expr_code : Schema → (room : ℕ) → ExprTree → Step Made
  expr_code schema room (atom a) s = atom_code schema room a s
  expr_code schema room (unary operation e) s = do
    (kind, t) ← expr_code schema room e s
    unary_code operation kind t
  expr_code schema room (binary operation l r) s = do
    (left, t) ← expr_code schema room l s
    (right, u) ← expr_code schema (room - 1) r t
    binary_code operation left right u
  expr_code schema room (chain first steps) s = do
    (kind, t) ← expr_code schema room first s
    steps_code schema room kind steps t
  expr_code schema room (size_of sequence) s = do
    (class, t) ← sequence_code schema room sequence s
    u ← put Size t
    Ok (Some Int, u)

  -- the steps of a chain, after its first operand
  pub steps_code : Schema → (room : ℕ) → (left : Made) → Steps → Step Made
  steps_code schema room left no_step s = Ok (left, s)
  steps_code schema room left (apply operator e steps) s = do
    (right, t) ← expr_code schema (room - 1) e s
    (kind, u) ← operator_code operator left right t
    steps_code schema room kind steps u
  steps_code schema room left (divide division divisor steps) s = do
    (kind, t) ← division_code division divisor left s
    steps_code schema room kind steps t

  -- a sequence, and the class of its units
  pub sequence_code : Schema → (room : ℕ) → SequenceTree → Step (Option ℕ)
  sequence_code schema room (linked unit slot) s = links_code schema unit slot room s
  sequence_code schema room (found class space p) s = do
    (pattern, asked, t) ← pattern_code schema room (space_named schema space) p no_operand
        (known (space_named schema space) (known (class_named schema class) s))
    query_code (class_named schema class) (space_named schema space) asked pattern room t

  -- a pattern, after the operands that its query has so far
  pub pattern_code : Schema → (room : ℕ) → (space : Option ℕ) → PatternTree → Asked → Buffer → Result (Patterned Tree) CompileFault
  pattern_code schema room space all asked s = Ok (nodes.all, node_counted asked, node_noted asked s)
  pattern_code schema room space (and_of ps) asked s = do
    (parts, after, t) ← patterns_code schema room space ps (node_counted asked) (node_noted asked s)
    Ok (nodes.and_of parts, after, t)
  pattern_code schema room space (or_of ps) asked s = do
    (parts, after, t) ← patterns_code schema room space ps (node_counted asked) (node_noted asked s)
    Ok (nodes.or_of parts, after, t)
  pattern_code schema room space (not_of p) asked s = do
    (part, after, t) ← pattern_code schema room space p (node_counted asked) (node_noted asked s)
    Ok (nodes.not_of part, after, t)
  pattern_code schema room space (test dim relation e) asked s = do
    (operand, t) ← expr_code schema (room - length asked.kinds) e (node_noted asked s)
    Ok (test_code schema space dim relation operand (node_counted asked) t)

  pub patterns_code : Schema → (room : ℕ) → (space : Option ℕ) → Patterns → Asked → Buffer → Result (Patterned Trees) CompileFault
  patterns_code schema room space no_pattern asked s = Ok (no_more, asked, s)
  patterns_code schema room space (more p ps) asked s = do
    (first, after, t) ← pattern_code schema room space p asked s
    (others, last, u) ← patterns_code schema room space ps after t
    Ok (nodes.more first others, last, u)

-- a step of a chain
abbrev pub step_code : Schema → (room : ℕ) → (left : Made) → OneStep → Step Made
step_code schema room left (Apply operator e) s = do
  (right, t) ← expr_code schema (room - 1) e s
  operator_code operator left right t
step_code schema room left (Divide division divisor) s = division_code division divisor left s
