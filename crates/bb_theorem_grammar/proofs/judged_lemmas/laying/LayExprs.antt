-- What expressions, sequences and patterns lay out at most.
use Rattle.std.proofs.Common.{ℕ, ◌-◌, Bool, cond, List, length, Option, Some, None, Result, Ok, Err, refl}
use Rattle.std.specs.Prelude.{nat_le, ◌==◌, int_lt, pos, ℤ}
use Rattle.bb_basis.specs.Results.{◌>>=◌}
use Rattle.bb_code.specs.declared.op.Bound.TheVariants as bounds
use Rattle.bb_code.specs.declared.op.Calculation.TheVariants as calculations
use Rattle.bb_code.specs.declared.op.Comparison.TheVariants as comparisons
use Rattle.bb_code.specs.declared.parts.TheConstants.{TEXT_BYTES_LIMIT}
use Rattle.bb_code.specs.declared.op.Logic.TheVariants as logics
use Rattle.bb_code.specs.PatternLimits.{OPERAND_LIMIT}
use Rattle.bb_code.specs.Trees.{Tree}
use Rattle.bb_schema_classes.specs.declared.kind.Link.{Link}
use Rattle.bb_code.specs.declared.frame.Kind.{Kind}
use Rattle.bb_code.specs.declared.frame.Kind.TheVariants as kinds
use Rattle.bb_code.specs.declared.op.Op.{Op}
use Rattle.bb_code.specs.declared.op.Op.TheVariants as put_ops
use Rattle.bb_verify_effect.specs.Query.{Query}
use Rattle.bb_schema.specs.Schema.{Schema, class_named, space_named, label_set_named, label_named}
use Rattle.bb_lang.specs.Atom.{Atom}
use Rattle.bb_lang.specs.Atom.TheVariants as atoms
use Rattle.bb_lang.specs.Binary.{Binary}
use Rattle.bb_lang.specs.Binary.TheVariants as binaries
use Rattle.bb_lang.specs.Division.{Division}
use Rattle.bb_lang.specs.Operator.{Operator}
use Rattle.bb_lang.specs.Operator.TheVariants as operators
use Rattle.bb_lang.specs.Relation.{Relation}
use Rattle.bb_lang.specs.Trees.{ExprTree, Steps, SequenceTree, PatternTree, Patterns, atom, unary, binary, chain, size_of, no_step, apply, divide, found, linked, all, and_of, or_of, not_of, test, no_pattern, more}
use Rattle.bb_lang.specs.Unary.{Unary}
use Rattle.bb_lang.specs.Unary.TheVariants as unaries
use Rattle.bb_lang.specs.Variable.{Variable}
use Rattle.bb_compile_scope.specs.Kinds.{class_of, is_live, equality}
use Rattle.bb_compile_scope.specs.LocalKinds.{kind_at}
use Rattle.bb_compile_scope.specs.Scope.{name_of, local_of}
use Rattle.bb_compile_scope.specs.Slots.{value_slot, link_slot, dimension}
use Rattle.bb_compile_scope.specs.declared.fault.TextFlaw.{TextFlaw}
use Rattle.bb_compile_scope.specs.declared.fault.TextFlaw.TheVariants.{Unknown, Kind as WrongKind, DeadName, Limit}
use Rattle.bb_compile_buffer.specs.declared.buffer.Buffer.{Buffer}
use Rattle.bb_compile_buffer.specs.Atoms.{pushed, loaded, variable_code, live_unit, unit_of, unit_code, gotten, got_from, slot_code, text_noted, text_code, label_of, label_in, label_code, atom_code}
use Rattle.bb_compile_buffer.specs.Buffers.{noted, due, known, put, put_value, text_index, asked_query}
use Rattle.bb_compile_buffer.specs.Operations.{one_due, two_due, unary_code, equality_by, equality_code, binary_code, operator_code, division_op, divisor_noted, division_code}
use Rattle.bb_compile.specs.declared.asked.Asked.{Asked}
use Rattle.bb_compile.specs.Expressions.{expr_code, steps_code, sequence_code, pattern_code, patterns_code}
use Rattle.bb_compile.specs.Queries.{Patterned, no_operand, node_counted, node_noted, operand_noted, test_at, test_code, query_code, linked_by, linked_from, links_code}
use Rattle.bb_theorem_grammar.specs.judged.Sums.{Sums, plus, nothing, ops, one_text, one_query, atom_sums, expr_sums, steps_sums, sequence_sums, pattern_sums, patterns_sums}
use Rattle.bb_theorem_grammar.proofs.judged_lemmas.laying.LayLemmas.{Adds, Laid, Lays, lays_then, lays_last, adds_none, Counts, counts_same, counts_on, lays_from, adds_to, adds_noted, noted_counts, if_counts, unless_counts, due_counts, known_counts, itself, second, put_lays, put_value_lays, index_lays, asked_lays}

-- ---- values

pushed_lays : (op : Op) (gives : Kind) (room : ℕ) (s : Buffer) → Lays second (ops 1) s (pushed op gives room s)
unfolding pushed
pushed_lays op gives room s = lays_last itself second (ops 1) s (put_value op room s) _ (put_value_lays op room s) (λ t m. m)

loaded_lays : (o : Option ℕ) (room : ℕ) (s : Buffer) → Lays second (ops 1) s (loaded o room s)
loaded_lays None room s free = adds_noted (ops 1) refl s (noted Unknown s) (noted_counts Unknown s)
loaded_lays (Some local) room s free = lays_last itself second (ops 1) s (put_value (put_ops.Load local) room s) (λ t. Ok (Some (kind_at t.scope.kinds local), t)) (put_value_lays (put_ops.Load local) room s) (λ t m. m) free

pub variable_lays : (v : Variable) (room : ℕ) (s : Buffer) → Lays second (ops 1) s (variable_code v room s)
unfolding variable_code
variable_lays v room s = loaded_lays (local_of s.scope (name_of v)) room s

live_laid : (a : Sums) (s : Buffer) (o : Option ℕ) (live : Bool) (t : Buffer) → Adds a s t → Laid second a s (live_unit o live t)
live_laid a s None live t m = adds_to a s t (noted WrongKind t) (noted_counts WrongKind t) m
live_laid a s (Some class) live t m = adds_to a s t (cond live t (noted DeadName t)) (unless_counts live DeadName t) m

of_laid : (a : Sums) (s : Buffer) (made : Option Kind) (t : Buffer) → Adds a s t → Laid second a s (unit_of made t)
of_laid a s None t m = m
of_laid a s (Some kind) t m = live_laid a s (class_of kind) (is_live kind) t m

pub unit_lays : (v : Variable) (room : ℕ) (s : Buffer) → Lays second (ops 1) s (unit_code v room s)
unfolding unit_code
unit_lays v room s = lays_last second second (ops 1) s (variable_code v room s) _ (variable_lays v room s) (λ p m. of_laid (ops 1) s p.0 p.1 m)

gotten_lays : (r : Result (ℕ × Kind) TextFlaw) (s : Buffer) → Lays second (ops 1) s (gotten r s)
gotten_lays (Err flaw) s free = adds_noted (ops 1) refl s (noted flaw s) (noted_counts flaw s)
gotten_lays (Ok slot) s free = lays_last itself second (ops 1) s (put (put_ops.Get slot.0) s) (λ t. Ok (Some slot.1, t)) (put_lays (put_ops.Get slot.0) s) (λ t m. m) free

got_lays : (schema : Schema) (slot : List ℕ) (class : Option ℕ) (s : Buffer) → Lays second (ops 1) s (got_from schema slot class s)
got_lays schema slot None s free = adds_none (ops 1) refl s
got_lays schema slot (Some class) s free = gotten_lays (value_slot schema class slot) s free

slot_lays : (schema : Schema) (unit : Variable) (slot : List ℕ) (room : ℕ) (s : Buffer) → Lays second (plus (ops 1) (ops 1)) s (slot_code schema unit slot room s)
unfolding slot_code
slot_lays schema unit slot room s = lays_then second second (ops 1) (ops 1) s (unit_code unit room s) _ (unit_lays unit room s) (λ p. got_lays schema slot p.0 p.1)

text_lays : (text : List ℕ) (room : ℕ) (s : Buffer) → Lays second (plus (one_text text) (ops 1)) s (text_code text room s)
unfolding text_code
text_lays text room s =
    lays_then second second (one_text text) (ops 1) s (text_index text (text_noted text s)) _
    (lays_from second (one_text text) s (text_noted text s) (text_index text (text_noted text s)) (unless_counts (nat_le (length text) TEXT_BYTES_LIMIT) Limit s) (index_lays text (text_noted text s)))
    (λ p. pushed_lays (put_ops.PushText p.0) kinds.Text room p.1)

label_lays : (set : ℕ) (o : Option ℕ) (room : ℕ) (s : Buffer) → Lays second (ops 1) s (label_of set o room s)
label_lays set None room s free = adds_noted (ops 1) refl s (noted Unknown s) (noted_counts Unknown s)
label_lays set (Some label) room s free = pushed_lays (put_ops.PushLabel set label) (kinds.Label set) room s free

label_in_lays : (schema : Schema) (label : List ℕ) (set : Option ℕ) (room : ℕ) (s : Buffer) → Lays second (ops 1) s (label_in schema label set room s)
label_in_lays schema label None room s free = adds_noted (ops 1) refl s (noted Unknown s) (noted_counts Unknown s)
label_in_lays schema label (Some set) room s free = label_lays set (label_named schema set label) room s free

atom_lays : (schema : Schema) (a : Atom) (room : ℕ) (s : Buffer) → Lays second (atom_sums a) s (atom_code schema room a s)
unfolding atom_code label_code
atom_lays schema (atoms.Int n) room s = pushed_lays (put_ops.PushInt n) kinds.Int room s
atom_lays schema (atoms.Text text) room s = text_lays text room s
atom_lays schema (atoms.Bool b) room s = pushed_lays (put_ops.PushBool b) kinds.Bool room s
atom_lays schema (atoms.Label set label) room s = label_in_lays schema label (label_set_named schema set) room s
atom_lays schema (atoms.Variable v) room s = variable_lays v room s
atom_lays schema (atoms.Slot unit slot) room s = slot_lays schema unit slot room s

-- ---- operations

one_lays : (operand : Option Kind) (wanted : Kind) (op : Op) (gives : Kind) (s : Buffer) → Lays second (ops 1) s (one_due operand wanted op gives s)
unfolding one_due
one_lays operand wanted op gives s =
    lays_last itself second (ops 1) s (put op (due operand wanted s)) _
    (lays_from itself (ops 1) s (due operand wanted s) (put op (due operand wanted s)) (due_counts operand wanted s) (put_lays op (due operand wanted s))) (λ t m. m)

two_lays : (left right : Option Kind) (wanted : Kind) (op : Op) (gives : Kind) (s : Buffer) → Lays second (ops 1) s (two_due left right wanted op gives s)
unfolding two_due
two_lays left right wanted op gives s =
    let both = due right wanted (due left wanted s) in
    lays_last itself second (ops 1) s (put op both) _
    (lays_from itself (ops 1) s both (put op both) (counts_on s (due left wanted s) both (due_counts left wanted s) (due_counts right wanted (due left wanted s))) (put_lays op both)) (λ t m. m)

unary_lays : (operation : Unary) (made : Option Kind) (s : Buffer) → Lays second (ops 1) s (unary_code operation made s)
unary_lays unaries.Not made s = one_lays made kinds.Bool put_ops.Not kinds.Bool s
unary_lays unaries.Low made s = one_lays made kinds.Interval (put_ops.BoundOf bounds.Low) kinds.Int s
unary_lays unaries.High made s = one_lays made kinds.Interval (put_ops.BoundOf bounds.High) kinds.Int s

by_lays : (o : Option Op) (s : Buffer) → Lays itself (ops 1) s (equality_by o s)
by_lays None s free = adds_noted (ops 1) refl s (noted WrongKind s) (noted_counts WrongKind s)
by_lays (Some op) s free = put_lays op s free

equality_lays : (left right : Option Kind) (s : Buffer) → Lays itself (ops 1) s (equality_code left right s)
equality_lays None right s free = adds_none (ops 1) refl s
equality_lays (Some l) None s free = adds_none (ops 1) refl s
equality_lays (Some l) (Some r) s free = by_lays (equality l r) s free

binary_lays : (operation : Binary) (left right : Option Kind) (s : Buffer) → Lays second (ops 1) s (binary_code operation left right s)
unfolding binary_code
binary_lays binaries.Less left right s = two_lays left right kinds.Int (put_ops.Compare comparisons.Lt) kinds.Bool s
binary_lays binaries.AtMost left right s = two_lays left right kinds.Int (put_ops.Compare comparisons.Le) kinds.Bool s
binary_lays binaries.Equal left right s = lays_last itself second (ops 1) s (equality_code left right s) _ (equality_lays left right s) (λ t m. m)
binary_lays binaries.Min left right s = two_lays left right kinds.Int (put_ops.Calculate calculations.Min) kinds.Int s
binary_lays binaries.Max left right s = two_lays left right kinds.Int (put_ops.Calculate calculations.Max) kinds.Int s
binary_lays binaries.Interval left right s = two_lays left right kinds.Int put_ops.MakeInterval kinds.Interval s

operator_lays : (operator : Operator) (left right : Option Kind) (s : Buffer) → Lays second (ops 1) s (operator_code operator left right s)
operator_lays operators.Or left right s = two_lays left right kinds.Bool (put_ops.Combine logics.Or) kinds.Bool s
operator_lays operators.And left right s = two_lays left right kinds.Bool (put_ops.Combine logics.And) kinds.Bool s
operator_lays operators.Plus left right s = two_lays left right kinds.Int (put_ops.Calculate calculations.Add) kinds.Int s
operator_lays operators.Minus left right s = two_lays left right kinds.Int (put_ops.Calculate calculations.Sub) kinds.Int s
operator_lays operators.Times left right s = two_lays left right kinds.Int (put_ops.Calculate calculations.Mul) kinds.Int s

division_lays : (division : Division) (divisor : ℤ) (left : Option Kind) (s : Buffer) → Lays second (ops 1) s (division_code division divisor left s)
unfolding division_code
division_lays division divisor left s =
    lays_from second (ops 1) s (divisor_noted divisor s) (one_due left kinds.Int (put_ops.Divide (division_op division) divisor) kinds.Int (divisor_noted divisor s)) (if_counts (int_lt divisor (pos 1)) Limit s)
    (one_lays left kinds.Int (put_ops.Divide (division_op division) divisor) kinds.Int (divisor_noted divisor s))

-- ---- queries

abbrev third : {X : Type 0} → Patterned X → Buffer
third p = p.2

at_counts : (relation : Relation) (o : Option (ℕ × Kind)) (operand : Option Kind) (asked : Asked) (s : Buffer) → Counts s (test_at relation o operand asked s).2
at_counts relation None operand asked s = noted_counts Unknown s
at_counts relation (Some dim) operand asked s =
    counts_on s (due operand dim.1 s) (operand_noted asked (due operand dim.1 s)) (due_counts operand dim.1 s) (if_counts (nat_le OPERAND_LIMIT (length asked.kinds)) Limit (due operand dim.1 s))

test_counts : (schema : Schema) (space : Option ℕ) (dim : List ℕ) (relation : Relation) (operand : Option Kind) (asked : Asked) (s : Buffer) → Counts s (test_code schema space dim relation operand asked s).2
unfolding test_code
test_counts schema None dim relation operand asked s = counts_same s
test_counts schema (Some space) dim relation operand asked s = at_counts relation (dimension schema space dim relation) operand asked s

query_lays : (class space : Option ℕ) (asked : Asked) (pattern : Tree) (room : ℕ) (s : Buffer) → Lays second (plus one_query (ops 1)) s (query_code class space asked pattern room s)
unfolding query_code
query_lays None None asked pattern room s free = adds_none (plus one_query (ops 1)) refl s
query_lays None (Some space) asked pattern room s free = adds_none (plus one_query (ops 1)) refl s
query_lays (Some class) None asked pattern room s free = adds_none (plus one_query (ops 1)) refl s
query_lays (Some class) (Some space) asked pattern room s free =
    let query : Query = record { class = class; space = space; kinds = asked.kinds; pattern = pattern } in
    lays_then second second one_query (ops 1) s (asked_query query s) (λ p. put_value (put_ops.Find p.0) room p.1 >>= λ u. Ok (Some class, u)) (asked_lays query s)
    (λ p. lays_last itself second (ops 1) p.1 (put_value (put_ops.Find p.0) room p.1) _ (put_value_lays (put_ops.Find p.0) room p.1) (λ t m. m)) free

linked_by_lays : (r : Result (ℕ × Link) TextFlaw) (s : Buffer) → Lays second (ops 1) s (linked_by r s)
linked_by_lays (Err flaw) s free = adds_noted (ops 1) refl s (noted flaw s) (noted_counts flaw s)
linked_by_lays (Ok slot) s free = lays_last itself second (ops 1) s (put (put_ops.Links slot.0) s) (λ t. Ok (Some slot.1.to, t)) (put_lays (put_ops.Links slot.0) s) (λ t m. m) free

linked_lays : (schema : Schema) (slot : List ℕ) (class : Option ℕ) (s : Buffer) → Lays second (ops 1) s (linked_from schema slot class s)
linked_lays schema slot None s free = adds_none (ops 1) refl s
linked_lays schema slot (Some class) s free = linked_by_lays (link_slot schema class slot) s free

links_lays : (schema : Schema) (unit : Variable) (slot : List ℕ) (room : ℕ) (s : Buffer) → Lays second (plus (ops 1) (ops 1)) s (links_code schema unit slot room s)
unfolding links_code
links_lays schema unit slot room s = lays_then second second (ops 1) (ops 1) s (unit_code unit room s) _ (unit_lays unit room s) (λ p. linked_lays schema slot p.0 p.1)

-- ---- all of them

module _ (schema : Schema) where
  mutual
    unfolding expr_code steps_code sequence_code pattern_code patterns_code expr_sums steps_sums sequence_sums pattern_sums patterns_sums

    pub expr_lays : (e : ExprTree) (room : ℕ) (s : Buffer) → Lays second (expr_sums e) s (expr_code schema room e s)
    expr_lays (atom a) room s = atom_lays schema a room s
    expr_lays (unary operation e) room s = lays_then second second (expr_sums e) (ops 1) s (expr_code schema room e s) _ (expr_lays e room s) (λ p. unary_lays operation p.0 p.1)
    expr_lays (binary operation l r) room s =
        lays_then second second (expr_sums l) (plus (expr_sums r) (ops 1)) s (expr_code schema room l s) _ (expr_lays l room s)
        (λ p. lays_then second second (expr_sums r) (ops 1) p.1 (expr_code schema (room - 1) r p.1) _ (expr_lays r (room - 1) p.1) (λ q. binary_lays operation p.0 q.0 q.1))
    expr_lays (chain first steps) room s = lays_then second second (expr_sums first) (steps_sums steps) s (expr_code schema room first s) _ (expr_lays first room s) (λ p. steps_lay steps room p.0 p.1)
    expr_lays (size_of sequence) room s =
        lays_then second second (sequence_sums sequence) (ops 1) s (sequence_code schema room sequence s) _ (sequence_lays sequence room s)
        (λ p. lays_last itself second (ops 1) p.1 (put put_ops.Size p.1) _ (put_lays put_ops.Size p.1) (λ u m. m))

    steps_lay : (steps : Steps) (room : ℕ) (left : Option Kind) (s : Buffer) → Lays second (steps_sums steps) s (steps_code schema room left steps s)
    steps_lay no_step room left s = λ free. adds_none nothing refl s
    steps_lay (apply operator e steps) room left s =
        lays_then second second (expr_sums e) (plus (ops 1) (steps_sums steps)) s (expr_code schema (room - 1) e s) _ (expr_lays e (room - 1) s)
        (λ p. lays_then second second (ops 1) (steps_sums steps) p.1 (operator_code operator left p.0 p.1) _ (operator_lays operator left p.0 p.1) (λ q. steps_lay steps room q.0 q.1))
    steps_lay (divide division divisor steps) room left s =
        lays_then second second (ops 1) (steps_sums steps) s (division_code division divisor left s) _ (division_lays division divisor left s) (λ p. steps_lay steps room p.0 p.1)

    pub sequence_lays : (sequence : SequenceTree) (room : ℕ) (s : Buffer) → Lays second (sequence_sums sequence) s (sequence_code schema room sequence s)
    sequence_lays (linked unit slot) room s = links_lays schema unit slot room s
    sequence_lays (found name space_name p) room s =
        let class = class_named schema name in
        let space = space_named schema space_name in
        let was = known space (known class s) in
        lays_then third second (pattern_sums p) (plus one_query (ops 1)) s (pattern_code schema room space p no_operand was) _
        (lays_from third (pattern_sums p) s was (pattern_code schema room space p no_operand was) (counts_on s (known class s) was (known_counts class s) (known_counts space (known class s))) (pattern_lays p room space no_operand was))
        (λ q. query_lays class space q.1 q.0 room q.2)

    pattern_lays : (p : PatternTree) (room : ℕ) (space : Option ℕ) (asked : Asked) (s : Buffer) → Lays third (pattern_sums p) s (pattern_code schema room space p asked s)
    pattern_lays all room space asked s = λ free. adds_noted nothing refl s (node_noted asked s) (if_counts (asked.nodes == 0) Limit s)
    pattern_lays (and_of ps) room space asked s =
        lays_last third third (patterns_sums ps) s (patterns_code schema room space ps (node_counted asked) (node_noted asked s)) _
        (lays_from third (patterns_sums ps) s (node_noted asked s) (patterns_code schema room space ps (node_counted asked) (node_noted asked s)) (if_counts (asked.nodes == 0) Limit s) (patterns_lay ps room space (node_counted asked) (node_noted asked s))) (λ q m. m)
    pattern_lays (or_of ps) room space asked s =
        lays_last third third (patterns_sums ps) s (patterns_code schema room space ps (node_counted asked) (node_noted asked s)) _
        (lays_from third (patterns_sums ps) s (node_noted asked s) (patterns_code schema room space ps (node_counted asked) (node_noted asked s)) (if_counts (asked.nodes == 0) Limit s) (patterns_lay ps room space (node_counted asked) (node_noted asked s))) (λ q m. m)
    pattern_lays (not_of p) room space asked s =
        lays_last third third (pattern_sums p) s (pattern_code schema room space p (node_counted asked) (node_noted asked s)) _
        (lays_from third (pattern_sums p) s (node_noted asked s) (pattern_code schema room space p (node_counted asked) (node_noted asked s)) (if_counts (asked.nodes == 0) Limit s) (pattern_lays p room space (node_counted asked) (node_noted asked s))) (λ q m. m)
    pattern_lays (test dim relation e) room space asked s =
        lays_last second third (expr_sums e) s (expr_code schema (room - length asked.kinds) e (node_noted asked s)) _
        (lays_from second (expr_sums e) s (node_noted asked s) (expr_code schema (room - length asked.kinds) e (node_noted asked s)) (if_counts (asked.nodes == 0) Limit s) (expr_lays e (room - length asked.kinds) (node_noted asked s)))
        (λ q m. adds_to (expr_sums e) s q.1 (test_code schema space dim relation q.0 (node_counted asked) q.1).2 (test_counts schema space dim relation q.0 (node_counted asked) q.1) m)

    patterns_lay : (ps : Patterns) (room : ℕ) (space : Option ℕ) (asked : Asked) (s : Buffer) → Lays third (patterns_sums ps) s (patterns_code schema room space ps asked s)
    patterns_lay no_pattern room space asked s = λ free. adds_none nothing refl s
    patterns_lay (more p ps) room space asked s =
        lays_then third third (pattern_sums p) (patterns_sums ps) s (pattern_code schema room space p asked s) _ (pattern_lays p room space asked s)
        (λ q. lays_last third third (patterns_sums ps) q.2 (patterns_code schema room space ps q.1 q.2) _ (patterns_lay ps room space q.1 q.2) (λ r m. m))
