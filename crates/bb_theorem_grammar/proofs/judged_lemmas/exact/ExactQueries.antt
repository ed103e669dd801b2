-- What sequences, patterns and whole expressions lay out where nothing is noted.
use Rattle.std.proofs.Common.{ℕ, ◌-◌, List, length, Option, Some, None, Result, Ok, Err}
use Rattle.std.specs.Prelude.{nat_le, ◌==◌}
use Rattle.bb_basis.specs.Results.{◌>>=◌}
use Rattle.bb_code.specs.PatternLimits.{OPERAND_LIMIT}
use Rattle.bb_code.specs.Trees.{Tree}
use Rattle.bb_code.specs.Trees as nodes
use Rattle.bb_schema_classes.specs.declared.kind.Link.{Link}
use Rattle.bb_code.specs.declared.frame.Kind.{Kind}
use Rattle.bb_code.specs.declared.frame.Kind.TheVariants as kinds
use Rattle.bb_code.specs.declared.op.Op.TheVariants as put_ops
use Rattle.bb_verify_effect.specs.Query.{Query}
use Rattle.bb_schema.specs.Schema.{Schema, class_named, space_named}
use Rattle.bb_lang.specs.Relation.{Relation}
use Rattle.bb_lang.specs.Trees.{ExprTree, Steps, SequenceTree, PatternTree, Patterns, atom, unary, binary, chain, size_of, no_step, apply, divide, found, linked, all, and_of, or_of, not_of, test, no_pattern, more}
use Rattle.bb_lang.specs.Variable.{Variable}
use Rattle.bb_compile_scope.specs.Slots.{link_slot, dimension}
use Rattle.bb_compile_scope.specs.declared.fault.TextFlaw.{TextFlaw}
use Rattle.bb_compile_scope.specs.declared.fault.TextFlaw.TheVariants.{Unknown, Limit}
use Rattle.bb_compile_buffer.specs.Atoms.{unit_code}
use Rattle.bb_compile_buffer.specs.declared.buffer.Buffer.{Buffer}
use Rattle.bb_compile_buffer.specs.Buffers.{noted, due, known, put, put_value, asked_query}
use Rattle.bb_compile_buffer.specs.Operations.{operator_code, division_code}
use Rattle.bb_compile.specs.declared.asked.Asked.{Asked}
use Rattle.bb_compile.specs.Expressions.{expr_code, steps_code, sequence_code, pattern_code, patterns_code}
use Rattle.bb_compile.specs.Queries.{Patterned, no_operand, node_counted, node_noted, operand_noted, test_at, test_code, query_code, linked_by, linked_from, links_code}
use Rattle.bb_theorem_grammar.specs.judged.Sums.{plus, nothing, ops, one_query, expr_sums, steps_sums, sequence_sums, pattern_sums, patterns_sums}
use Rattle.bb_theorem_grammar.proofs.judged_lemmas.exact.ExactExprs.{made_none, unit_counted, atom_counted, unary_counted, binary_counted, operator_counted, division_counted}
use Rattle.bb_theorem_grammar.proofs.judged_lemmas.exact.ExactLemmas.{Exact, Counted, Unless, Made, exact_none, counted_then, counted_last, counted_knowing, unless_on, exact_from, counted_from, put_counted, put_value_counted, back_if, known_unless, back_known, asked_counted, flawed}
use Rattle.bb_theorem_grammar.proofs.judged_lemmas.within.FineLemmas.{Clean, Anything, itself, second, never, due_back}
use Rattle.bb_theorem_grammar.proofs.judged_lemmas.laying.LayLemmas.{counts_on, if_counts, due_counts, known_counts}

abbrev third : {X : Type 0} → Patterned X → Buffer
third p = p.2

-- ---- patterns

at_level : (relation : Relation) (o : Option (ℕ × Kind)) (operand : Option Kind) (asked : Asked) (s : Buffer) → Clean (test_at relation o operand asked s).2 → Exact nothing s (test_at relation o operand asked s).2
at_level relation None operand asked s clean = never Unknown s clean
at_level relation (Some dim) operand asked s clean =
    let t = due operand dim.1 s in
    let u = operand_noted asked t in
    exact_from nothing s u u (counts_on s t u (due_counts operand dim.1 s) (if_counts (nat_le OPERAND_LIMIT (length asked.kinds)) Limit t))
    (λ free. due_back operand dim.1 s (back_if (nat_le OPERAND_LIMIT (length asked.kinds)) Limit t free)) (exact_none u clean)

test_level : (schema : Schema) (space : Option ℕ) (dim : List ℕ) (relation : Relation) (operand : Option Kind) (asked : Asked) (s : Buffer) → Clean (test_code schema space dim relation operand asked s).2 → Exact nothing s (test_code schema space dim relation operand asked s).2
unfolding test_code
test_level schema None dim relation operand asked s clean = exact_none s clean
test_level schema (Some space) dim relation operand asked s clean = at_level relation (dimension schema space dim relation) operand asked s clean

-- ---- queries and links

query_counted : (class space : Option ℕ) (asked : Asked) (pattern : Tree) (room : ℕ) (s : Buffer) → Unless class s → Unless space s → Counted second Made (plus one_query (ops 1)) s (query_code class space asked pattern room s)
unfolding query_code
query_counted None None asked pattern room s c w = (λ clean. absurd (c clean), c)
query_counted None (Some space) asked pattern room s c w = (λ clean. absurd (c clean), c)
query_counted (Some class) None asked pattern room s c w = (λ clean. absurd (w clean), tt)
query_counted (Some class) (Some space) asked pattern room s c w =
    let query : Query = record { class = class; space = space; kinds = asked.kinds; pattern = pattern } in
    counted_then (second {X = ℕ}) second Anything Made one_query (ops 1) s (asked_query query s) (λ p. put_value (put_ops.Find p.0) room p.1 >>= λ u. Ok (Some class, u)) (asked_counted query s)
    (λ p any. counted_last itself second Anything Made (ops 1) p.1 (put_value (put_ops.Find p.0) room p.1) _ (put_value_counted (put_ops.Find p.0) room p.1) (λ t nothing_more. made_none (Some class) t tt))

linked_by_counted : (r : Result (ℕ × Link) TextFlaw) (s : Buffer) → Counted second Made (ops 1) s (linked_by r s)
linked_by_counted (Err flaw) s = flawed (Made {X = ℕ}) (ops 1) flaw s (None, noted flaw s) (λ clean. never flaw s clean)
linked_by_counted (Ok slot) s = counted_last itself second Anything Made (ops 1) s (put (put_ops.Links slot.0) s) (λ t. Ok (Some slot.1.to, t)) (put_counted (put_ops.Links slot.0) s) (λ t any. made_none (Some slot.1.to) t tt)

linked_counted : (schema : Schema) (slot : List ℕ) (class : Option ℕ) (s : Buffer) → Unless class s → Counted second Made (ops 1) s (linked_from schema slot class s)
linked_counted schema slot None s there = (λ clean. absurd (there clean), there)
linked_counted schema slot (Some class) s there = linked_by_counted (link_slot schema class slot) s

links_counted : (schema : Schema) (unit : Variable) (slot : List ℕ) (room : ℕ) (s : Buffer) → Counted second Made (plus (ops 1) (ops 1)) s (links_code schema unit slot room s)
unfolding links_code
links_counted schema unit slot room s = counted_then second second Made Made (ops 1) (ops 1) s (unit_code unit room s) _ (unit_counted unit room s) (λ p there. linked_counted schema slot p.0 p.1 there)

-- ---- all of them

module _ (schema : Schema) where
  mutual
    unfolding expr_code steps_code sequence_code pattern_code patterns_code expr_sums steps_sums sequence_sums pattern_sums patterns_sums

    pub expr_counted : (e : ExprTree) (room : ℕ) (s : Buffer) → Counted second Made (expr_sums e) s (expr_code schema room e s)
    expr_counted (atom a) room s = atom_counted schema a room s
    expr_counted (unary operation e) room s =
        counted_then second second Made Made (expr_sums e) (ops 1) s (expr_code schema room e s) _ (expr_counted e room s) (λ p there. unary_counted operation p.0 p.1)
    expr_counted (binary operation l r) room s =
        counted_then second second Made Made (expr_sums l) (plus (expr_sums r) (ops 1)) s (expr_code schema room l s) _ (expr_counted l room s)
        (λ p one. counted_knowing second second Made Made (expr_sums r) (ops 1) p.1 (expr_code schema (room - 1) r p.1) _ (expr_counted r (room - 1) p.1)
        (λ q two back. binary_counted operation p.0 q.0 q.1 (unless_on p.0 p.1 q.1 back one) two))
    expr_counted (chain first steps) room s =
        counted_then second second Made Made (expr_sums first) (steps_sums steps) s (expr_code schema room first s) _ (expr_counted first room s) (λ p there. steps_counted steps room p.0 p.1 there)
    expr_counted (size_of sequence) room s =
        counted_then second second Made Made (sequence_sums sequence) (ops 1) s (sequence_code schema room sequence s) _ (sequence_counted sequence room s)
        (λ p there. counted_last itself second Anything Made (ops 1) p.1 (put put_ops.Size p.1) _ (put_counted put_ops.Size p.1) (λ t any. made_none (Some kinds.Int) t tt))

    steps_counted : (steps : Steps) (room : ℕ) (left : Option Kind) (s : Buffer) → Unless left s → Counted second Made (steps_sums steps) s (steps_code schema room left steps s)
    steps_counted no_step room left s there = made_none left s there
    steps_counted (apply operator e steps) room left s there =
        counted_then second second Made Made (expr_sums e) (plus (ops 1) (steps_sums steps)) s (expr_code schema (room - 1) e s) _ (expr_counted e (room - 1) s)
        (λ p one. counted_then second second Made Made (ops 1) (steps_sums steps) p.1 (operator_code operator left p.0 p.1) _ (operator_counted operator left p.0 p.1) (λ q two. steps_counted steps room q.0 q.1 two))
    steps_counted (divide division divisor steps) room left s there =
        counted_then second second Made Made (ops 1) (steps_sums steps) s (division_code division divisor left s) _ (division_counted division divisor left s) (λ q two. steps_counted steps room q.0 q.1 two)

    pub sequence_counted : (sequence : SequenceTree) (room : ℕ) (s : Buffer) → Counted second Made (sequence_sums sequence) s (sequence_code schema room sequence s)
    sequence_counted (linked unit slot) room s = links_counted schema unit slot room s
    sequence_counted (found class space p) room s =
        let c = class_named schema class in
        let w = space_named schema space in
        let one = known c s in
        let both = known w one in
        counted_from second Made (plus (pattern_sums p) (plus one_query (ops 1))) s both (pattern_code schema room w p no_operand both >>= λ q. query_code c w q.1 q.0 room q.2) (counts_on s one both (known_counts c s) (known_counts w one)) (λ clean. back_known c s (back_known w one clean))
        (counted_knowing third second Anything Made (pattern_sums p) (plus one_query (ops 1)) both (pattern_code schema room w p no_operand both) _ (pattern_counted p room w no_operand both)
        (λ q any back. query_counted c w q.1 q.0 room q.2 (unless_on c one q.2 (λ clean. back_known w one (back clean)) (known_unless c s)) (unless_on w both q.2 back (known_unless w one))))

    pattern_counted : (p : PatternTree) (room : ℕ) (space : Option ℕ) (asked : Asked) (s : Buffer) → Counted third Anything (pattern_sums p) s (pattern_code schema room space p asked s)
    pattern_counted all room space asked s = (λ clean. exact_from nothing s (node_noted asked s) (node_noted asked s) (if_counts (asked.nodes == 0) Limit s) (back_if (asked.nodes == 0) Limit s) (exact_none (node_noted asked s) clean), tt)
    pattern_counted (and_of ps) room space asked s =
        counted_from third Anything (patterns_sums ps) s (node_noted asked s) (patterns_code schema room space ps (node_counted asked) (node_noted asked s) >>= λ q. Ok (nodes.and_of q.0, q.1, q.2)) (if_counts (asked.nodes == 0) Limit s) (back_if (asked.nodes == 0) Limit s)
        (counted_last third third Anything Anything (patterns_sums ps) (node_noted asked s) (patterns_code schema room space ps (node_counted asked) (node_noted asked s)) _ (patterns_counted ps room space (node_counted asked) (node_noted asked s)) (λ q any. (λ clean. exact_none q.2 clean, tt)))
    pattern_counted (or_of ps) room space asked s =
        counted_from third Anything (patterns_sums ps) s (node_noted asked s) (patterns_code schema room space ps (node_counted asked) (node_noted asked s) >>= λ q. Ok (nodes.or_of q.0, q.1, q.2)) (if_counts (asked.nodes == 0) Limit s) (back_if (asked.nodes == 0) Limit s)
        (counted_last third third Anything Anything (patterns_sums ps) (node_noted asked s) (patterns_code schema room space ps (node_counted asked) (node_noted asked s)) _ (patterns_counted ps room space (node_counted asked) (node_noted asked s)) (λ q any. (λ clean. exact_none q.2 clean, tt)))
    pattern_counted (not_of p) room space asked s =
        counted_from third Anything (pattern_sums p) s (node_noted asked s) (pattern_code schema room space p (node_counted asked) (node_noted asked s) >>= λ q. Ok (nodes.not_of q.0, q.1, q.2)) (if_counts (asked.nodes == 0) Limit s) (back_if (asked.nodes == 0) Limit s)
        (counted_last third third Anything Anything (pattern_sums p) (node_noted asked s) (pattern_code schema room space p (node_counted asked) (node_noted asked s)) _ (pattern_counted p room space (node_counted asked) (node_noted asked s)) (λ q any. (λ clean. exact_none q.2 clean, tt)))
    pattern_counted (test dim relation e) room space asked s =
        counted_from third Anything (expr_sums e) s (node_noted asked s) (expr_code schema (room - length asked.kinds) e (node_noted asked s) >>= λ q. Ok (test_code schema space dim relation q.0 (node_counted asked) q.1)) (if_counts (asked.nodes == 0) Limit s) (back_if (asked.nodes == 0) Limit s)
        (counted_last second third Made Anything (expr_sums e) (node_noted asked s) (expr_code schema (room - length asked.kinds) e (node_noted asked s)) _ (expr_counted e (room - length asked.kinds) (node_noted asked s))
        (λ q there. (λ clean. test_level schema space dim relation q.0 (node_counted asked) q.1 clean, tt)))

    patterns_counted : (ps : Patterns) (room : ℕ) (space : Option ℕ) (asked : Asked) (s : Buffer) → Counted third Anything (patterns_sums ps) s (patterns_code schema room space ps asked s)
    patterns_counted no_pattern room space asked s = (λ clean. exact_none s clean, tt)
    patterns_counted (more p ps) room space asked s =
        counted_then third third Anything Anything (pattern_sums p) (patterns_sums ps) s (pattern_code schema room space p asked s) _ (pattern_counted p room space asked s)
        (λ q any. counted_last third third Anything Anything (patterns_sums ps) q.2 (patterns_code schema room space ps q.1 q.2) _ (patterns_counted ps room space q.1 q.2) (λ r anything. (λ clean. exact_none r.2 clean, tt)))
