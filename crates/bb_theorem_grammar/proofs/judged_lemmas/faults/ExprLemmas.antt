-- Expressions, sequences and patterns: the compiler makes the kind of the judgement, and notes the flaws of the
-- judgement and no others.
use Rattle.std.proofs.Common.{ℕ, ◌-◌, [], ◌++◌, length, Option, Some, Ok, refl, subst, sym, ◌∙◌}
use Rattle.std.specs.Prelude.{◌==◌}
use Rattle.bb_basis.specs.Results.{◌>>=◌}
use Rattle.bb_code.specs.Trees.{Trees, no_more}
use Rattle.bb_code.specs.Trees as nodes
use Rattle.bb_code.specs.declared.frame.Kind.{Kind}
use Rattle.bb_code.specs.declared.frame.Kind.TheVariants.{Int}
use Rattle.bb_code.specs.declared.op.Op.TheVariants as ops
use Rattle.bb_schema.specs.Schema.{Schema, class_named, space_named}
use Rattle.bb_lang.specs.Trees.{ExprTree, Steps, SequenceTree, PatternTree, Patterns, atom, unary, binary, chain, size_of, no_step, apply, divide, found, linked, all, and_of, or_of, not_of, test, no_pattern, more}
use Rattle.bb_compile_scope.specs.Place.{Place}
use Rattle.bb_compile_scope.specs.declared.fault.TextFlaw.{TextFlaw}
use Rattle.bb_compile_scope.specs.declared.fault.TextFlaw.TheVariants.{Limit}
use Rattle.bb_compile_scope.specs.declared.scope.Scope.{Scope}
use Rattle.bb_compile_buffer.specs.declared.buffer.Buffer.{Buffer}
use Rattle.bb_compile_buffer.specs.Buffers.{known, put}
use Rattle.bb_compile_buffer.specs.Operations.{operator_code, division_code}
use Rattle.bb_compile.specs.declared.asked.Asked.{Asked}
use Rattle.bb_compile.specs.Expressions.{expr_code, steps_code, sequence_code, pattern_code, patterns_code}
use Rattle.bb_compile.specs.Queries.{Patterned, node_counted, node_noted}
use Rattle.bb_compile.specs.Queries as queries
use Rattle.bb_theorem_grammar.specs.judged.Expressions.{steps_kind, expr_kind, sequence_class, pattern_counted, patterns_counted, expr_flaws, steps_flaws, sequence_flaws, pattern_flaws, patterns_flaws}
use Rattle.bb_theorem_grammar.specs.judged.Flaws.{least, if_unknown, if_other}
use Rattle.bb_theorem_grammar.specs.judged.Names.{Names}
use Rattle.bb_theorem_grammar.specs.judged.Operations.{unary_wants, unary_gives, if_either_other, binary_flaws, binary_gives, operator_kind, division_flaws}
use Rattle.bb_theorem_grammar.specs.judged.Queries.{no_operand, node_flaws, test_flaws, found_flaws}
use Rattle.bb_theorem_grammar.proofs.judged_lemmas.faults.AtomLemmas.{atom_judged, unary_judged, binary_judged, operator_judged, division_judged}
use Rattle.bb_theorem_grammar.proofs.judged_lemmas.scopes.HoldLemmas.{least_on, Holds, Keeps, noted_if, holds_then, Made, made_then, made_last, keeps_last, put_keeps, known_keeps}
use Rattle.bb_theorem_grammar.proofs.judged_lemmas.scopes.NameLemmas.{names_of}
use Rattle.bb_theorem_grammar.proofs.judged_lemmas.faults.QueryLemmas.{counts_of, Asks, asks_then, test_judged, query_judged, links_judged}

module _ (schema : Schema) (scope : Scope) (place : Place) where
  abbrev names : Names
  names = names_of scope

  -- nothing more is done
  no_more_steps : (left : Option Kind) (s : Buffer) (seen : Option TextFlaw) → Keeps scope place seen s → Made scope place left (least seen []) (left, s)
  unfolding least
  no_more_steps left s seen k = (refl, k)

  no_more_parts : (asked : Asked) (s : Buffer) (seen : Option TextFlaw) → Keeps scope place seen s → Asks scope place (counts_of asked) (least seen []) (no_more, asked, s)
  unfolding least
  no_more_parts asked s seen k = (refl, k)

  -- one node more
  node_keeps : (asked : Asked) (s : Buffer) (seen : Option TextFlaw) → Keeps scope place seen s → Keeps scope place (least seen (node_flaws (counts_of asked))) (node_noted asked s)
  node_keeps asked s seen k = noted_if scope place (asked.nodes == 0) Limit s seen k

  mutual
    unfolding expr_code steps_code sequence_code pattern_code patterns_code expr_flaws steps_flaws sequence_flaws pattern_flaws patterns_flaws pattern_counted patterns_counted

    pub expr_judged : (e : ExprTree) (room : ℕ) (s : Buffer) (seen : Option TextFlaw) → Keeps scope place seen s → Holds (Made scope place (expr_kind schema names e) (least seen (expr_flaws schema names room e))) place (expr_code schema room e s)
    expr_judged (atom a) room s seen k = atom_judged scope place schema a room s seen k
    expr_judged (unary operation e) room s seen k =
        let kind = expr_kind schema names e in
        let flaws = expr_flaws schema names room e in
        made_then scope place kind (Made scope place (Some (unary_gives operation))) seen flaws (if_other kind (unary_wants operation)) (expr_code schema room e s) _
        (expr_judged e room s seen k) (λ t kept. unary_judged scope place operation kind t (least seen flaws) kept)
    expr_judged (binary operation l r) room s seen k =
        let left = expr_kind schema names l in
        let right = expr_kind schema names r in
        let one = expr_flaws schema names room l in
        let two = expr_flaws schema names (room - 1) r in
        made_then scope place left (Made scope place (Some (binary_gives operation))) seen one (two ++ binary_flaws operation left right) (expr_code schema room l s) _
        (expr_judged l room s seen k) (λ t kept.
        made_then scope place right (Made scope place (Some (binary_gives operation))) (least seen one) two (binary_flaws operation left right) (expr_code schema (room - 1) r t) _
        (expr_judged r (room - 1) t (least seen one) kept) (λ u last. binary_judged scope place operation left right u (least (least seen one) two) last))
    expr_judged (chain first steps) room s seen k =
        let kind = expr_kind schema names first in
        let flaws = expr_flaws schema names room first in
        made_then scope place kind (Made scope place (steps_kind kind steps)) seen flaws (steps_flaws schema names room kind steps) (expr_code schema room first s) _
        (expr_judged first room s seen k) (λ t kept. steps_judged steps room kind t (least seen flaws) kept)
    expr_judged (size_of sequence) room s seen k =
        let flaw = least seen (sequence_flaws schema names room sequence) in
        made_last scope place (sequence_class schema names sequence) flaw (Made scope place (Some Int) flaw) (sequence_code schema room sequence s) _
        (sequence_judged sequence room s seen k) (λ t kept.
        keeps_last scope place (Keeps scope place flaw) (Made scope place (Some Int) flaw) (put ops.Size t) _ (put_keeps scope place ops.Size t flaw kept) (λ u last. (refl, last)))

    -- the steps of a chain
    steps_judged : (steps : Steps) (room : ℕ) (left : Option Kind) (s : Buffer) (seen : Option TextFlaw) → Keeps scope place seen s → Holds (Made scope place (steps_kind left steps) (least seen (steps_flaws schema names room left steps))) place (steps_code schema room left steps s)
    steps_judged no_step room left s seen k = no_more_steps left s seen k
    steps_judged (apply operator e steps) room left s seen k =
        let right = expr_kind schema names e in
        let gives = operator_kind operator in
        let one = expr_flaws schema names (room - 1) e in
        let two = if_either_other left right gives in
        let rest = steps_flaws schema names room (Some gives) steps in
        made_then scope place right (Made scope place (steps_kind (Some gives) steps)) seen one (two ++ rest) (expr_code schema (room - 1) e s) _
        (expr_judged e (room - 1) s seen k) (λ t kept.
        made_then scope place (Some gives) (Made scope place (steps_kind (Some gives) steps)) (least seen one) two rest (operator_code operator left right t) _
        (operator_judged scope place operator left right t (least seen one) kept) (λ u last. steps_judged steps room (Some gives) u (least (least seen one) two) last))
    steps_judged (divide division divisor steps) room left s seen k =
        let one = division_flaws divisor left in
        made_then scope place (Some Int) (Made scope place (steps_kind (Some Int) steps)) seen one (steps_flaws schema names room (Some Int) steps) (division_code division divisor left s) _
        (division_judged scope place division divisor left s seen k) (λ t kept. steps_judged steps room (Some Int) t (least seen one) kept)

    pub sequence_judged : (sequence : SequenceTree) (room : ℕ) (s : Buffer) (seen : Option TextFlaw) → Keeps scope place seen s → Holds (Made scope place (sequence_class schema names sequence) (least seen (sequence_flaws schema names room sequence))) place (sequence_code schema room sequence s)
    sequence_judged (linked unit slot) room s seen k = links_judged scope place schema unit slot room s seen k
    sequence_judged (found name space_name p) room s seen k =
        let class = class_named schema name in
        let space = space_named schema space_name in
        let one = if_unknown class in
        let two = if_unknown space in
        let was = known space (known class s) in
        let asks = pattern_flaws schema names room space p no_operand in
        let rest = found_flaws class space room in
        let before = least (least seen one) two in
        let kept = known_keeps scope place space (known class s) (least seen one) (known_keeps scope place class s seen k) in
        subst (λ flaw. Holds (Made scope place class flaw) place (sequence_code schema room (found name space_name p) s)) (sym (least_on seen one (two ++ (asks ++ rest)) ∙ least_on (least seen one) two (asks ++ rest)))
        (asks_then scope place (pattern_counted schema space p no_operand) (Made scope place class) before asks rest (pattern_code schema room space p queries.no_operand was) _
        (pattern_judged p room space queries.no_operand was before kept) (λ q made. query_judged scope place class space q.1 q.0 room q.2 (least before asks) made.1))

    pattern_judged : (p : PatternTree) (room : ℕ) (space : Option ℕ) (asked : Asked) (s : Buffer) (seen : Option TextFlaw) → Keeps scope place seen s → Holds (Asks scope place (pattern_counted schema space p (counts_of asked)) (least seen (pattern_flaws schema names room space p (counts_of asked)))) place (pattern_code schema room space p asked s)
    pattern_judged all room space asked s seen k = (refl, node_keeps asked s seen k)
    pattern_judged (and_of ps) room space asked s seen k =
        let one = node_flaws (counts_of asked) in
        let after = patterns_counted schema space ps (counts_of (node_counted asked)) in
        let rest = patterns_flaws schema names room space ps (counts_of (node_counted asked)) in
        subst (λ flaw. Holds (Asks scope place after flaw) place (pattern_code schema room space (and_of ps) asked s)) (sym (least_on seen one rest))
        (holds_then place (Asks scope place after (least (least seen one) rest)) (Asks scope place after (least (least seen one) rest)) (patterns_code schema room space ps (node_counted asked) (node_noted asked s)) _
        (patterns_judged ps room space (node_counted asked) (node_noted asked s) (least seen one) (node_keeps asked s seen k)) (λ q made. made))
    pattern_judged (or_of ps) room space asked s seen k =
        let one = node_flaws (counts_of asked) in
        let after = patterns_counted schema space ps (counts_of (node_counted asked)) in
        let rest = patterns_flaws schema names room space ps (counts_of (node_counted asked)) in
        subst (λ flaw. Holds (Asks scope place after flaw) place (pattern_code schema room space (or_of ps) asked s)) (sym (least_on seen one rest))
        (holds_then place (Asks scope place after (least (least seen one) rest)) (Asks scope place after (least (least seen one) rest)) (patterns_code schema room space ps (node_counted asked) (node_noted asked s)) _
        (patterns_judged ps room space (node_counted asked) (node_noted asked s) (least seen one) (node_keeps asked s seen k)) (λ q made. made))
    pattern_judged (not_of p) room space asked s seen k =
        let one = node_flaws (counts_of asked) in
        let after = pattern_counted schema space p (counts_of (node_counted asked)) in
        let rest = pattern_flaws schema names room space p (counts_of (node_counted asked)) in
        subst (λ flaw. Holds (Asks scope place after flaw) place (pattern_code schema room space (not_of p) asked s)) (sym (least_on seen one rest))
        (holds_then place (Asks scope place after (least (least seen one) rest)) (Asks scope place after (least (least seen one) rest)) (pattern_code schema room space p (node_counted asked) (node_noted asked s)) _
        (pattern_judged p room space (node_counted asked) (node_noted asked s) (least seen one) (node_keeps asked s seen k)) (λ q made. made))
    pattern_judged (test dim relation e) room space asked s seen k =
        let one = node_flaws (counts_of asked) in
        let kind = expr_kind schema names e in
        let two = expr_flaws schema names (room - length asked.kinds) e in
        let rest = test_flaws schema space dim relation kind (counts_of (node_counted asked)) in
        let after = pattern_counted schema space (test dim relation e) (counts_of asked) in
        subst (λ flaw. Holds (Asks scope place after flaw) place (pattern_code schema room space (test dim relation e) asked s)) (sym (least_on seen one (two ++ rest)))
        (made_then scope place kind (Asks scope place after) (least seen one) two rest (expr_code schema (room - length asked.kinds) e (node_noted asked s)) _
        (expr_judged e (room - length asked.kinds) (node_noted asked s) (least seen one) (node_keeps asked s seen k))
        (λ t kept. test_judged scope place schema space dim relation kind (node_counted asked) t (least (least seen one) two) kept))

    patterns_judged : (ps : Patterns) (room : ℕ) (space : Option ℕ) (asked : Asked) (s : Buffer) (seen : Option TextFlaw) → Keeps scope place seen s → Holds (Asks scope place (patterns_counted schema space ps (counts_of asked)) (least seen (patterns_flaws schema names room space ps (counts_of asked)))) place (patterns_code schema room space ps asked s)
    patterns_judged no_pattern room space asked s seen k = no_more_parts asked s seen k
    patterns_judged (more p ps) room space asked s seen k =
        let one = pattern_flaws schema names room space p (counts_of asked) in
        let after = pattern_counted schema space p (counts_of asked) in
        let rest = patterns_flaws schema names room space ps after in
        let last = patterns_counted schema space ps after in
        asks_then scope place after (Asks scope place last) seen one rest (pattern_code schema room space p asked s) _
        (pattern_judged p room space asked s seen k) (λ q made.
        subst (λ c. Holds (Asks scope place (patterns_counted schema space ps c) (least (least seen one) (patterns_flaws schema names room space ps c))) place (patterns_code schema room space ps q.1 q.2 >>= λ (r : Patterned Trees). Ok (nodes.more q.0 r.0, r.1, r.2))) made.0
        (holds_then place (Asks scope place (patterns_counted schema space ps (counts_of q.1)) (least (least seen one) (patterns_flaws schema names room space ps (counts_of q.1)))) (Asks scope place (patterns_counted schema space ps (counts_of q.1)) (least (least seen one) (patterns_flaws schema names room space ps (counts_of q.1)))) (patterns_code schema room space ps q.1 q.2) _
        (patterns_judged ps room space q.1 q.2 (least seen one) made.1) (λ r made. made)))
