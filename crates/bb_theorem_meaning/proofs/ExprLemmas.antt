-- Every expression means what its code does.
use Rattle.std.proofs.Common.{◌≡◌, ℕ, ◌-◌, List, [], ◌∷◌, ◌++◌, length, Option, Some, None, Result, Ok, refl, subst, sym, ap, ◌∙◌}
use Rattle.bb_basis.specs.Results.{◌>>=◌, ok_or, try_map}
use Rattle.bb_basis.proofs.ResultLemmas.{bind_ok, same_ok}
use Rattle.bb_code.specs.Code.{Code}
use Rattle.bb_code.specs.declared.frame.Kind.TheVariants as kinds
use Rattle.bb_code.specs.declared.op.Op.TheVariants as ops
use Rattle.bb_pattern.specs.Trees.{Tree, Trees, no_more}
use Rattle.bb_pattern.specs.Trees as nodes
use Rattle.bb_schema.specs.Schema.{Schema, class_named, space_named, dims_of}
use Rattle.bb_schema.specs.Fits as schemas
use Rattle.bb_lang.specs.Trees.{ExprTree, Steps, SequenceTree, PatternTree, Patterns, atom, unary, binary, chain, size_of, no_step, apply, divide, found, linked, all, and_of, or_of, not_of, test, no_pattern, more}
use Rattle.bb_compile.specs.declared.asked.Asked.{Asked}
use Rattle.bb_compile.specs.Expressions.{expr_code, steps_code, sequence_code, pattern_code, patterns_code}
use Rattle.bb_compile.specs.Queries.{Patterned, no_operand, node_counted, node_noted, test_code, query_code}
use Rattle.bb_compile_scope.specs.Slots.{index_of}
use Rattle.bb_compile_scope.specs.declared.scope.Scope.{Scope}
use Rattle.bb_compile_scope.specs.declared.fault.CompileFault.{CompileFault}
use Rattle.bb_theorem_accepted.specs.Buffer.{Buffer}
use Rattle.bb_theorem_accepted.specs.Buffers.{known, put}
use Rattle.bb_theorem_accepted.specs.Operations.{Made, unary_code, binary_code, operator_code, division_code}
use Rattle.bb_board.specs.Board.{Board}
use Rattle.bb_machine.specs.Changing.{State}
use Rattle.bb_machine.specs.declared.value.Value.{Value}
use Rattle.bb_theorem_accepted.proofs.Laws.{Clean, Grown, Has, with_op, is_known, put_ok, grown_none, grown_on, grown_op, has_before, pair_ok, clean_before, triple_ok}
use Rattle.bb_theorem_meaning.specs.Meaning.{Meaning, Name, meaningless}
use Rattle.bb_theorem_meaning.specs.Values.{unary_value, binary_value, operator_value, division_value}
use Rattle.bb_theorem_meaning.specs.Expressions.{value_of, after_steps, units_of, pattern_of, patterns_of, operand, found_units, tested}
use Rattle.bb_theorem_meaning.proofs.ComeLemmas.{Comes, Gets, gets_none}
use Rattle.bb_theorem_meaning.proofs.MeansLemmas.{IsKind, IsMade, Means, Turns, means_on, turns_on, turns_as, two_turns, bind_assoc}
use Rattle.bb_theorem_meaning.proofs.NameLemmas.{AreTaken}
use Rattle.bb_theorem_meaning.proofs.OpLemmas.{Pushed}
use Rattle.bb_theorem_meaning.proofs.AtomLemmas.{Good, atom_means}
use Rattle.bb_theorem_meaning.proofs.OperationLemmas.{binary_clean, binary_puts, operator_puts, unary_turns, division_turns}
use Rattle.bb_theorem_meaning.proofs.SequenceLemmas.{as_sequence, MeansUnits, links_mean, size_means}
use Rattle.bb_theorem_meaning.proofs.FindLemmas.{Asks, found_by, asks_none, asks_map, asks_on, asks_as, asks_node, node_free, test_asks, find_means}

module _ (schema : Schema) (sf : schemas.Fits schema) (code : Code) (start : State) (good : (n : ℕ) (st : State) → Comes code start n (Ok st) → Good schema st.1) where
  -- a meaning may be replaced by one that is equal on the blackboards that can come
  means_where : (s t : Buffer) (made : Made) (a b : Board → List Name → Meaning Value) → ((board : Board) (names : List Name) → Good schema board → a board names ≡ b board names) → Means code start s t made a → Means code start s t made b
  means_where s t made a b same m = record {
    grown = m.grown;
    clean = m.clean;
    scope = m.scope;
    some = m.some;
    kind = m.kind;
    gets = λ st names c held. subst (λ r. Gets code start (Pushed (length t.ops) st) r (length t.ops)) (same st.1 names (good (length s.ops) st c)) (m.gets st names c held);
  }

  -- ---- queries

  module _ (class space : List ℕ) (p : PatternTree) where
    abbrev units : Board → List Name → Meaning (List ℕ)
    units b names = do
      c ← ok_or (class_named b.schema class) meaningless
      k ← ok_or (space_named b.schema space) meaningless
      (pattern, values) ← pattern_of b names k p []
      operands ← try_map operand values
      Ok (found_units b c k pattern operands)

    module _ (room : ℕ) (s t u : Buffer) (asked : Asked) (tree : Tree) (made : Option ℕ) (clean : Clean u) (has : Has code u) where
      by_names : (c k : Option ℕ) → class_named schema class ≡ c → space_named schema space ≡ k
          → (Clean t → Has code t → Asks schema code start good (known k (known c s)) t k no_operand asked tree (λ b names n vs. pattern_of b names n p vs))
          → query_code c k asked tree room t ≡ Ok (made, u) → MeansUnits schema sf code start good s u units
      unfolding query_code
      by_names None k class_is space_is asks h =
          let same = pair_ok None made t u h in
          let m = asks (ap (λ (x : Buffer). x.flaw) same.1 ∙ clean) (subst (Has code) (sym same.1) has) in
          let outer = is_known k (known None s) m.clean in
          let inner = is_known None s (ap (λ (x : Buffer). x.flaw) (sym outer.2) ∙ m.clean) in
          absurd (let e = inner.1 in cc)
      by_names (Some c) None class_is space_is asks h =
          let same = pair_ok (Some c) made t u h in
          let m = asks (ap (λ (x : Buffer). x.flaw) same.1 ∙ clean) (subst (Has code) (sym same.1) has) in
          let outer = is_known None s m.clean in
          absurd (let e = outer.1 in cc)
      by_names (Some c) (Some k) class_is space_is asks h =
          means_where s u (Some kinds.Int) (λ b names. (pattern_of b names k p [] >>= found_by schema code start good c k asked tree b) >>= as_sequence) (λ b names. units b names >>= as_sequence)
          (λ b names g. ap (λ r. r >>= as_sequence) (by_schema b names g))
          (find_means schema code start good c k asked tree room s t u made (λ b names n vs. pattern_of b names n p vs) asks h clean has)
        where
          by_schema : (b : Board) (names : List Name) → Good schema b → (pattern_of b names k p [] >>= found_by schema code start good c k asked tree b) ≡ units b names
          by_schema b names g =
              let class_here : class_named b.schema class ≡ Some c = ap (λ z. class_named z class) g.schema ∙ class_is in
              let space_here : space_named b.schema space ≡ Some k = ap (λ z. space_named z space) g.schema ∙ space_is in
              rw (class_here, space_here) refl

  -- ---- all

  -- where the same was made
  around : {X : Type 0} (x y : Patterned X) (s : Buffer) (space : Option ℕ) (asked : Asked) (pattern : Board → List Name → ℕ → List Value → Meaning (X × List Value)) → x ≡ y → Asks schema code start good s x.2 space asked x.1 x.0 pattern → Asks schema code start good s y.2 space asked y.1 y.0 pattern
  around x y s space asked pattern same m = subst (λ z. Asks schema code start good s z.2 space asked z.1 z.0 pattern) same m

  -- the steps of a chain
  record Steps' (s t : Buffer) (left made : Made) (turn : Board → List Name → Value → Meaning Value) : Type 0 where
    grown : Grown s t
    clean : Clean s
    turns : IsMade left → (AreTaken s.scope.kinds s.scope.names → IsKind left) → Turns code start s t made turn

  steps_end : (left : Made) (s t : Buffer) (made : Made) → (let r : Result (Made × Buffer) CompileFault = Ok (left, s) in r) ≡ Ok (made, t) → Clean t → Steps' s t left made (λ b names v. Ok v)
  steps_end left s t made h clean =
      let same = pair_ok left made s t h in
      subst (λ u. Steps' s u left made (λ b names v. Ok v)) same.1
      (record {
        grown = grown_none s s refl refl refl;
        clean = ap (λ (x : Buffer). x.flaw) same.1 ∙ clean;
        turns = λ some known. record {
          grown = grown_none s s refl refl refl;
          clean = ap (λ (x : Buffer). x.flaw) same.1 ∙ clean;
          scope = refl;
          some = (some.0, sym same.0 ∙ some.1);
          kind = λ taken. subst IsKind same.0 (known taken);
          gets = λ st base v names c p held. gets_none code start (Pushed (length s.ops) base) v (length s.ops) st c p;
        };
      })

  mutual
    unfolding expr_code steps_code sequence_code pattern_code patterns_code value_of after_steps units_of pattern_of patterns_of

    pub expr_means : (e : ExprTree) (room : ℕ) (s t : Buffer) (made : Made) → expr_code schema room e s ≡ Ok (made, t) → Clean t → Has code t → Means code start s t made (λ b names. value_of b names e)
    expr_means (atom a) room s t made h clean has = atom_means schema sf code start good a room s t made h clean has
    expr_means (unary operation e) room s t made h clean has =
        let one = bind_ok (expr_code schema room e s) (λ p. unary_code operation p.0 p.1) (made, t) h in
        let turn = unary_turns code start operation one.0.0 one.0.1 t made one.2 clean has in
        let first = expr_means e room s one.0.1 one.0.0 one.1 turn.clean (has_before code one.0.1 t turn.grown has) in
        means_on code start s one.0.1 t one.0.0 made (λ b names. value_of b names e) (λ b names v. unary_value operation v) first turn
    expr_means (binary operation l r) room s t made h clean has =
        let one = bind_ok (expr_code schema room l s) (λ p. expr_code schema (room - 1) r p.1 >>= λ q. binary_code operation p.0 q.0 q.1) (made, t) h in
        let two = bind_ok (expr_code schema (room - 1) r one.0.1) (λ q. binary_code operation one.0.0 q.0 q.1) (made, t) one.2 in
        let free = binary_clean code operation one.0.0 two.0.0 two.0.1 t made two.2 clean in
        let right = expr_means r (room - 1) one.0.1 two.0.1 two.0.0 two.1 free.0 (has_before code two.0.1 t free.1 has) in
        let left = expr_means l room s one.0.1 one.0.0 one.1 right.clean (has_before code one.0.1 t (grown_on one.0.1 two.0.1 t right.grown free.1) has) in
        let puts = binary_puts code operation one.0.0 two.0.0 two.0.1 t made left.some right.some two.2 clean in
        means_on code start s one.0.1 t one.0.0 made (λ b names. value_of b names l) (λ b names v. value_of b names r >>= binary_value operation v) left
        (two_turns code start one.0.1 two.0.1 t puts.op two.0.0 made (λ b names. value_of b names r) (binary_value operation) right puts.is puts.closed has puts.some puts.kind puts.does)
    expr_means (chain first steps) room s t made h clean has =
        let one = bind_ok (expr_code schema room first s) (λ p. steps_code schema room p.0 steps p.1) (made, t) h in
        let more = steps_mean steps room one.0.0 one.0.1 t made one.2 clean has in
        let left = expr_means first room s one.0.1 one.0.0 one.1 more.clean (has_before code one.0.1 t more.grown has) in
        means_on code start s one.0.1 t one.0.0 made (λ b names. value_of b names first) (λ b names v. after_steps b names steps v) left
        (more.turns left.some (λ taken. left.kind (subst (λ (c : Scope). AreTaken c.kinds c.names) left.scope taken)))
    expr_means (size_of sequence) room s t made h clean has =
        let one = bind_ok (sequence_code schema room sequence s) (λ p. put ops.Size p.1 >>= λ u. Ok (Some kinds.Int, u)) (made, t) h in
        let two = bind_ok (put ops.Size one.0.1) (λ u. Ok (Some kinds.Int, u)) (made, t) one.2 in
        let same = pair_ok (Some kinds.Int) made two.0 t two.2 in
        let is : t ≡ with_op ops.Size one.0.1 = sym same.1 ∙ put_ok ops.Size one.0.1 two.0 two.1 in
        let units = sequence_means sequence room s one.0.1 one.0.0 one.1 (clean_before ops.Size one.0.1 t is clean) (has_before code one.0.1 t (grown_op ops.Size one.0.1 t is) has) in
        size_means schema sf code start good s one.0.1 t made (λ b names. units_of b names sequence) units is clean has (sym same.0)

    steps_mean : (steps : Steps) (room : ℕ) (left : Made) (s t : Buffer) (made : Made) → steps_code schema room left steps s ≡ Ok (made, t) → Clean t → Has code t → Steps' s t left made (λ b names v. after_steps b names steps v)
    steps_mean no_step room left s t made h clean has = steps_end left s t made h clean
    steps_mean (apply operator e steps) room left s t made h clean has =
        let one = bind_ok (expr_code schema (room - 1) e s) (λ p. operator_code operator left p.0 p.1 >>= λ q. steps_code schema room q.0 steps q.1) (made, t) h in
        let two = bind_ok (operator_code operator left one.0.0 one.0.1) (λ q. steps_code schema room q.0 steps q.1) (made, t) one.2 in
        let more = steps_mean steps room two.0.0 two.0.1 t made two.2 clean has in
        let puts = operator_puts code operator left one.0.0 one.0.1 two.0.1 two.0.0 two.1 more.clean in
        let has_op = has_before code two.0.1 t more.grown has in
        let right = expr_means e (room - 1) s one.0.1 one.0.0 one.1 (clean_before puts.op one.0.1 two.0.1 puts.is more.clean) (has_before code one.0.1 two.0.1 (grown_op puts.op one.0.1 two.0.1 puts.is) has_op) in
        let both = two_turns code start s one.0.1 two.0.1 puts.op one.0.0 two.0.0 (λ b names. value_of b names e) (operator_value operator) right puts.is puts.closed has_op puts.some puts.kind puts.does in
        record {
          grown = grown_on s two.0.1 t both.grown more.grown;
          clean = right.clean;
          turns = λ some known.
              turns_as code start s t made made (λ b names v. (value_of b names e >>= operator_value operator v) >>= after_steps b names steps) (λ b names v. value_of b names e >>= λ w. operator_value operator v w >>= after_steps b names steps) refl
              (λ b names v. bind_assoc (value_of b names e) (operator_value operator v) (after_steps b names steps))
              (turns_on code start s two.0.1 t two.0.0 made (λ b names v. value_of b names e >>= operator_value operator v) (λ b names v. after_steps b names steps v) both (more.turns puts.some (λ taken. puts.kind)));
        }
    steps_mean (divide division by steps) room left s t made h clean has =
        let one = bind_ok (division_code division by left s) (λ p. steps_code schema room p.0 steps p.1) (made, t) h in
        let more = steps_mean steps room one.0.0 one.0.1 t made one.2 clean has in
        let turn = division_turns code start division by left s one.0.1 one.0.0 one.1 more.clean (has_before code one.0.1 t more.grown has) in
        record {
          grown = grown_on s one.0.1 t turn.grown more.grown;
          clean = turn.clean;
          turns = λ some known.
              turns_on code start s one.0.1 t one.0.0 made (λ b names v. division_value division by v) (λ b names v. after_steps b names steps v) turn
              (more.turns turn.some (λ taken. turn.kind (subst (λ (c : Scope). AreTaken c.kinds c.names) turn.scope taken)));
        }

    pub sequence_means : (sequence : SequenceTree) (room : ℕ) (s t : Buffer) (class : Option ℕ) → sequence_code schema room sequence s ≡ Ok (class, t) → Clean t → Has code t → MeansUnits schema sf code start good s t (λ b names. units_of b names sequence)
    sequence_means (linked unit slot) room s t class h clean has = links_mean schema sf code start good unit slot room s t class h clean has
    sequence_means (found name space p) room s t class h clean has =
        let was = known (space_named schema space) (known (class_named schema name) s) in
        let one = bind_ok (pattern_code schema room (space_named schema space) p no_operand was) (λ q. query_code (class_named schema name) (space_named schema space) q.1 q.0 room q.2) (class, t) h in
        by_names name space p room s one.0.2 t one.0.1 one.0.0 class clean has (class_named schema name) (space_named schema space) refl refl
        (λ free own. pattern_means p room (space_named schema space) was one.0.2 no_operand one.0.1 one.0.0 one.1 free own) one.2

    pattern_means : (p : PatternTree) (room : ℕ) (space : Option ℕ) (s t : Buffer) (asked after : Asked) (made : Tree) → pattern_code schema room space p asked s ≡ Ok (made, after, t) → Clean t → Has code t
        → Asks schema code start good s t space asked after made (λ b names k vs. pattern_of b names k p vs)
    pattern_means all room space s t asked after made h clean has =
        let same = triple_ok nodes.all made (node_counted asked) after (node_noted asked s) t h in
        let free : node_noted asked s ≡ s = node_free schema code start good asked s (ap (λ (x : Buffer). x.flaw) same.2 ∙ clean) in
        let here : s ≡ t = sym free ∙ same.2 in
        subst (λ u. Asks schema code start good s u space asked after made (λ b names k vs. Ok (nodes.all, vs))) here
        (subst (λ m. Asks schema code start good s s space asked after m (λ b names k vs. Ok (nodes.all, vs))) same.0
        (asks_none schema code start good s space asked after nodes.all (ap (λ (x : Buffer). x.flaw) here ∙ clean) (ap (λ (a : Asked). length a.kinds) same.1)))
    pattern_means (and_of ps) room space s t asked after made h clean has =
        let one = bind_ok (patterns_code schema room space ps (node_counted asked) (node_noted asked s)) (λ (q : Patterned Trees). Ok (nodes.and_of q.0, q.1, q.2)) (made, after, t) h in
        let same = triple_ok (nodes.and_of one.0.0) made one.0.1 after one.0.2 t one.2 in
        let inner = patterns_mean ps room space (node_noted asked s) one.0.2 (node_counted asked) one.0.1 one.0.0 one.1 (ap (λ (x : Buffer). x.flaw) same.2 ∙ clean) (subst (Has code) (sym same.2) has) in
        around (nodes.and_of one.0.0, one.0.1, one.0.2) (made, after, t) s space asked (λ b names k vs. patterns_of b names k ps vs >>= λ q. Ok (nodes.and_of q.0, q.1)) (same_ok (nodes.and_of one.0.0, one.0.1, one.0.2) (made, after, t) one.2)
        (asks_map schema code start good nodes.and_of s one.0.2 space asked one.0.1 one.0.0 (λ b names k vs. patterns_of b names k ps vs)
        (asks_node schema code start good s one.0.2 space asked one.0.1 one.0.0 (λ b names k vs. patterns_of b names k ps vs) inner))
    pattern_means (or_of ps) room space s t asked after made h clean has =
        let one = bind_ok (patterns_code schema room space ps (node_counted asked) (node_noted asked s)) (λ (q : Patterned Trees). Ok (nodes.or_of q.0, q.1, q.2)) (made, after, t) h in
        let same = triple_ok (nodes.or_of one.0.0) made one.0.1 after one.0.2 t one.2 in
        let inner = patterns_mean ps room space (node_noted asked s) one.0.2 (node_counted asked) one.0.1 one.0.0 one.1 (ap (λ (x : Buffer). x.flaw) same.2 ∙ clean) (subst (Has code) (sym same.2) has) in
        around (nodes.or_of one.0.0, one.0.1, one.0.2) (made, after, t) s space asked (λ b names k vs. patterns_of b names k ps vs >>= λ q. Ok (nodes.or_of q.0, q.1)) (same_ok (nodes.or_of one.0.0, one.0.1, one.0.2) (made, after, t) one.2)
        (asks_map schema code start good nodes.or_of s one.0.2 space asked one.0.1 one.0.0 (λ b names k vs. patterns_of b names k ps vs)
        (asks_node schema code start good s one.0.2 space asked one.0.1 one.0.0 (λ b names k vs. patterns_of b names k ps vs) inner))
    pattern_means (not_of p) room space s t asked after made h clean has =
        let one = bind_ok (pattern_code schema room space p (node_counted asked) (node_noted asked s)) (λ (q : Patterned Tree). Ok (nodes.not_of q.0, q.1, q.2)) (made, after, t) h in
        let same = triple_ok (nodes.not_of one.0.0) made one.0.1 after one.0.2 t one.2 in
        let inner = pattern_means p room space (node_noted asked s) one.0.2 (node_counted asked) one.0.1 one.0.0 one.1 (ap (λ (x : Buffer). x.flaw) same.2 ∙ clean) (subst (Has code) (sym same.2) has) in
        around (nodes.not_of one.0.0, one.0.1, one.0.2) (made, after, t) s space asked (λ b names k vs. pattern_of b names k p vs >>= λ q. Ok (nodes.not_of q.0, q.1)) (same_ok (nodes.not_of one.0.0, one.0.1, one.0.2) (made, after, t) one.2)
        (asks_map schema code start good nodes.not_of s one.0.2 space asked one.0.1 one.0.0 (λ b names k vs. pattern_of b names k p vs)
        (asks_node schema code start good s one.0.2 space asked one.0.1 one.0.0 (λ b names k vs. pattern_of b names k p vs) inner))
    pattern_means (test dim relation e) room space s t asked after made h clean has =
        let was = node_noted asked s in
        let one = bind_ok (expr_code schema (room - length asked.kinds) e was) (λ q. Ok (test_code schema space dim relation q.0 (node_counted asked) q.1)) (made, after, t) h in
        asks_as schema code start good s was t space asked after made (λ b names k vs. value_of b names e >>= λ v. ok_or (index_of (dims_of b.schema k) dim) meaningless >>= λ index. Ok (tested relation index (length vs), vs ++ v ∷ [])) (node_free schema code start good asked s)
        (test_asks schema code start good dim relation space was one.0.1 t asked after one.0.0 made (λ b names. value_of b names e)
        (λ free here. expr_means e (room - length asked.kinds) was one.0.1 one.0.0 one.1 free (subst (Has code) (sym here) has)) one.2 clean)

    patterns_mean : (ps : Patterns) (room : ℕ) (space : Option ℕ) (s t : Buffer) (asked after : Asked) (made : Trees) → patterns_code schema room space ps asked s ≡ Ok (made, after, t) → Clean t → Has code t
        → Asks schema code start good s t space asked after made (λ b names k vs. patterns_of b names k ps vs)
    patterns_mean no_pattern room space s t asked after made h clean has =
        let same = triple_ok no_more made asked after s t h in
        around (no_more, asked, s) (made, after, t) s space asked (λ b names k vs. Ok (no_more, vs)) (same_ok (no_more, asked, s) (made, after, t) h)
        (asks_none schema code start good s space asked asked no_more (ap (λ (x : Buffer). x.flaw) same.2 ∙ clean) refl)
    patterns_mean (more p ps) room space s t asked after made h clean has =
        let one = bind_ok (pattern_code schema room space p asked s) (λ (q : Patterned Tree). patterns_code schema room space ps q.1 q.2 >>= λ (r : Patterned Trees). Ok (nodes.more q.0 r.0, r.1, r.2)) (made, after, t) h in
        let two = bind_ok (patterns_code schema room space ps one.0.1 one.0.2) (λ (r : Patterned Trees). Ok (nodes.more one.0.0 r.0, r.1, r.2)) (made, after, t) one.2 in
        let same = triple_ok (nodes.more one.0.0 two.0.0) made two.0.1 after two.0.2 t two.2 in
        let own : Has code two.0.2 = subst (Has code) (sym same.2) has in
        let rest = patterns_mean ps room space one.0.2 two.0.2 one.0.1 two.0.1 two.0.0 two.1 (ap (λ (x : Buffer). x.flaw) same.2 ∙ clean) own in
        let first = pattern_means p room space s one.0.2 asked one.0.1 one.0.0 one.1 rest.clean (has_before code one.0.2 two.0.2 rest.grown own) in
        around (nodes.more one.0.0 two.0.0, two.0.1, two.0.2) (made, after, t) s space asked (λ b names k vs. pattern_of b names k p vs >>= λ x. patterns_of b names k ps x.1 >>= λ y. Ok (nodes.more x.0 y.0, y.1)) (same_ok (nodes.more one.0.0 two.0.0, two.0.1, two.0.2) (made, after, t) two.2)
        (asks_on schema code start good nodes.more s one.0.2 two.0.2 space asked one.0.1 two.0.1 one.0.0 two.0.0 (λ b names k vs. pattern_of b names k p vs) (λ b names k vs. patterns_of b names k ps vs) first rest)
