-- A query finds what its pattern and its operands say.
use Rattle.std.proofs.Common.{◌≡◌, ◌⊎◌, inl, inr, ℕ, ◌+◌, Bool, true, false, cond, List, [], ◌∷◌, ◌++◌, length, reverse, take, drop, Option, Some, None, Result, Ok, Err, refl, subst, sym, ap, ◌∙◌, arith, length-append}
use Rattle.std.specs.Prelude.{slice_get, nat_le, nat_lt, option_and_then, option_map, ◌==◌}
use Rattle.std.proofs.lemmas.List.{append-nil, reverse-append, length-reverse}
use Rattle.std.proofs.Math.Seq.{take-append_seam, drop-append_seam}
use Rattle.bb_basis.specs.Results.{◌>>=◌, ok_or, try_map}
use Rattle.bb_basis.proofs.ResultLemmas.{bind_ok, guard_ok}
use Rattle.bb_code.specs.Code.{Code}
use Rattle.bb_code.specs.declared.parts.TheConstants.{QUERY_LIMIT}
use Rattle.bb_code.specs.declared.frame.Kind.{Kind}
use Rattle.bb_code.specs.declared.frame.Kind.TheVariants as kinds
use Rattle.bb_code.specs.declared.op.Op.TheVariants as ops
use Rattle.bb_pattern.specs.declared.query.Query.{Query}
use Rattle.bb_pattern.specs.declared.fits.TheConstants.{OPERAND_LIMIT}
use Rattle.bb_pattern.specs.declared.value.OperandKind.{OperandKind}
use Rattle.bb_pattern.specs.declared.value.OperandKind.TheVariants as operands
use Rattle.bb_pattern.specs.Trees.{Tree, all}
use Rattle.bb_pattern.specs.declared.fault.PatternFault.{PatternFault}
use Rattle.bb_pattern.specs.declared.value.DimValue.{DimValue}
use Rattle.bb_pattern.specs.Fits.{query_fits}
use Rattle.bb_query.specs.Answer.{answer}
use Rattle.bb_schema.specs.declared.space.Dim.{Dim}
use Rattle.bb_schema.specs.Schema.{Schema, dims_of}
use Rattle.bb_lang.specs.Relation.{Relation}
use Rattle.bb_lang.specs.Relation.TheVariants as relations
use Rattle.bb_compile_scope.specs.declared.fault.CompileFault.{CompileFault}
use Rattle.bb_compile_scope.specs.declared.fault.CompileFault.TheVariants.{At}
use Rattle.bb_compile_scope.specs.declared.fault.TextFlaw.TheVariants.{Unknown, Limit}
use Rattle.bb_compile_scope.specs.declared.scope.Scope.{Scope}
use Rattle.bb_compile_scope.specs.Slots.{index_of, in_byte, operand_due, dimension_at, dimension}
use Rattle.bb_compile.specs.declared.asked.Asked.{Asked}
use Rattle.bb_compile.specs.Queries.{Patterned, no_operand, node_counted, node_noted, with_operand, operand_number, operand_noted, test_tree, test_at, test_code, query_code}
use Rattle.bb_theorem_accepted.specs.Buffer.{Buffer}
use Rattle.bb_theorem_accepted.specs.Buffers.{noted, due, put_value, asked_query}
use Rattle.bb_theorem_accepted.specs.Operations.{Made}
use Rattle.bb_board.specs.Board.{Board}
use Rattle.bb_machine.specs.Changing.{State}
use Rattle.bb_machine.specs.declared.halt.Halt.{Halt}
use Rattle.bb_machine.specs.Machine.{Machine, with_stack, go_to, pop_many}
use Rattle.bb_machine.specs.Reading as reading
use Rattle.bb_machine.specs.Reading.{push_found, right_query, operands_due, find}
use Rattle.bb_machine.specs.Step.{step, keeps}
use Rattle.bb_machine.specs.declared.outcome.Stuck.TheVariants as reasons
use Rattle.bb_machine.specs.Value.{stuck}
use Rattle.bb_machine.specs.declared.value.Value.{Value}
use Rattle.bb_machine.specs.declared.value.Value.TheVariants.{Int, Text, Bool as Truth, Label, Interval, Unit as One, Seq}
use Rattle.bb_theorem_accepted.proofs.Laws.{Clean, Grown, Has, with_op, not_failed, never_noted, is_due, put_value_ok, grown_none, grown_op, grown_on, has_before, front, seam, pair_ok, clean_before, triple_ok}
use Rattle.bb_theorem_meaning.specs.Meaning.{Meaning, Name, meaningless}
use Rattle.bb_theorem_meaning.specs.Expressions.{tested, operand, found_units}
use Rattle.bb_theorem_meaning.proofs.ComeLemmas.{Leaves, done_on, Comes, Gets, gets_none}
use Rattle.bb_theorem_meaning.proofs.MeansLemmas.{Means, part_gets, op_gets, Value₀}
use Rattle.bb_theorem_meaning.proofs.NameLemmas.{AreHeld}
use Rattle.bb_theorem_meaning.proofs.OpLemmas.{Pushed, Like}
use Rattle.bb_theorem_meaning.proofs.AtomLemmas.{Good}
use Rattle.bb_theorem_meaning.proofs.SequenceLemmas.{as_sequence, found_leaves}

-- values that were put on the stack of another state, one after another
pub record Piled (n : ℕ) (base : State) (vs : List Value) (next : State) : Type 0 where
  pub place : next.0.place ≡ n
  pub locals : next.0.locals ≡ base.0.locals
  pub stack : next.0.stack ≡ reverse vs ++ base.0.stack
  pub board : next.1 ≡ base.1

-- a pattern, and the values of its operands, on the stack
pub record Ready {X : Type 0} (n : ℕ) (base : State) (made : X) (after : Asked) (x : X × List Value) (next : State) : Type 0 where
  pub tree : x.0 ≡ made
  pub piled : Piled n base x.1 next
  pub count : length x.1 ≡ length after.kinds

-- ---- operands on the stack

pub pile : (vs rest : List Value) (v : Value) → v ∷ (reverse vs ++ rest) ≡ reverse (vs ++ v ∷ []) ++ rest
pile vs rest v = ap (λ l. l ++ rest) (sym (reverse-append vs (v ∷ [])))

reversed : (vs : List Value) → reverse (reverse vs) ≡ vs
reversed [] = refl
reversed (v ∷ vs) = ap reverse (reverse-append (v ∷ []) vs) ∙ reverse-append (reverse vs) (v ∷ []) ∙ ap (λ l. v ∷ l) (reversed vs)

-- what is popped of a pile
pub popped : (n : ℕ) (m : Machine) (vs rest : List Value) → m.stack ≡ reverse vs ++ rest → n ≡ length vs → (pop_many n m ≡ Ok (vs, with_stack rest m)) ⊎ (pop_many n m ≡ stuck reasons.Missing)
unfolding pop_many
popped n m vs rest is count = by_few (nat_lt (length m.stack) n)
  where
    all : n ≡ length (reverse vs)
    all = count ∙ sym (length-reverse vs)

    top : reverse (take n m.stack) ≡ vs
    top = ap (λ l. reverse (take n l)) is ∙ ap (λ k. reverse (take k (reverse vs ++ rest))) all ∙ ap reverse (take-append_seam (reverse vs) rest) ∙ reversed vs

    below : drop n m.stack ≡ rest
    below = ap (drop n) is ∙ ap (λ k. drop k (reverse vs ++ rest)) all ∙ drop-append_seam (reverse vs) rest

    by_few : (few : Bool) → ((let r : Result (List Value × Machine) Halt = cond few (stuck reasons.Missing) (Ok (reverse (take n m.stack), with_stack (drop n m.stack) m)) in r) ≡ Ok (vs, with_stack rest m))
        ⊎ ((let r : Result (List Value × Machine) Halt = cond few (stuck reasons.Missing) (Ok (reverse (take n m.stack), with_stack (drop n m.stack) m)) in r) ≡ stuck reasons.Missing)
    by_few true = inr refl
    by_few false = inl (ap (λ l. Ok (l, with_stack (drop n m.stack) m)) top ∙ ap (λ l. Ok (vs, with_stack l m)) below)

-- ---- operands of the kinds that are due

one_operand : (k : OperandKind) (v : Value) → ((d : DimValue) × (reading.operand_due k v ≡ Ok d) × (operand v ≡ Ok d)) ⊎ (reading.operand_due k v ≡ stuck reasons.Kind)
one_operand operands.Interval (Interval low high) = inl (_, refl, refl)
one_operand operands.Interval (Int x) = inr refl
one_operand operands.Interval (Text x) = inr refl
one_operand operands.Interval (Truth x) = inr refl
one_operand operands.Interval (Label x y) = inr refl
one_operand operands.Interval (One x) = inr refl
one_operand operands.Interval (Seq x) = inr refl
one_operand (operands.Label set) (Label of label) = by_set (of == set) refl
  where
    by_set : (same : Bool) → (of == set) ≡ same → ((d : DimValue) × (reading.operand_due (operands.Label set) (Label of label) ≡ Ok d) × (operand (Label of label) ≡ Ok d)) ⊎ (reading.operand_due (operands.Label set) (Label of label) ≡ stuck reasons.Kind)
    by_set true is = inl (_, rw is refl, refl)
    by_set false is = inr (rw is refl)
one_operand (operands.Label set) (Int x) = inr refl
one_operand (operands.Label set) (Text x) = inr refl
one_operand (operands.Label set) (Truth x) = inr refl
one_operand (operands.Label set) (Interval x y) = inr refl
one_operand (operands.Label set) (One x) = inr refl
one_operand (operands.Label set) (Seq x) = inr refl

all_operands : (ks : List OperandKind) (vs : List Value) → length vs ≡ length ks → ((ds : List DimValue) × (operands_due ks vs ≡ Ok ds) × (try_map operand vs ≡ Ok ds)) ⊎ (operands_due ks vs ≡ stuck reasons.Kind)
unfolding operands_due try_map
all_operands [] [] count = inl ([], refl, refl)
all_operands [] (v ∷ vs) count = absurd cc
all_operands (k ∷ ks) [] count = absurd cc
all_operands (k ∷ ks) (v ∷ vs) count = by_first (one_operand k v) (all_operands ks vs (omega arith))
  where
    by_first : ((d : DimValue) × (reading.operand_due k v ≡ Ok d) × (operand v ≡ Ok d)) ⊎ (reading.operand_due k v ≡ stuck reasons.Kind)
        → ((ds : List DimValue) × (operands_due ks vs ≡ Ok ds) × (try_map operand vs ≡ Ok ds)) ⊎ (operands_due ks vs ≡ stuck reasons.Kind)
        → ((ds : List DimValue) × ((reading.operand_due k v >>= λ first. operands_due ks vs >>= λ others. Ok (first ∷ others)) ≡ Ok ds) × ((operand v >>= λ first. try_map operand vs >>= λ others. Ok (first ∷ others)) ≡ Ok ds))
        ⊎ ((reading.operand_due k v >>= λ first. operands_due ks vs >>= λ others. Ok (first ∷ others)) ≡ stuck reasons.Kind)
    by_first (inl one) (inl more) = inl (one.0 ∷ more.0, rw (one.1, more.1) refl, rw (one.2, more.2) refl)
    by_first (inl one) (inr none) = inr (rw (one.1, none) refl)
    by_first (inr none) rest = inr (rw none refl)

module _ (schema : Schema) (code : Code) (start : State) (good : (n : ℕ) (st : State) → Comes code start n (Ok st) → Good schema st.1) where
  -- what a pattern is by its text, after the values of other operands
  abbrev pub Pattern₁ : Type 0 → Type 0
  Pattern₁ X = Board → List Name → (space : ℕ) → List Value → Meaning (X × List Value)

  -- what is laid out from one buffer to another pushes the operands of a pattern
  pub record Asks {X : Type 0} (s t : Buffer) (space : Option ℕ) (asked after : Asked) (made : X) (pattern : Pattern₁ X) : Type 0 where
    pub grown : Grown s t
    pub clean : Clean s
    pub scope : t.scope ≡ s.scope
    pub gets : (k : ℕ) → space ≡ Some k → (st base : State) (names : List Name) (vs : List Value) → Comes code start (length s.ops) (Ok st) → Piled (length s.ops) base vs st → AreHeld base.0.locals s.scope.names names
        → length vs ≡ length asked.kinds → Gets code start (Ready (length t.ops) base made after) (pattern base.1 names k vs) (length t.ops)

  -- nothing is laid out
  pub asks_none : {X : Type 0} (s : Buffer) (space : Option ℕ) (asked after : Asked) (made : X) → Clean s → length asked.kinds ≡ length after.kinds → Asks s s space asked after made (λ b names k vs. Ok (made, vs))
  asks_none s space asked after made clean same = record {
    grown = grown_none s s refl refl refl;
    clean = clean;
    scope = refl;
    gets = λ k is st base names vs c piled held count.
        gets_none code start (Ready (length s.ops) base made after) (made, vs) (length s.ops) st c (record { tree = refl; piled = piled; count = count ∙ same });
  }

  -- a pattern around others
  pub asks_map : {X Y : Type 0} (f : X → Y) (s t : Buffer) (space : Option ℕ) (asked after : Asked) (made : X) (pattern : Pattern₁ X) → Asks s t space asked after made pattern
      → Asks s t space asked after (f made) (λ b names k vs. pattern b names k vs >>= λ p. Ok (f p.0, p.1))
  asks_map {X} {Y} f s t space asked after made pattern m = record {
    grown = m.grown;
    clean = m.clean;
    scope = m.scope;
    gets = λ k is st base names vs c piled held count.
        part_gets code start t t (Ready (length t.ops) base made after) (Ready (length t.ops) base (f made) after) (pattern base.1 names k vs) (λ (p : X × List Value). Ok (f p.0, p.1)) (grown_none t t refl refl refl) (m.gets k is st base names vs c piled held count)
        (λ x next here r. gets_none code start (Ready (length t.ops) base (f made) after) (f x.0, x.1) (length t.ops) next here (record { tree = ap f r.tree; piled = r.piled; count = r.count }));
  }

  -- a pattern, and others after it
  pub asks_on : {X Y Z : Type 0} (f : X → Y → Z) (s t u : Buffer) (space : Option ℕ) (asked between after : Asked) (one : X) (more : Y) (p : Pattern₁ X) (q : Pattern₁ Y) → Asks s t space asked between one p → Asks t u space between after more q
      → Asks s u space asked after (f one more) (λ b names k vs. p b names k vs >>= λ x. q b names k x.1 >>= λ y. Ok (f x.0 y.0, y.1))
  asks_on {X} {Y} f s t u space asked between after one more p q first then = record {
    grown = grown_on s t u first.grown then.grown;
    clean = first.clean;
    scope = then.scope ∙ first.scope;
    gets = λ k is st base names vs c piled held count.
        part_gets code start t u (Ready (length t.ops) base one between) (Ready (length u.ops) base (f one more) after) (p base.1 names k vs) (λ (x : X × List Value). q base.1 names k x.1 >>= λ (y : Y × List Value). Ok (f x.0 y.0, y.1)) then.grown
        (first.gets k is st base names vs c piled held count)
        (λ x next here r.
        part_gets code start u u (Ready (length u.ops) base more after) (Ready (length u.ops) base (f one more) after) (q base.1 names k x.1) (λ (y : Y × List Value). Ok (f x.0 y.0, y.1)) (grown_none u u refl refl refl)
        (then.gets k is next base names x.1 here r.piled (subst (λ (d : Scope). AreHeld base.0.locals d.names names) (sym first.scope) held) r.count)
        (λ y last there z. gets_none code start (Ready (length u.ops) base (f one more) after) (f x.0 y.0, y.1) (length u.ops) last there
        (record { tree = ap (λ v. f v y.0) r.tree ∙ ap (f one) z.tree; piled = z.piled; count = z.count })));
  }

  -- what asks from a buffer asks from any that is equal to it where no flaw was noted
  pub asks_as : {X : Type 0} (s was t : Buffer) (space : Option ℕ) (asked after : Asked) (made : X) (pattern : Pattern₁ X) → (Clean was → was ≡ s) → Asks was t space asked after made pattern → Asks s t space asked after made pattern
  asks_as s was t space asked after made pattern same m = subst (λ u. Asks u t space asked after made pattern) (same m.clean) m

  pub node_free : (asked : Asked) (s : Buffer) → Clean (node_noted asked s) → node_noted asked s ≡ s
  node_free asked s clean = (not_failed (asked.nodes == 0) Limit s clean).1

  -- after a node of a pattern
  pub asks_node : {X : Type 0} (s t : Buffer) (space : Option ℕ) (asked after : Asked) (made : X) (pattern : Pattern₁ X) → Asks (node_noted asked s) t space (node_counted asked) after made pattern → Asks s t space asked after made pattern
  asks_node s t space asked after made pattern m =
      let n = asks_as s (node_noted asked s) t space (node_counted asked) after made pattern (node_free asked s) m in
      record { grown = n.grown; clean = n.clean; scope = n.scope; gets = λ k is st base names vs c piled held count. n.gets k is st base names vs c piled held count }

  -- ---- a test

  same_test : (relation : Relation) (dim operand : ℕ) → test_tree relation dim operand ≡ tested relation dim operand
  same_test relations.Within dim operand = refl
  same_test relations.Covers dim operand = refl
  same_test relations.Overlaps dim operand = refl
  same_test relations.Less dim operand = refl
  same_test relations.More dim operand = refl
  same_test relations.Is dim operand = refl

  -- the number of the dimension of a name
  dimension_ok : (space : ℕ) (name : List ℕ) (relation : Relation) (d : ℕ × Kind) → dimension schema space name relation ≡ Some d → index_of (dims_of schema space) name ≡ Some d.0
  unfolding dimension
  dimension_ok space name relation d h = by_index (index_of (dims_of schema space) name) h
    where
      by_byte : (i : ℕ) (k : Kind) (small : Bool) → option_map (λ n. (n, k)) (let o : Option ℕ = cond small (Some i) None in o) ≡ Some d → i ≡ d.0
      by_byte i k true h = let e : (i, k) ≡ d = cc in ap (λ (p : ℕ × Kind). p.0) e
      by_byte i k false h = absurd cc

      by_due : (i : ℕ) (o : Option Kind) → option_and_then (λ k. option_map (λ n. (n, k)) (in_byte i)) o ≡ Some d → i ≡ d.0
      by_due i None h = absurd cc
      by_due i (Some k) h = by_byte i k (nat_lt i 256) h

      by_dim : (i : ℕ) (o : Option Dim) → option_and_then (λ e. option_and_then (λ k. option_map (λ n. (n, k)) (in_byte i)) (operand_due relation e.set)) o ≡ Some d → i ≡ d.0
      by_dim i None h = absurd cc
      by_dim i (Some e) h = by_due i (operand_due relation e.set) h

      by_index : (o : Option ℕ) → option_and_then (dimension_at (dims_of schema space) relation) o ≡ Some d → o ≡ Some d.0
      by_index None h = absurd cc
      by_index (Some i) h = ap (λ n. Some n) (by_dim i (slice_get (dims_of schema space) i) h)

  -- what a test means once its operand has a value
  abbrev pub test_value : (dim : List ℕ) → Relation → Board → ℕ → List Value → Value → Meaning (Tree × List Value)
  test_value dim relation b k vs v = ok_or (index_of (dims_of b.schema k) dim) meaningless >>= λ index. Ok (tested relation index (length vs), vs ++ v ∷ [])

  longer : (asked : Asked) (k : Kind) → nat_le OPERAND_LIMIT (length asked.kinds) ≡ false → (operand_number asked ≡ length asked.kinds) × (length (with_operand k asked).kinds ≡ length asked.kinds + 1)
  longer asked k few = (rw few refl, rw few (length-append asked.kinds _))

  pub test_asks : (dim : List ℕ) (relation : Relation) (space : Option ℕ) (s t u : Buffer) (asked after : Asked) (operand : Made) (made : Tree) (value : Value₀)
      → (Clean t → t ≡ u → Means code start s t operand value) → (let r : Result (Patterned Tree) CompileFault = Ok (test_code schema space dim relation operand (node_counted asked) t) in r) ≡ Ok (made, after, u) → Clean u
      → Asks s u space asked after made (λ b names k vs. value b names >>= test_value dim relation b k vs)
  unfolding test_code
  test_asks dim relation None s t u asked after operand made value means h clean =
      let same = triple_ok all made (node_counted asked) after t u h in
      let m = means (ap (λ (x : Buffer). x.flaw) same.2 ∙ clean) same.2 in
      subst (λ x. Asks s x None asked after made (λ b names k vs. value b names >>= test_value dim relation b k vs)) same.2
      (record { grown = m.grown; clean = m.clean; scope = m.scope; gets = λ k is st base names vs c piled held count. absurd (let e = is in cc) })
  test_asks dim relation (Some space) s t u asked after operand made value means h clean = by_dimension (dimension schema space dim relation) refl h
    where
      by_dimension : (o : Option (ℕ × Kind)) → dimension schema space dim relation ≡ o → (let r : Result (Patterned Tree) CompileFault = Ok (test_at relation o operand (node_counted asked) t) in r) ≡ Ok (made, after, u)
          → Asks s u (Some space) asked after made (λ b names k vs. value b names >>= test_value dim relation b k vs)
      by_dimension None is h = never_noted Unknown t (ap (λ (x : Buffer). x.flaw) (triple_ok all made (node_counted asked) after (noted Unknown t) u h).2 ∙ clean)
      by_dimension (Some d) is h =
          let noted_is = operand_noted (node_counted asked) (due operand d.1 t) in
          let same = triple_ok (test_tree relation d.0 (operand_number (node_counted asked))) made (with_operand d.1 (node_counted asked)) after noted_is u h in
          let few = not_failed (nat_le OPERAND_LIMIT (length asked.kinds)) Limit (due operand d.1 t) (ap (λ (x : Buffer). x.flaw) same.2 ∙ clean) in
          let right = is_due operand d.1 t (sym (ap (λ (x : Buffer). x.flaw) few.1) ∙ (ap (λ (x : Buffer). x.flaw) same.2 ∙ clean)) in
          let here : t ≡ u = sym right ∙ (sym few.1 ∙ same.2) in
          let m = means (ap (λ (x : Buffer). x.flaw) here ∙ clean) here in
          let more = longer (node_counted asked) d.1 few.0 in
          subst (λ x. Asks s x (Some space) asked after made (λ b names k vs. value b names >>= test_value dim relation b k vs)) here
          (record {
            grown = m.grown;
            clean = m.clean;
            scope = m.scope;
            gets = λ k at st base names vs c piled held count.
                let schema_is = ap (λ (x : Board). x.schema) (sym piled.board) ∙ (good (length s.ops) st c).schema in
                let own : space ≡ k = cc in
                let index : index_of (dims_of base.1.schema k) dim ≡ Some d.0 = ap (λ z. index_of (dims_of z k) dim) schema_is ∙ (ap (λ n. index_of (dims_of schema n) dim) (sym own) ∙ dimension_ok space dim relation d is) in
                part_gets code start t t (Pushed (length t.ops) st) (Ready (length t.ops) base made after) (value base.1 names) (test_value dim relation base.1 k vs) (grown_none t t refl refl refl)
                (subst (λ b. Gets code start (Pushed (length t.ops) st) (value b names) (length t.ops)) piled.board (m.gets st names c (subst (λ l. AreHeld l s.scope.names names) (sym piled.locals) held)))
                (λ v next there p.
                let says : test_value dim relation base.1 k vs v ≡ Ok (tested relation d.0 (length vs), vs ++ v ∷ []) = rw index refl in
                subst (λ r. Gets code start (Ready (length t.ops) base made after) r (length t.ops)) (sym says)
                (gets_none code start (Ready (length t.ops) base made after) (tested relation d.0 (length vs), vs ++ v ∷ []) (length t.ops) next there
                (record {
                  tree = ap (tested relation d.0) (count ∙ sym more.0) ∙ (sym (same_test relation d.0 (operand_number (node_counted asked))) ∙ same.0);
                  piled = record { place = p.place; locals = p.locals ∙ piled.locals; stack = p.stack ∙ (ap (λ l. v ∷ l) piled.stack ∙ pile vs base.0.stack v); board = p.board ∙ piled.board };
                  count = length-append vs (v ∷ []) ∙ (ap (λ n. n + 1) count ∙ (sym more.1 ∙ ap (λ (a : Asked). length a.kinds) same.1));
                })));
          })

  -- ---- the query

  find_on : (i : ℕ) (q : Query) (m : Machine) (b : Board) → slice_get code.queries i ≡ Some q
      → step code (ops.Find i) (m, b) ≡ keeps b (pop_many (length q.kinds) m >>= λ p. right_query b q >>= λ _. operands_due q.kinds p.0 >>= λ ds. push_found (answer b.schema b.world.units b.world.spaces q ds) p.1)
  unfolding step find
  find_on i q m b is = rw is refl

  module _ (class space : ℕ) (asked : Asked) (pattern : Tree) where
    abbrev q : Query
    q = record { class = class; space = space; kinds = asked.kinds; pattern = pattern }

    -- the units that are found, for the values of the operands
    abbrev pub found_by : Board → Tree × List Value → Meaning (List ℕ)
    found_by b p = try_map operand p.1 >>= λ ds. Ok (found_units b class space p.0 ds)

    find_does : (i n : ℕ) (base : State) (m : Machine) (b : Board) (vs : List Value) → slice_get code.queries i ≡ Some q → m.stack ≡ reverse vs ++ base.0.stack → Like n base (with_stack base.0.stack m) b → length vs ≡ length asked.kinds
        → Leaves (Pushed n base) (found_by b (pattern, vs) >>= as_sequence) (done_on b (step code (ops.Find i) (m, b)))
    unfolding right_query
    find_does i n base m b vs at stack like count =
        subst (λ r. Leaves (Pushed n base) says (done_on b r)) (sym (find_on i q m b at)) (by_pop (popped (length asked.kinds) m vs base.0.stack stack (sym count)))
      where
        says : Meaning Value
        says = found_by b (pattern, vs) >>= as_sequence

        left : Machine
        left = with_stack base.0.stack m

        by_operands : ((ds : List DimValue) × (operands_due asked.kinds vs ≡ Ok ds) × (try_map operand vs ≡ Ok ds)) ⊎ (operands_due asked.kinds vs ≡ stuck reasons.Kind)
            → Leaves (Pushed n base) says (done_on b (keeps b (operands_due asked.kinds vs >>= λ ds. push_found (answer b.schema b.world.units b.world.spaces q ds) left)))
        by_operands (inl ok) =
            let means : says ≡ as_sequence (found_units b class space pattern ok.0) = rw ok.2 refl in
            subst (λ r. Leaves (Pushed n base) says (done_on b (keeps b (r >>= λ ds. push_found (answer b.schema b.world.units b.world.spaces q ds) left)))) (sym ok.1)
            (subst (λ r. Leaves (Pushed n base) r (done_on b (keeps b (push_found (answer b.schema b.world.units b.world.spaces q ok.0) left)))) (sym means)
            (found_leaves (found_units b class space pattern ok.0) n base left b like))
        by_operands (inr none) = subst (λ r. Leaves (Pushed n base) says (done_on b (keeps b (r >>= λ ds. push_found (answer b.schema b.world.units b.world.spaces q ds) left)))) (sym none) tt

        by_fit : (r : Result (Unit {0}) PatternFault)
            → Leaves (Pushed n base) says (done_on b (keeps b ((let f : Result (Unit {0}) Halt = elim r [ Ok _ ↦ Ok tt | Err _ ↦ stuck reasons.Slot ] in f) >>= λ _. operands_due asked.kinds vs >>= λ ds. push_found (answer b.schema b.world.units b.world.spaces q ds) left)))
        by_fit (Ok u) = by_operands (all_operands asked.kinds vs count)
        by_fit (Err e) = tt

        by_pop : (pop_many (length asked.kinds) m ≡ Ok (vs, left)) ⊎ (pop_many (length asked.kinds) m ≡ stuck reasons.Missing)
            → Leaves (Pushed n base) says (done_on b (keeps b (pop_many (length asked.kinds) m >>= λ p. right_query b q >>= λ _. operands_due q.kinds p.0 >>= λ ds. push_found (answer b.schema b.world.units b.world.spaces q ds) p.1)))
        by_pop (inl ok) =
            subst (λ r. Leaves (Pushed n base) says (done_on b (keeps b (r >>= λ p. right_query b q >>= λ _. operands_due q.kinds p.0 >>= λ ds. push_found (answer b.schema b.world.units b.world.spaces q ds) p.1)))) (sym ok)
            (by_fit (query_fits b.schema q))
        by_pop (inr none) =
            subst (λ r. Leaves (Pushed n base) says (done_on b (keeps b (r >>= λ p. right_query b q >>= λ _. operands_due q.kinds p.0 >>= λ ds. push_found (answer b.schema b.world.units b.world.spaces q ds) p.1)))) (sym none) tt

    -- a query after its operands
    pub find_means : (room : ℕ) (s t u : Buffer) (found : Option ℕ) (value : Pattern₁ Tree) → (Clean t → Has code t → Asks s t (Some space) no_operand asked pattern value)
        → query_code (Some class) (Some space) asked pattern room t ≡ Ok (found, u) → Clean u → Has code u
        → Means code start s u (Some kinds.Int) (λ b names. (value b names space [] >>= found_by b) >>= as_sequence)
    unfolding query_code asked_query
    find_means room s t u found value asks h clean has =
        let one = bind_ok (asked_query q t) (λ p. put_value (ops.Find p.0) room p.1 >>= λ x. Ok (Some class, x)) (found, u) h in
        let two = bind_ok (put_value (ops.Find one.0.0) room one.0.1) (λ x. Ok (Some class, x)) (found, u) one.2 in
        let same = pair_ok (Some class) found two.0 u two.2 in
        let put = put_value_ok (ops.Find one.0.0) room one.0.1 two.0 two.1 (ap (λ (x : Buffer). x.flaw) same.1 ∙ clean) in
        let asked_is = pair_ok (length t.queries) one.0.0 more one.0.1 (guard_ok (nat_le QUERY_LIMIT (length t.queries)) (At Limit t.start) (Ok (length t.queries, more)) one.0 one.1).1 in
        let is : u ≡ with_op (ops.Find one.0.0) more = sym same.1 ∙ (put.0 ∙ ap (with_op (ops.Find one.0.0)) (sym asked_is.1)) in
        by_buffer one.0.0 is (sym asked_is.0)
      where
        more : Buffer
        more = record t { queries = t.queries ++ q ∷ [] }

        grown : Grown t more
        grown = record { ops = []; ops_are = sym (append-nil t.ops); texts = []; texts_are = sym (append-nil t.texts); queries = q ∷ []; queries_are = refl }

        by_buffer : (i : ℕ) → u ≡ with_op (ops.Find i) more → i ≡ length t.queries → Means code start s u (Some kinds.Int) (λ b names. (value b names space [] >>= found_by b) >>= as_sequence)
        by_buffer i is index =
            let free : Clean t = clean_before (ops.Find i) more u is clean in
            let last = grown_op (ops.Find i) more u is in
            let own = has_before code more u last has in
            let m = asks free (has_before code t more grown own) in
            let at : slice_get code.queries i ≡ Some q = ap (λ l. slice_get l i) own.queries_are ∙ front (t.queries ++ q ∷ []) own.queries i q (ap (slice_get (t.queries ++ q ∷ [])) index ∙ seam t.queries [] q) in
            record {
              grown = grown_on s t u m.grown (grown_on t more u grown last);
              clean = m.clean;
              scope = ap (λ (x : Buffer). x.scope) is ∙ m.scope;
              some = (kinds.Int, refl);
              kind = λ taken. refl;
              gets = λ st names c held.
                  subst (λ r. Gets code start (Pushed (length u.ops) st) r (length u.ops)) (by_assoc st.1 (value st.1 names space []))
                  (part_gets code start t u (Ready (length t.ops) st pattern asked) (Pushed (length u.ops) st) (value st.1 names space []) (λ p. found_by st.1 p >>= as_sequence) (grown_on t more u grown last)
                  (m.gets space refl st st names [] c (record { place = c.0; locals = refl; stack = refl; board = refl }) held refl)
                  (λ p next here r.
                  op_gets code start more u (ops.Find i) (λ n. Pushed n st) (found_by st.1 p >>= as_sequence) next is refl has here (λ n x after y. y.place)
                  (subst (λ b. Leaves (Pushed (length t.ops + 1) st) (found_by b p >>= as_sequence) (done_on next.1 (step code (ops.Find i) (go_to (length t.ops + 1) next.0, next.1)))) r.piled.board
                  (subst (λ tree. Leaves (Pushed (length t.ops + 1) st) (found_by next.1 (tree, p.1) >>= as_sequence) (done_on next.1 (step code (ops.Find i) (go_to (length t.ops + 1) next.0, next.1)))) (sym r.tree)
                  (find_does i (length t.ops + 1) st (go_to (length t.ops + 1) next.0) next.1 p.1 at r.piled.stack (record { place = refl; locals = r.piled.locals; stack = refl; board = r.piled.board }) r.count)))));
            }
          where
            by_assoc : (b : Board) (r : Meaning (Tree × List Value)) → (r >>= λ p. found_by b p >>= as_sequence) ≡ ((r >>= found_by b) >>= as_sequence)
            by_assoc b (Ok p) = refl
            by_assoc b (Err e) = refl
