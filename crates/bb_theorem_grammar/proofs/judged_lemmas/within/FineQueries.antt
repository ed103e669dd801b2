-- Sequences, patterns and whole expressions stay within the limits of codes.
use Rattle.std.proofs.Common.{◌≡◌, ℕ, ◌+◌, ◌-◌, ◌≤◌, Bool, true, false, cond, List, [], ◌∷◌, ◌++◌, length, Option, Some, None, Result, Ok, Err, refl, arith, length-append}
use Rattle.std.specs.Prelude.{nat_le, ◌==◌}
use Rattle.std.specs.List.{list_all}
use Rattle.std.proofs.lemmas.Bool.{leb-false, eqb-false, le-leb, and_from}
use Rattle.bb_basis.specs.Results.{◌>>=◌}
use Rattle.bb_basis.proofs.BoolLemmas.{and_first, and_second}
use Rattle.bb_code.specs.PatternLimits.{NODE_LIMIT, OPERAND_LIMIT}
use Rattle.bb_code.specs.Trees.{Tree, Trees, node_count, nodes_count}
use Rattle.bb_code.specs.Trees as nodes
use Rattle.bb_schema.specs.Fits.{Fits}
use Rattle.bb_schema_classes.specs.declared.kind.Link.{Link}
use Rattle.bb_code.specs.declared.frame.Kind.{Kind}
use Rattle.bb_code.specs.declared.frame.Kind.TheVariants as kinds
use Rattle.bb_code.specs.declared.op.Op.TheVariants as put_ops
use Rattle.bb_verify_effect.specs.Query.{Query}
use Rattle.bb_schema.specs.Schema.{Schema, class_named, space_named}
use Rattle.bb_lang.specs.Relation.{Relation}
use Rattle.bb_lang.specs.Relation.TheVariants as relations
use Rattle.bb_lang.specs.Trees.{ExprTree, Steps, SequenceTree, PatternTree, Patterns, atom, unary, binary, chain, size_of, no_step, apply, divide, found, linked, all, and_of, or_of, not_of, test, no_pattern, more}
use Rattle.bb_lang.specs.Variable.{Variable}
use Rattle.bb_compile_scope.specs.Slots.{link_slot, dimension}
use Rattle.bb_compile_scope.specs.declared.fault.TextFlaw.{TextFlaw}
use Rattle.bb_compile_scope.specs.declared.fault.TextFlaw.TheVariants.{Unknown, Limit}
use Rattle.bb_compile_buffer.specs.declared.buffer.Buffer.{Buffer}
use Rattle.bb_compile_buffer.specs.Buffers.{due, known, put, put_value, asked_query}
use Rattle.bb_compile_buffer.specs.Atoms.{unit_code}
use Rattle.bb_compile_buffer.specs.Operations.{operator_code, division_code}
use Rattle.bb_compile_buffer.specs.Within.{byte, two_bytes, eight_bytes, operand_within, tree_within, trees_within, query_within, kind_within}
use Rattle.bb_compile.specs.declared.asked.Asked.{Asked}
use Rattle.bb_compile.specs.Expressions.{expr_code, steps_code, sequence_code, pattern_code, patterns_code}
use Rattle.bb_compile.specs.Queries.{Patterned, no_operand, node_counted, node_noted, operand_kind, with_operand, operand_number, operand_noted, test_tree, test_at, test_code, query_code, linked_by, linked_from, links_code}
use Rattle.bb_theorem_grammar.specs.judged.Held.{expr_held, steps_held, sequence_held, pattern_held, patterns_held}
use Rattle.bb_theorem_grammar.proofs.judged_lemmas.within.FineExprs.{Kinded, Classed, unit_goes, atom_goes, unary_goes, binary_goes, operator_goes, division_goes}
use Rattle.bb_theorem_grammar.proofs.judged_lemmas.within.FineLemmas.{Clean, Fine, Onto, onto_same, onto_on, Goes, goes_then, goes_knowing, goes_from, itself, second, onto_noted, onto_if, fails, onto_due, onto_known, HasOp, put_goes, put_value_goes, Indexed, asked_goes}
use Rattle.bb_theorem_grammar.proofs.judged_lemmas.within.FineScopes.{IsKind}
use Rattle.bb_theorem_grammar.proofs.judged_lemmas.within.WithinLists.{all_more, byte_within}
use Rattle.bb_theorem_grammar.proofs.judged_lemmas.within.WithinSchema.{InTwoBytes, IsLinkSlot, IsDimension, class_in, space_in, link_in_two, dimension_in}

-- ---- what is asked so far

pub record Operands (asked : Asked) : Type 0 where
  pub few : length asked.kinds ≤ OPERAND_LIMIT
  pub each : list_all operand_within asked.kinds ≡ true

abbrev third : {X : Type 0} → Patterned X → Buffer
third p = p.2

-- a pattern and its nodes, after those that were there
pub record Shaped (asked : Asked) (p : Patterned Tree) : Type 0 where
  pub tree : tree_within p.0 ≡ true
  pub nodes_are : Clean p.2 → node_count p.0 + p.1.nodes ≤ asked.nodes
  pub operands : Operands p.1

pub record AllShaped (asked : Asked) (p : Patterned Trees) : Type 0 where
  pub trees : trees_within p.0 ≡ true
  pub nodes_are : Clean p.2 → nodes_count p.0 + p.1.nodes ≤ asked.nodes
  pub operands : Operands p.1

-- one node more
node_onto : (asked : Asked) (s : Buffer) → Fine s → Onto s (node_noted asked s)
node_onto asked s f = onto_if (asked.nodes == 0) Limit s f

node_there : (asked : Asked) (s : Buffer) → Clean (node_noted asked s) → 1 + (asked.nodes - 1) ≤ asked.nodes
node_there asked s clean = let not_none = eqb-false asked.nodes 0 (fails (asked.nodes == 0) Limit s clean) in omega (arith, not_none)

operand_small : (k : Kind) → kind_within k ≡ true → operand_within (operand_kind k) ≡ true
operand_small (kinds.Label set) h = h
operand_small kinds.Any h = refl
operand_small kinds.Int h = refl
operand_small kinds.Text h = refl
operand_small kinds.Bool h = refl
operand_small kinds.Interval h = refl
operand_small (kinds.Ref class) h = refl
operand_small (kinds.Old class) h = refl
operand_small (kinds.Seq class) h = refl

operand_more : (kind : Kind) (asked : Asked) → kind_within kind ≡ true → Operands asked → Operands (with_operand kind asked)
operand_more kind asked small operands = by_room (nat_le OPERAND_LIMIT (length asked.kinds)) refl
  where
    by_room : (b : Bool) → nat_le OPERAND_LIMIT (length asked.kinds) ≡ b → Operands (cond b asked (record { kinds = asked.kinds ++ operand_kind kind ∷ []; nodes = asked.nodes }))
    by_room true full = operands
    by_room false free = record {
      few =
          let lt = leb-false OPERAND_LIMIT (length asked.kinds) free in
          let e : length (asked.kinds ++ operand_kind kind ∷ []) ≡ length asked.kinds + 1 = length-append asked.kinds (operand_kind kind ∷ []) in
          omega (arith, lt, e);
      each = all_more operand_within asked.kinds (operand_kind kind) operands.each (operand_small kind small);
    }

number_small : (asked : Asked) → byte (operand_number asked) ≡ true
number_small asked = by_room (nat_le OPERAND_LIMIT (length asked.kinds)) refl
  where
    by_room : (b : Bool) → nat_le OPERAND_LIMIT (length asked.kinds) ≡ b → byte (cond b 0 (length asked.kinds)) ≡ true
    by_room true full = refl
    by_room false free = byte_within (length asked.kinds) OPERAND_LIMIT (let lt = leb-false OPERAND_LIMIT (length asked.kinds) free in omega (arith, lt)) (omega arith)

same_nodes : (kind : Kind) (asked : Asked) → (with_operand kind asked).nodes ≡ asked.nodes
same_nodes kind asked = by_room (nat_le OPERAND_LIMIT (length asked.kinds))
  where
    by_room : (b : Bool) → (let a : Asked = cond b asked (record { kinds = asked.kinds ++ operand_kind kind ∷ []; nodes = asked.nodes }) in a.nodes) ≡ asked.nodes
    by_room true = refl
    by_room false = refl

test_small : (relation : Relation) (dim operand : ℕ) → byte dim ≡ true → byte operand ≡ true → (tree_within (test_tree relation dim operand) ≡ true) × (node_count (test_tree relation dim operand) ≡ 1)
test_small relations.Within dim operand a b = (and_from (byte dim) (byte operand) a b, refl)
test_small relations.Covers dim operand a b = (and_from (byte dim) (byte operand) a b, refl)
test_small relations.Overlaps dim operand a b = (and_from (byte dim) (byte operand) a b, refl)
test_small relations.Less dim operand a b = (and_from (byte dim) (byte operand) a b, refl)
test_small relations.More dim operand a b = (and_from (byte dim) (byte operand) a b, refl)
test_small relations.Is dim operand a b = (and_from (byte dim) (byte operand) a b, refl)

module _ (schema : Schema) (sf : Fits schema) where
  -- a test, after its operand: `was` is what was asked before its node
  abbrev Tested : (was : Asked) → Buffer → Patterned Tree → Type 0
  Tested was s p = Onto s p.2 × Shaped was p

  at_tested : (relation : Relation) (o : Option (ℕ × Kind)) (operand : Option Kind) (was : Asked) (s : Buffer) → IsDimension o → Operands was → (Clean s → 1 + (was.nodes - 1) ≤ was.nodes) → Fine s → Tested was s (test_at relation o operand (node_counted was) s)
  at_tested relation None operand was s there operands counted f =
      let one = onto_noted Unknown s f in
      (one, record { tree = refl; nodes_are = λ clean. counted (one.back clean); operands = record { few = operands.few; each = operands.each } })
  at_tested relation (Some dim) operand was s there operands counted f =
      let asked = node_counted was in
      let t = due operand dim.1 s in
      let one = onto_due operand dim.1 s f in
      let two = onto_on s t (operand_noted asked t) one (onto_if (nat_le OPERAND_LIMIT (length asked.kinds)) Limit t one.fine) in
      let small = test_small relation dim.0 (operand_number asked) there.0 (number_small asked) in
      let nodes_same = same_nodes dim.1 asked in (
        two,
        record {
          tree = small.0;
          nodes_are = λ clean. let c = counted (two.back clean) in let n = small.1 in omega (arith, c, n, nodes_same);
          operands = operand_more dim.1 asked there.1 (record { few = operands.few; each = operands.each });
        },
      )

  test_tested : (space : Option ℕ) (dim : List ℕ) (relation : Relation) (operand : Option Kind) (was : Asked) (s : Buffer) → Operands was → (Clean s → 1 + (was.nodes - 1) ≤ was.nodes) → Fine s → Tested was s (test_code schema space dim relation operand (node_counted was) s)
  unfolding test_code
  test_tested None dim relation operand was s operands counted f = (onto_same s f, record { tree = refl; nodes_are = counted; operands = record { few = operands.few; each = operands.each } })
  test_tested (Some space) dim relation operand was s operands counted f = at_tested relation (dimension schema space dim relation) operand was s (dimension_in schema sf space dim relation) operands counted f

  -- ---- queries

  query_small : (class space : ℕ) (asked : Asked) (pattern : Tree) → two_bytes class ≡ true → two_bytes space ≡ true → Operands asked → node_count pattern ≤ NODE_LIMIT → tree_within pattern ≡ true
      → query_within (record { class = class; space = space; kinds = asked.kinds; pattern = pattern }) ≡ true
  query_small class space asked pattern c w operands few tree =
      and_from (two_bytes class) _ c
      (and_from (two_bytes space) _ w
      (and_from (nat_le (length asked.kinds) OPERAND_LIMIT) _ (le-leb (length asked.kinds) OPERAND_LIMIT operands.few)
      (and_from (list_all operand_within asked.kinds) _ operands.each
      (and_from (nat_le (node_count pattern) NODE_LIMIT) (tree_within pattern) (le-leb (node_count pattern) NODE_LIMIT few) tree))))

  query_goes : (class space : Option ℕ) (asked : Asked) (pattern : Tree) (room : ℕ) (s : Buffer) → InTwoBytes class → InTwoBytes space → Operands asked → (Clean s → node_count pattern ≤ NODE_LIMIT) → tree_within pattern ≡ true
      → Goes second Classed s (query_code class space asked pattern room s)
  unfolding query_code
  query_goes None None asked pattern room s c w operands few tree f = (onto_same s f, tt)
  query_goes None (Some space) asked pattern room s c w operands few tree f = (onto_same s f, tt)
  query_goes (Some class) None asked pattern room s c w operands few tree f = (onto_same s f, c)
  query_goes (Some class) (Some space) asked pattern room s c w operands few tree f =
      let query : Query = record { class = class; space = space; kinds = asked.kinds; pattern = pattern } in
      goes_then second (second {X = Option ℕ}) Indexed Classed s (asked_query query s) (λ p. put_value (put_ops.Find p.0) room p.1 >>= λ u. Ok (Some class, u))
      (asked_goes query s (λ clean. query_small class space asked pattern c w operands (few clean) tree))
      (λ p small. goes_then itself (second {X = Option ℕ}) HasOp Classed p.1 (put_value (put_ops.Find p.0) room p.1) _ (put_value_goes (put_ops.Find p.0) room p.1 small) (λ u some g. (onto_same u g, c))) f

  -- ---- links

  linked_by_goes : (r : Result (ℕ × Link) TextFlaw) (s : Buffer) → IsLinkSlot r → Goes second Classed s (linked_by r s)
  linked_by_goes (Err flaw) s small f = (onto_noted flaw s f, tt)
  linked_by_goes (Ok slot) s small f =
      goes_then itself (second {X = Option ℕ}) HasOp Classed s (put (put_ops.Links slot.0) s) (λ t. Ok (Some slot.1.to, t)) (put_goes (put_ops.Links slot.0) s (λ clean. small.0)) (λ t some g. (onto_same t g, small.1)) f

  linked_from_goes : (slot : List ℕ) (class : Option ℕ) (s : Buffer) → Goes second Classed s (linked_from schema slot class s)
  linked_from_goes slot None s f = (onto_same s f, tt)
  linked_from_goes slot (Some class) s f = linked_by_goes (link_slot schema class slot) s (link_in_two schema sf class slot) f

  links_goes : (unit : Variable) (slot : List ℕ) (room : ℕ) (s : Buffer) → Goes second Classed s (links_code schema unit slot room s)
  unfolding links_code
  links_goes unit slot room s = goes_then second second Classed Classed s (unit_code unit room s) _ (unit_goes unit room s) (λ p class. linked_from_goes slot p.0 p.1)

  -- ---- all of them

  known_onto : (class space : Option ℕ) (s : Buffer) → Fine s → Onto s (known space (known class s))
  known_onto class space s f =
      let one = onto_known class s f in
      onto_on s (known class s) (known space (known class s)) one (onto_known space (known class s) one.fine)

  none_asked : Operands no_operand
  none_asked = record { few = omega arith; each = refl }

  mutual
    unfolding expr_code steps_code sequence_code pattern_code patterns_code expr_held steps_held sequence_held pattern_held patterns_held

    pub expr_goes : (e : ExprTree) (room : ℕ) (s : Buffer) → expr_held e ≡ true → Goes second Kinded s (expr_code schema room e s)
    expr_goes (atom a) room s held = atom_goes schema sf a room s held
    expr_goes (unary operation e) room s held =
        goes_then second second Kinded Kinded s (expr_code schema room e s) _ (expr_goes e room s held) (λ p kind. unary_goes schema sf operation p.0 p.1)
    expr_goes (binary operation l r) room s held =
        goes_then second second Kinded Kinded s (expr_code schema room l s) _ (expr_goes l room s (and_first (expr_held l) (expr_held r) held))
        (λ p one. goes_then second second Kinded Kinded p.1 (expr_code schema (room - 1) r p.1) _ (expr_goes r (room - 1) p.1 (and_second (expr_held l) (expr_held r) held)) (λ q two. binary_goes schema sf operation p.0 q.0 q.1))
    expr_goes (chain first steps) room s held =
        goes_then second second Kinded Kinded s (expr_code schema room first s) _ (expr_goes first room s (and_first (expr_held first) (steps_held steps) held)) (λ p kind. steps_go steps room p.0 p.1 (and_second (expr_held first) (steps_held steps) held) kind)
    expr_goes (size_of sequence) room s held =
        goes_then second second Classed Kinded s (sequence_code schema room sequence s) _ (sequence_goes sequence room s held)
        (λ p class. goes_then itself second HasOp Kinded p.1 (put put_ops.Size p.1) _ (put_goes put_ops.Size p.1 (λ clean. refl)) (λ t some f. (onto_same t f, refl)))

    steps_go : (steps : Steps) (room : ℕ) (left : Option Kind) (s : Buffer) → steps_held steps ≡ true → IsKind left → Goes second Kinded s (steps_code schema room left steps s)
    steps_go no_step room left s held kind = λ f. (onto_same s f, kind)
    steps_go (apply operator e steps) room left s held kind =
        goes_then second second Kinded Kinded s (expr_code schema (room - 1) e s) _ (expr_goes e (room - 1) s (and_first (expr_held e) (steps_held steps) held))
        (λ p one. goes_then second second Kinded Kinded p.1 (operator_code operator left p.0 p.1) _ (operator_goes schema sf operator left p.0 p.1) (λ q two. steps_go steps room q.0 q.1 (and_second (expr_held e) (steps_held steps) held) two))
    steps_go (divide division divisor steps) room left s held kind =
        goes_then second second Kinded Kinded s (division_code division divisor left s) _ (division_goes schema sf division divisor left s (and_first (eight_bytes divisor) (steps_held steps) held))
        (λ q two. steps_go steps room q.0 q.1 (and_second (eight_bytes divisor) (steps_held steps) held) two)

    pub sequence_goes : (sequence : SequenceTree) (room : ℕ) (s : Buffer) → sequence_held sequence ≡ true → Goes second Classed s (sequence_code schema room sequence s)
    sequence_goes (linked unit slot) room s held = links_goes unit slot room s
    sequence_goes (found class space p) room s held =
        let c = class_named schema class in
        let w = space_named schema space in
        goes_from second Classed s (known w (known c s)) (pattern_code schema room w p no_operand (known w (known c s)) >>= λ q. query_code c w q.1 q.0 room q.2) (known_onto c w s)
        (goes_then third second (Shaped no_operand) Classed (known w (known c s)) (pattern_code schema room w p no_operand (known w (known c s))) _
        (pattern_goes p room w no_operand (known w (known c s)) held none_asked)
        (λ q shaped. query_goes c w q.1 q.0 room q.2 (class_in schema sf class) (space_in schema sf space) shaped.operands (λ clean. let n = shaped.nodes_are clean in omega (arith, n)) shaped.tree))

    pattern_goes : (p : PatternTree) (room : ℕ) (space : Option ℕ) (asked : Asked) (s : Buffer) → pattern_held p ≡ true → Operands asked → Goes third (Shaped asked) s (pattern_code schema room space p asked s)
    pattern_goes all room space asked s held operands = λ f.
        let one = node_onto asked s f in
        (one, record { tree = refl; nodes_are = λ clean. node_there asked s clean; operands = record { few = operands.few; each = operands.each } })
    pattern_goes (and_of ps) room space asked s held operands =
        goes_from third (Shaped asked) s (node_noted asked s) (patterns_code schema room space ps (node_counted asked) (node_noted asked s) >>= λ q. Ok (nodes.and_of q.0, q.1, q.2)) (node_onto asked s)
        (goes_knowing third third (AllShaped (node_counted asked)) (Shaped asked) (node_noted asked s) (patterns_code schema room space ps (node_counted asked) (node_noted asked s)) _
        (patterns_go ps room space (node_counted asked) (node_noted asked s) held (record { few = operands.few; each = operands.each }))
        (λ q shaped onto f. (onto_same q.2 f, record { tree = shaped.trees; nodes_are = λ clean. let n = shaped.nodes_are clean in let c = node_there asked s (onto.back clean) in omega (arith, n, c); operands = shaped.operands })))
    pattern_goes (or_of ps) room space asked s held operands =
        goes_from third (Shaped asked) s (node_noted asked s) (patterns_code schema room space ps (node_counted asked) (node_noted asked s) >>= λ q. Ok (nodes.or_of q.0, q.1, q.2)) (node_onto asked s)
        (goes_knowing third third (AllShaped (node_counted asked)) (Shaped asked) (node_noted asked s) (patterns_code schema room space ps (node_counted asked) (node_noted asked s)) _
        (patterns_go ps room space (node_counted asked) (node_noted asked s) held (record { few = operands.few; each = operands.each }))
        (λ q shaped onto f. (onto_same q.2 f, record { tree = shaped.trees; nodes_are = λ clean. let n = shaped.nodes_are clean in let c = node_there asked s (onto.back clean) in omega (arith, n, c); operands = shaped.operands })))
    pattern_goes (not_of p) room space asked s held operands =
        goes_from third (Shaped asked) s (node_noted asked s) (pattern_code schema room space p (node_counted asked) (node_noted asked s) >>= λ q. Ok (nodes.not_of q.0, q.1, q.2)) (node_onto asked s)
        (goes_knowing third third (Shaped (node_counted asked)) (Shaped asked) (node_noted asked s) (pattern_code schema room space p (node_counted asked) (node_noted asked s)) _
        (pattern_goes p room space (node_counted asked) (node_noted asked s) held (record { few = operands.few; each = operands.each }))
        (λ q shaped onto f. (onto_same q.2 f, record { tree = shaped.tree; nodes_are = λ clean. let n = shaped.nodes_are clean in let c = node_there asked s (onto.back clean) in omega (arith, n, c); operands = shaped.operands })))
    pattern_goes (test dim relation e) room space asked s held operands =
        goes_from third (Shaped asked) s (node_noted asked s) (expr_code schema (room - length asked.kinds) e (node_noted asked s) >>= λ q. Ok (test_code schema space dim relation q.0 (node_counted asked) q.1)) (node_onto asked s)
        (goes_knowing second third Kinded (Shaped asked) (node_noted asked s) (expr_code schema (room - length asked.kinds) e (node_noted asked s)) _ (expr_goes e (room - length asked.kinds) (node_noted asked s) held)
        (λ q kind onto f. test_tested space dim relation q.0 asked q.1 operands (λ clean. node_there asked s (onto.back clean)) f))

    patterns_go : (ps : Patterns) (room : ℕ) (space : Option ℕ) (asked : Asked) (s : Buffer) → patterns_held ps ≡ true → Operands asked → Goes third (AllShaped asked) s (patterns_code schema room space ps asked s)
    patterns_go no_pattern room space asked s held operands = λ f. (onto_same s f, record { trees = refl; nodes_are = λ clean. omega arith; operands = operands })
    patterns_go (more p ps) room space asked s held operands =
        goes_then third third (Shaped asked) (AllShaped asked) s (pattern_code schema room space p asked s) _ (pattern_goes p room space asked s (and_first (pattern_held p) (patterns_held ps) held) operands)
        (λ q one. goes_knowing third third (AllShaped q.1) (AllShaped asked) q.2 (patterns_code schema room space ps q.1 q.2) _ (patterns_go ps room space q.1 q.2 (and_second (pattern_held p) (patterns_held ps) held) one.operands)
        (λ r two onto f. (
          onto_same r.2 f,
          record {
            trees = and_from (tree_within q.0) (trees_within r.0) one.tree two.trees;
            nodes_are = λ clean. let a = one.nodes_are (onto.back clean) in let b = two.nodes_are clean in omega (arith, a, b);
            operands = two.operands;
          },
        )))
