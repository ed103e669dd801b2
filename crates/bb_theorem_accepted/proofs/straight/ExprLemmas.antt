-- Every expression leads from frame to frame.
use Rattle.std.proofs.Common.{◌≡◌, ℕ, ◌-◌, ◌<◌, List, length, map, Option, Some, None, Result, Ok, refl, subst, sym, ap, ◌∙◌, arith}
use Rattle.std.specs.Str.{bytes_eq}
use Rattle.std.proofs.lemmas.List.{length-map}
use Rattle.bb_basis.specs.Results.{◌>>=◌}
use Rattle.bb_basis.proofs.PositionLemmas.{position_within}
use Rattle.bb_basis.proofs.ResultLemmas.{bind_ok, same_ok}
use Rattle.bb_schema_classes.specs.declared.class.Class.{Class}
use Rattle.bb_pattern.specs.Trees.{Tree, Trees, no_more}
use Rattle.bb_pattern.specs.Trees as nodes
use Rattle.bb_pattern.specs.Fits.{tests_fit, all_tests_fit}
use Rattle.bb_pattern.specs.declared.fault.PatternFault.{PatternFault}
use Rattle.bb_schema.specs.declared.space.Space.{Space}
use Rattle.bb_schema.specs.Schema.{Schema, class_named, space_named, dims_of}
use Rattle.bb_schema.specs.Fits as schemas
use Rattle.bb_code.specs.Code.{Code}
use Rattle.bb_code.specs.declared.frame.Kind.TheVariants as kinds
use Rattle.bb_code.specs.declared.op.Op.TheVariants as ops
use Rattle.bb_pattern.specs.declared.value.OperandKind.{OperandKind}
use Rattle.bb_lang.specs.Trees.{ExprTree, Steps, SequenceTree, PatternTree, Patterns, atom, unary, binary, chain, size_of, no_step, apply, divide, found, linked, all, and_of, or_of, not_of, test, no_pattern, more}
use Rattle.bb_compile_scope.specs.declared.fault.CompileFault.{CompileFault}
use Rattle.bb_compile.specs.declared.asked.Asked.{Asked}
use Rattle.bb_compile.specs.Expressions.{expr_code, steps_code, sequence_code, pattern_code, patterns_code}
use Rattle.bb_compile.specs.Queries.{Patterned, no_operand, node_counted, node_noted, test_code, query_code}
use Rattle.bb_compile_buffer.specs.declared.buffer.Buffer.{Buffer}
use Rattle.bb_compile_buffer.specs.Buffers.{known, put}
use Rattle.bb_compile_buffer.specs.Operations.{Made, unary_code, binary_code, operator_code, division_code}
use Rattle.bb_verify_effect.specs.declared.part.Part.{Part}
use Rattle.bb_theorem_accepted.proofs.buffers.BufferLemmas.{Clean, Has, with_op, is_known, put_ok, grown_none, grown_op, has_before}
use Rattle.bb_theorem_accepted.proofs.buffers.PutLemmas.{pair_ok, triple_ok, clean_before}
use Rattle.bb_theorem_accepted.proofs.buffers.LayLemmas.{Lays, Turns, LaysUnits, lays_on, turns_on}
use Rattle.bb_theorem_accepted.proofs.straight.AtomLemmas.{atom_lays}
use Rattle.bb_theorem_accepted.proofs.straight.OperationLemmas.{binary_clean, operator_clean, binary_turns, operator_turns, unary_turns, division_turns}
use Rattle.bb_theorem_accepted.proofs.straight.QueryLemmas.{links_lay, size_lays}
use Rattle.bb_theorem_accepted.proofs.straight.PatternLemmas.{AreSmall, Asks, FitsTree, FitsTrees, asks_none, asks_map, asks_on, asks_node, node_free, test_asks, find_lays}

-- what a name means is there
pub class_there : (s : Schema) (name : List ℕ) (c : ℕ) → class_named s name ≡ Some c → c < length s.classes
class_there s name c h =
    let lt = position_within (bytes_eq name) (map (λ (k : Class). k.name) s.classes) c h in
    let count : length (map (λ (k : Class). k.name) s.classes) ≡ length s.classes = length-map s.classes (λ (k : Class). k.name) in
    omega (arith, lt, count)

pub space_there : (s : Schema) (name : List ℕ) (k : ℕ) → space_named s name ≡ Some k → k < length s.spaces
space_there s name k h =
    let lt = position_within (bytes_eq name) (map (λ (p : Space). p.name) s.spaces) k h in
    let count : length (map (λ (p : Space). p.name) s.spaces) ≡ length s.spaces = length-map s.spaces (λ (p : Space). p.name) in
    omega (arith, lt, count)

module _ (schema : Schema) (sf : schemas.Fits schema) (part : Part) (code : Code) (small : AreSmall schema sf part code) where
  abbrev LaysHere : ℕ → Buffer → Buffer → Made → Type 0
  LaysHere space s t made = Lays schema sf part code space s t made

  abbrev AsksHere : ℕ → Buffer → Buffer → Option ℕ → Asked → Asked → (ℕ → List OperandKind → Type 0) → Type 0
  AsksHere space s t of asked after Fits = Asks schema sf part code space s t of asked after Fits

  abbrev TreeFits : Tree → ℕ → List OperandKind → Type 0
  TreeFits made = FitsTree schema sf part code made

  abbrev TreesFit : Trees → ℕ → List OperandKind → Type 0
  TreesFit made = FitsTrees schema sf part code made

  -- ---- how patterns of patterns fit

  all_fits : (k : ℕ) (os : List OperandKind) → TreeFits nodes.all k os
  unfolding tests_fit
  all_fits k os = refl

  and_fits : (ps : Trees) (k : ℕ) (os : List OperandKind) → TreesFit ps k os → TreeFits (nodes.and_of ps) k os
  unfolding tests_fit
  and_fits ps k os h = h

  or_fits : (ps : Trees) (k : ℕ) (os : List OperandKind) → TreesFit ps k os → TreeFits (nodes.or_of ps) k os
  unfolding tests_fit
  or_fits ps k os h = h

  not_fits : (p : Tree) (k : ℕ) (os : List OperandKind) → TreeFits p k os → TreeFits (nodes.not_of p) k os
  unfolding tests_fit
  not_fits p k os h = h

  none_fit : (k : ℕ) (os : List OperandKind) → TreesFit no_more k os
  unfolding all_tests_fit
  none_fit k os = refl

  more_fit : (p : Tree) (ps : Trees) (k : ℕ) (os : List OperandKind) → TreeFits p k os → TreesFit ps k os → TreesFit (nodes.more p ps) k os
  unfolding all_tests_fit
  more_fit p ps k os one others = ap (λ (r : Result (Unit {0}) PatternFault). r >>= λ _. all_tests_fit (dims_of schema k) os ps) one ∙ others

  -- where the same was made
  tree_same : (x y : Patterned Tree) (space : ℕ) (s : Buffer) (of : Option ℕ) (asked : Asked) → x ≡ y → AsksHere space s x.2 of asked x.1 (TreeFits x.0) → AsksHere space s y.2 of asked y.1 (TreeFits y.0)
  tree_same x y space s of asked same m = subst (λ z. AsksHere space s z.2 of asked z.1 (TreeFits z.0)) same m

  trees_same : (x y : Patterned Trees) (space : ℕ) (s : Buffer) (of : Option ℕ) (asked : Asked) → x ≡ y → AsksHere space s x.2 of asked x.1 (TreesFit x.0) → AsksHere space s y.2 of asked y.1 (TreesFit y.0)
  trees_same x y space s of asked same m = subst (λ z. AsksHere space s z.2 of asked z.1 (TreesFit z.0)) same m

  steps_end : (space : ℕ) (left : Made) (s t : Buffer) (made : Made) → (let r : Result (Made × Buffer) CompileFault = Ok (left, s) in r) ≡ Ok (made, t) → Clean t → Turns schema sf part code space s t left made
  unfolding grown_none
  steps_end space left s t made h clean =
      let same = pair_ok left made s t h in
      subst (λ u. Turns schema sf part code space s u left made) same.1
      (record {
        grown = grown_none s s refl refl refl;
        clean = ap (λ (x : Buffer). x.flaw) same.1 ∙ clean;
        same = refl;
        turns = λ thought left_is. (thought, sym same.0 ∙ left_is, λ f k known under some count. (k, under, refl));
      })

  -- ---- queries

  query_by : (class space_of : List ℕ) (p : PatternTree) (space : ℕ) (s t u : Buffer) (asked : Asked) (tree : Tree) (made : Option ℕ) → Clean u → Has code u → (c k : Option ℕ) → class_named schema class ≡ c → space_named schema space_of ≡ k
      → (Clean t → Has code t → AsksHere space (known k (known c s)) t k no_operand asked (TreeFits tree)) → query_code c k asked tree space t ≡ Ok (made, u) → LaysUnits schema sf part code space s u made
  unfolding query_code
  query_by class space_of p space s t u asked tree made clean has None k class_is space_is asks h =
      let same = pair_ok None made t u h in
      let m = asks (ap (λ (x : Buffer). x.flaw) same.1 ∙ clean) (subst (Has code) (sym same.1) has) in
      let outer = is_known k (known None s) m.clean in
      let inner = is_known None s (ap (λ (x : Buffer). x.flaw) (sym outer.2) ∙ m.clean) in
      absurd (let e = inner.1 in cc)
  query_by class space_of p space s t u asked tree made clean has (Some c) None class_is space_is asks h =
      let same = pair_ok (Some c) made t u h in
      let m = asks (ap (λ (x : Buffer). x.flaw) same.1 ∙ clean) (subst (Has code) (sym same.1) has) in
      let outer = is_known None s m.clean in
      absurd (let e = outer.1 in cc)
  query_by class space_of p space s t u asked tree made clean has (Some c) (Some k) class_is space_is asks h =
      find_lays schema sf part code small c k (class_there schema class c class_is) (space_there schema space_of k space_is) space s t u asked tree made asks h clean has

  -- ---- all

  mutual
    unfolding expr_code steps_code sequence_code pattern_code patterns_code

    pub expr_lays : (e : ExprTree) (space : ℕ) (s t : Buffer) (made : Made) → expr_code schema space e s ≡ Ok (made, t) → Clean t → Has code t → LaysHere space s t made
    expr_lays (atom a) space s t made h clean has = atom_lays schema sf part code a space s t made h clean has
    expr_lays (unary operation e) space s t made h clean has =
        let one = bind_ok (expr_code schema space e s) (λ p. unary_code operation p.0 p.1) (made, t) h in
        let turn = unary_turns schema sf part code operation one.0.0 space one.0.1 t made one.2 clean in
        let first = expr_lays e space s one.0.1 one.0.0 one.1 turn.clean (has_before code one.0.1 t turn.grown has) in
        lays_on schema sf part code space s one.0.1 t one.0.0 made first turn
    expr_lays (binary operation l r) space s t made h clean has =
        let one = bind_ok (expr_code schema space l s) (λ p. expr_code schema (space - 1) r p.1 >>= λ q. binary_code operation p.0 q.0 q.1) (made, t) h in
        let two = bind_ok (expr_code schema (space - 1) r one.0.1) (λ q. binary_code operation one.0.0 q.0 q.1) (made, t) one.2 in
        let free = binary_clean operation one.0.0 two.0.0 two.0.1 t made two.2 clean in
        let right = expr_lays r (space - 1) one.0.1 two.0.1 two.0.0 two.1 free.0 (has_before code two.0.1 t free.1 has) in
        let turn = binary_turns schema sf part code operation one.0.0 two.0.0 space one.0.1 two.0.1 t made right two.2 clean in
        let left = expr_lays l space s one.0.1 one.0.0 one.1 right.clean (has_before code one.0.1 t turn.grown has) in
        lays_on schema sf part code space s one.0.1 t one.0.0 made left turn
    expr_lays (chain first steps) space s t made h clean has =
        let one = bind_ok (expr_code schema space first s) (λ p. steps_code schema space p.0 steps p.1) (made, t) h in
        let turn = steps_turn steps space one.0.0 one.0.1 t made one.2 clean has in
        let left = expr_lays first space s one.0.1 one.0.0 one.1 turn.clean (has_before code one.0.1 t turn.grown has) in
        lays_on schema sf part code space s one.0.1 t one.0.0 made left turn
    expr_lays (size_of sequence) space s t made h clean has =
        let one = bind_ok (sequence_code schema space sequence s) (λ p. put ops.Size p.1 >>= λ u. Ok (Some kinds.Int, u)) (made, t) h in
        let two = bind_ok (put ops.Size one.0.1) (λ u. Ok (Some kinds.Int, u)) (made, t) one.2 in
        let same = pair_ok (Some kinds.Int) made two.0 t two.2 in
        let is : t ≡ with_op ops.Size one.0.1 = sym same.1 ∙ put_ok ops.Size one.0.1 two.0 two.1 in
        let units = sequence_lays sequence space s one.0.1 one.0.0 one.1 (clean_before ops.Size one.0.1 t is clean) (has_before code one.0.1 t (grown_op ops.Size one.0.1 t is) has) in
        size_lays schema sf part code space s one.0.1 t made one.0.0 units is (sym same.0)

    -- the steps of a chain
    steps_turn : (steps : Steps) (space : ℕ) (left : Made) (s t : Buffer) (made : Made) → steps_code schema space left steps s ≡ Ok (made, t) → Clean t → Has code t → Turns schema sf part code space s t left made
    steps_turn no_step space left s t made h clean has = steps_end space left s t made h clean
    steps_turn (apply operator e steps) space left s t made h clean has =
        let one = bind_ok (expr_code schema (space - 1) e s) (λ p. operator_code operator left p.0 p.1 >>= λ q. steps_code schema space q.0 steps q.1) (made, t) h in
        let two = bind_ok (operator_code operator left one.0.0 one.0.1) (λ q. steps_code schema space q.0 steps q.1) (made, t) one.2 in
        let later = steps_turn steps space two.0.0 two.0.1 t made two.2 clean has in
        let free = operator_clean operator left one.0.0 one.0.1 two.0.1 two.0.0 two.1 later.clean in
        let right = expr_lays e (space - 1) s one.0.1 one.0.0 one.1 free.0 (has_before code one.0.1 two.0.1 free.1 (has_before code two.0.1 t later.grown has)) in
        let turn = operator_turns schema sf part code operator left one.0.0 space s one.0.1 two.0.1 two.0.0 right two.1 later.clean in
        turns_on schema sf part code space s two.0.1 t left two.0.0 made turn later
    steps_turn (divide division by steps) space left s t made h clean has =
        let one = bind_ok (division_code division by left s) (λ p. steps_code schema space p.0 steps p.1) (made, t) h in
        let later = steps_turn steps space one.0.0 one.0.1 t made one.2 clean has in
        let turn = division_turns schema sf part code division by left space s one.0.1 one.0.0 one.1 later.clean in
        turns_on schema sf part code space s one.0.1 t left one.0.0 made turn later

    pub sequence_lays : (sequence : SequenceTree) (space : ℕ) (s t : Buffer) (class : Option ℕ) → sequence_code schema space sequence s ≡ Ok (class, t) → Clean t → Has code t → LaysUnits schema sf part code space s t class
    sequence_lays (linked unit slot) space s t class h clean has = links_lay schema sf part code unit slot space s t class h clean
    sequence_lays (found name space_of p) space s t class h clean has =
        let was = known (space_named schema space_of) (known (class_named schema name) s) in
        let one = bind_ok (pattern_code schema space (space_named schema space_of) p no_operand was) (λ q. query_code (class_named schema name) (space_named schema space_of) q.1 q.0 space q.2) (class, t) h in
        query_by name space_of p space s one.0.2 t one.0.1 one.0.0 class clean has (class_named schema name) (space_named schema space_of) refl refl
        (λ free own. pattern_asks p space (space_named schema space_of) was one.0.2 no_operand one.0.1 one.0.0 one.1 free own) one.2

    pattern_asks : (p : PatternTree) (space : ℕ) (of : Option ℕ) (s t : Buffer) (asked after : Asked) (made : Tree) → pattern_code schema space of p asked s ≡ Ok (made, after, t) → Clean t → Has code t → AsksHere space s t of asked after (TreeFits made)
    pattern_asks all space of s t asked after made h clean has =
        let same = triple_ok nodes.all made (node_counted asked) after (node_noted asked s) t h in
        let free : node_noted asked s ≡ s = node_free schema sf part code asked s (ap (λ (x : Buffer). x.flaw) same.2 ∙ clean) in
        let here : s ≡ t = sym free ∙ same.2 in
        subst (λ u. AsksHere space s u of asked after (TreeFits made)) here
        (asks_none schema sf part code space s of asked after (TreeFits made) (ap (λ (x : Buffer). x.flaw) here ∙ clean) (ap (λ (a : Asked). a.kinds) (sym same.1)) (λ k os. subst (λ m. TreeFits m k os) same.0 (all_fits k os)))
    pattern_asks (and_of ps) space of s t asked after made h clean has =
        let one = bind_ok (patterns_code schema space of ps (node_counted asked) (node_noted asked s)) (λ (q : Patterned Trees). Ok (nodes.and_of q.0, q.1, q.2)) (made, after, t) h in
        let same = triple_ok (nodes.and_of one.0.0) made one.0.1 after one.0.2 t one.2 in
        let inner = patterns_ask ps space of (node_noted asked s) one.0.2 (node_counted asked) one.0.1 one.0.0 one.1 (ap (λ (x : Buffer). x.flaw) same.2 ∙ clean) (subst (Has code) (sym same.2) has) in
        tree_same (nodes.and_of one.0.0, one.0.1, one.0.2) (made, after, t) space s of asked (same_ok (nodes.and_of one.0.0, one.0.1, one.0.2) (made, after, t) one.2)
        (asks_map schema sf part code space s one.0.2 of asked one.0.1 (TreesFit one.0.0) (TreeFits (nodes.and_of one.0.0)) (and_fits one.0.0) (asks_node schema sf part code space s one.0.2 of asked one.0.1 (TreesFit one.0.0) inner))
    pattern_asks (or_of ps) space of s t asked after made h clean has =
        let one = bind_ok (patterns_code schema space of ps (node_counted asked) (node_noted asked s)) (λ (q : Patterned Trees). Ok (nodes.or_of q.0, q.1, q.2)) (made, after, t) h in
        let same = triple_ok (nodes.or_of one.0.0) made one.0.1 after one.0.2 t one.2 in
        let inner = patterns_ask ps space of (node_noted asked s) one.0.2 (node_counted asked) one.0.1 one.0.0 one.1 (ap (λ (x : Buffer). x.flaw) same.2 ∙ clean) (subst (Has code) (sym same.2) has) in
        tree_same (nodes.or_of one.0.0, one.0.1, one.0.2) (made, after, t) space s of asked (same_ok (nodes.or_of one.0.0, one.0.1, one.0.2) (made, after, t) one.2)
        (asks_map schema sf part code space s one.0.2 of asked one.0.1 (TreesFit one.0.0) (TreeFits (nodes.or_of one.0.0)) (or_fits one.0.0) (asks_node schema sf part code space s one.0.2 of asked one.0.1 (TreesFit one.0.0) inner))
    pattern_asks (not_of p) space of s t asked after made h clean has =
        let one = bind_ok (pattern_code schema space of p (node_counted asked) (node_noted asked s)) (λ (q : Patterned Tree). Ok (nodes.not_of q.0, q.1, q.2)) (made, after, t) h in
        let same = triple_ok (nodes.not_of one.0.0) made one.0.1 after one.0.2 t one.2 in
        let inner = pattern_asks p space of (node_noted asked s) one.0.2 (node_counted asked) one.0.1 one.0.0 one.1 (ap (λ (x : Buffer). x.flaw) same.2 ∙ clean) (subst (Has code) (sym same.2) has) in
        tree_same (nodes.not_of one.0.0, one.0.1, one.0.2) (made, after, t) space s of asked (same_ok (nodes.not_of one.0.0, one.0.1, one.0.2) (made, after, t) one.2)
        (asks_map schema sf part code space s one.0.2 of asked one.0.1 (TreeFits one.0.0) (TreeFits (nodes.not_of one.0.0)) (not_fits one.0.0) (asks_node schema sf part code space s one.0.2 of asked one.0.1 (TreeFits one.0.0) inner))
    pattern_asks (test dim relation e) space of s t asked after made h clean has =
        let was = node_noted asked s in
        let one = bind_ok (expr_code schema (space - length asked.kinds) e was) (λ q. Ok (test_code schema of dim relation q.0 (node_counted asked) q.1)) (made, after, t) h in
        let inner = test_asks schema sf part code dim relation of space was one.0.1 t asked after one.0.0 made (λ free here. expr_lays e (space - length asked.kinds) was one.0.1 one.0.0 one.1 free (subst (Has code) (sym here) has)) one.2 clean in
        subst (λ u. AsksHere space u t of asked after (TreeFits made)) (node_free schema sf part code asked s inner.clean) inner

    patterns_ask : (ps : Patterns) (space : ℕ) (of : Option ℕ) (s t : Buffer) (asked after : Asked) (made : Trees) → patterns_code schema space of ps asked s ≡ Ok (made, after, t) → Clean t → Has code t → AsksHere space s t of asked after (TreesFit made)
    patterns_ask no_pattern space of s t asked after made h clean has =
        let same = triple_ok no_more made asked after s t h in
        trees_same (no_more, asked, s) (made, after, t) space s of asked (same_ok (no_more, asked, s) (made, after, t) h)
        (asks_none schema sf part code space s of asked asked (TreesFit no_more) (ap (λ (x : Buffer). x.flaw) same.2 ∙ clean) refl none_fit)
    patterns_ask (more p ps) space of s t asked after made h clean has =
        let one = bind_ok (pattern_code schema space of p asked s) (λ (q : Patterned Tree). patterns_code schema space of ps q.1 q.2 >>= λ (r : Patterned Trees). Ok (nodes.more q.0 r.0, r.1, r.2)) (made, after, t) h in
        let two = bind_ok (patterns_code schema space of ps one.0.1 one.0.2) (λ (r : Patterned Trees). Ok (nodes.more one.0.0 r.0, r.1, r.2)) (made, after, t) one.2 in
        let same = triple_ok (nodes.more one.0.0 two.0.0) made two.0.1 after two.0.2 t two.2 in
        let own : Has code two.0.2 = subst (Has code) (sym same.2) has in
        let rest = patterns_ask ps space of one.0.2 two.0.2 one.0.1 two.0.1 two.0.0 two.1 (ap (λ (x : Buffer). x.flaw) same.2 ∙ clean) own in
        let first = pattern_asks p space of s one.0.2 asked one.0.1 one.0.0 one.1 rest.clean (has_before code one.0.2 two.0.2 rest.grown own) in
        trees_same (nodes.more one.0.0 two.0.0, two.0.1, two.0.2) (made, after, t) space s of asked (same_ok (nodes.more one.0.0 two.0.0, two.0.1, two.0.2) (made, after, t) two.2)
        (asks_on schema sf part code space s one.0.2 two.0.2 of asked one.0.1 two.0.1 (TreeFits one.0.0) (TreesFit two.0.0) (TreesFit (nodes.more one.0.0 two.0.0)) (more_fit one.0.0 two.0.0) first rest)
