-- Patterns lead from frame to frame, and fit the queries that they are laid out for.
use Rattle.std.proofs.Common.{◌≡◌, ℕ, ◌+◌, ◌-◌, ◌<◌, ◌≤◌, Bool, true, false, cond, List, [], ◌∷◌, ◌++◌, length, reverse, take, drop, Option, Some, None, Result, Ok, Err, refl, subst, sym, ap, ◌∙◌, arith, length-append, append_assoc}
use Rattle.std.specs.Prelude.{slice_get, option_and_then, option_map, nat_le, nat_lt, ◌==◌}
use Rattle.std.proofs.lemmas.Bool.{lt-leb, le-ltb, lt-ltb, eq-eqb}
use Rattle.std.proofs.lemmas.List.{append-nil}
use Rattle.std.proofs.lemmas.Option.{slice_get_within}
use Rattle.bb_basis.specs.Results.{◌>>=◌}
use Rattle.bb_basis.proofs.ResultLemmas.{bind_ok, guard_ok}
use Rattle.bb_code.specs.declared.parts.TheConstants.{STACK_LIMIT, QUERY_LIMIT}
use Rattle.bb_pattern.specs.declared.fits.TheConstants.{NODE_LIMIT, OPERAND_LIMIT}
use Rattle.bb_pattern.specs.Trees.{Tree, Trees, all, node_count}
use Rattle.bb_pattern.specs.declared.fault.PatternFault.{PatternFault}
use Rattle.bb_pattern.specs.Fits.{tests_fit, all_tests_fit, ordered_fits, is_fits, pattern_fits, query_fits}
use Rattle.bb_schema.specs.declared.space.Dim.{Dim}
use Rattle.bb_schema.specs.Schema.{Schema, dims_of}
use Rattle.bb_schema.specs.Fits as schemas
use Rattle.bb_code.specs.Code.{Code}
use Rattle.bb_code.specs.declared.flaw.Flaw.{Flaw as CodeFlaw}
use Rattle.bb_code.specs.declared.flaw.Flaw.TheVariants as flaws
use Rattle.bb_code.specs.declared.frame.Kind.{Kind}
use Rattle.bb_code.specs.declared.frame.Kind.TheVariants as kinds
use Rattle.bb_verify_effect.specs.Kinds.{is_same_plain}
use Rattle.bb_code.specs.declared.op.Op.TheVariants as ops
use Rattle.bb_pattern.specs.declared.value.OperandKind.{OperandKind}
use Rattle.bb_pattern.specs.declared.value.OperandKind.TheVariants as operands
use Rattle.bb_pattern.specs.declared.query.Query.{Query}
use Rattle.bb_lang.specs.Relation.{Relation}
use Rattle.bb_lang.specs.Relation.TheVariants as relations
use Rattle.bb_compile_scope.specs.declared.fault.CompileFault.{CompileFault}
use Rattle.bb_compile_scope.specs.declared.fault.CompileFault.TheVariants.{At}
use Rattle.bb_compile_scope.specs.declared.fault.TextFlaw.TheVariants.{Unknown, Limit}
use Rattle.bb_compile_scope.specs.Slots as slots
use Rattle.bb_compile_scope.specs.Slots.{index_of, in_byte, dimension_at, dimension}
use Rattle.bb_compile.specs.declared.asked.Asked.{Asked}
use Rattle.bb_compile.specs.Queries.{Patterned, no_operand, node_counted, node_noted, operand_kind, with_operand, operand_number, operand_noted, test_tree, test_at, test_code, query_code}
use Rattle.bb_compile_buffer.specs.declared.buffer.Buffer.{Buffer}
use Rattle.bb_compile_buffer.specs.Buffers.{noted, due, put_value, asked_query}
use Rattle.bb_compile_buffer.specs.Operations.{Made}
use Rattle.bb_verify_effect.specs.declared.part.Part.{Part}
use Rattle.bb_verify_effect.specs.declared.frame.Frame.{Frame}
use Rattle.bb_verify_effect.specs.Frame.{with_stack, enough, room, push}
use Rattle.bb_verify_effect.specs.Due as dues
use Rattle.bb_verify_effect.specs.Effect.{effect, on, find}
use Rattle.bb_verify.specs.Tables.{in_tables}
use Rattle.bb_theorem_accepted.proofs.buffers.StraightLemmas.{Gives, Leads, leads_on}
use Rattle.bb_theorem_accepted.proofs.kinds.UnderLemmas.{under_plain}
use Rattle.bb_theorem_accepted.proofs.buffers.BufferLemmas.{Clean, Grown, Has, with_op, not_failed, never_noted, is_due, put_value_ok, grown_none, grown_op, grown_on, has_before, front, seam}
use Rattle.bb_theorem_accepted.proofs.buffers.PutLemmas.{pair_ok, triple_ok, clean_before, put_room, due_kind}
use Rattle.bb_theorem_accepted.proofs.buffers.EffectLemmas.{push_on}
use Rattle.bb_theorem_accepted.proofs.buffers.LayLemmas.{Known, Lays, LaysUnits, bare, known_same}
use Rattle.bb_theorem_accepted.proofs.straight.QueryLemmas.{AreDue, due_count, due_more, all_due, pile, piled, pile_count}

-- ---- tests

-- a test fits where its dimension is there and its operand is of the expected kind
fits_test : (relation : Relation) (dims : List Dim) (ks : List OperandKind) (d n : ℕ) (dim : Dim) (kind : Kind) (set : Option ℕ) → dim.set ≡ set → slice_get dims d ≡ Some dim → slots.operand_due relation set ≡ Some kind → slice_get ks n ≡ Some (operand_kind kind)
    → tests_fit dims ks (test_tree relation d n) ≡ Ok tt
unfolding tests_fit ordered_fits is_fits
fits_test relations.Is dims ks d n dim kind None set_is at right operand = absurd cc
fits_test relations.Is dims ks d n dim kind (Some set) set_is at right operand =
    let e : kinds.Label set ≡ kind = cc in
    let there : slice_get ks n ≡ Some (operands.Label set) = operand ∙ ap (λ k. Some (operand_kind k)) (sym e) in
    rw (at, set_is, there, eq-eqb set set refl) refl
fits_test relations.Within dims ks d n dim kind (Some set) set_is at right operand = absurd cc
fits_test relations.Covers dims ks d n dim kind (Some set) set_is at right operand = absurd cc
fits_test relations.Overlaps dims ks d n dim kind (Some set) set_is at right operand = absurd cc
fits_test relations.Less dims ks d n dim kind (Some set) set_is at right operand = absurd cc
fits_test relations.More dims ks d n dim kind (Some set) set_is at right operand = absurd cc
fits_test relations.Within dims ks d n dim kind None set_is at right operand =
    let e : kinds.Interval ≡ kind = cc in let there : slice_get ks n ≡ Some operands.Interval = operand ∙ ap (λ k. Some (operand_kind k)) (sym e) in rw (at, set_is, there) refl
fits_test relations.Covers dims ks d n dim kind None set_is at right operand =
    let e : kinds.Interval ≡ kind = cc in let there : slice_get ks n ≡ Some operands.Interval = operand ∙ ap (λ k. Some (operand_kind k)) (sym e) in rw (at, set_is, there) refl
fits_test relations.Overlaps dims ks d n dim kind None set_is at right operand =
    let e : kinds.Interval ≡ kind = cc in let there : slice_get ks n ≡ Some operands.Interval = operand ∙ ap (λ k. Some (operand_kind k)) (sym e) in rw (at, set_is, there) refl
fits_test relations.Less dims ks d n dim kind None set_is at right operand =
    let e : kinds.Interval ≡ kind = cc in let there : slice_get ks n ≡ Some operands.Interval = operand ∙ ap (λ k. Some (operand_kind k)) (sym e) in rw (at, set_is, there) refl
fits_test relations.More dims ks d n dim kind None set_is at right operand =
    let e : kinds.Interval ≡ kind = cc in let there : slice_get ks n ≡ Some operands.Interval = operand ∙ ap (λ k. Some (operand_kind k)) (sym e) in rw (at, set_is, there) refl

interval_due : (kind : Kind) → kinds.Interval ≡ kind → dues.operand_due (operand_kind kind) kind ≡ Ok tt
interval_due kind e = subst (λ k. dues.operand_due (operand_kind k) k ≡ Ok tt) e refl

-- an operand of the kind that a test wants
kind_due : (relation : Relation) (set : Option ℕ) (kind : Kind) → slots.operand_due relation set ≡ Some kind → dues.operand_due (operand_kind kind) kind ≡ Ok tt
kind_due relations.Is None kind h = absurd cc
kind_due relations.Is (Some set) kind h = subst (λ k. dues.operand_due (operand_kind k) k ≡ Ok tt) (let e : kinds.Label set ≡ kind = cc in e) (rw (eq-eqb set set refl) refl)
kind_due relations.Within (Some set) kind h = absurd cc
kind_due relations.Covers (Some set) kind h = absurd cc
kind_due relations.Overlaps (Some set) kind h = absurd cc
kind_due relations.Less (Some set) kind h = absurd cc
kind_due relations.More (Some set) kind h = absurd cc
kind_due relations.Within None kind h = interval_due kind (let e : kinds.Interval ≡ kind = cc in e)
kind_due relations.Covers None kind h = interval_due kind (let e : kinds.Interval ≡ kind = cc in e)
kind_due relations.Overlaps None kind h = interval_due kind (let e : kinds.Interval ≡ kind = cc in e)
kind_due relations.Less None kind h = interval_due kind (let e : kinds.Interval ≡ kind = cc in e)
kind_due relations.More None kind h = interval_due kind (let e : kinds.Interval ≡ kind = cc in e)

module _ (schema : Schema) (sf : schemas.Fits schema) (part : Part) (code : Code) where
  -- the dimension of a name
  record IsDimension (space : ℕ) (relation : Relation) (d : ℕ × Kind) : Type 0 where
    dim : Dim
    at : slice_get (dims_of schema space) d.0 ≡ Some dim
    wanted : slots.operand_due relation dim.set ≡ Some d.1

  dimension_ok : (space : ℕ) (name : List ℕ) (relation : Relation) (d : ℕ × Kind) → dimension schema space name relation ≡ Some d → IsDimension space relation d
  unfolding dimension
  dimension_ok space name relation d h = by_index (index_of (dims_of schema space) name) h
    where
      by_byte : (i : ℕ) (e : Dim) (k : Kind) (small : Bool) → slice_get (dims_of schema space) i ≡ Some e → slots.operand_due relation e.set ≡ Some k → option_map (λ n. (n, k)) (let o : Option ℕ = cond small (Some i) None in o) ≡ Some d → IsDimension space relation d
      by_byte i e k true at wanted h = let same : (i, k) ≡ d = cc in subst (IsDimension space relation) same (record { dim = e; at = at; wanted = wanted })
      by_byte i e k false at wanted h = absurd cc

      by_due : (i : ℕ) (e : Dim) (o : Option Kind) → slice_get (dims_of schema space) i ≡ Some e → slots.operand_due relation e.set ≡ o → option_and_then (λ k. option_map (λ n. (n, k)) (in_byte i)) o ≡ Some d → IsDimension space relation d
      by_due i e None at wanted h = absurd cc
      by_due i e (Some k) at wanted h = by_byte i e k (nat_lt i 256) at wanted h

      by_dim : (i : ℕ) (o : Option Dim) → slice_get (dims_of schema space) i ≡ o → option_and_then (λ e. option_and_then (λ k. option_map (λ n. (n, k)) (in_byte i)) (slots.operand_due relation e.set)) o ≡ Some d → IsDimension space relation d
      by_dim i None at h = absurd cc
      by_dim i (Some e) at h = by_due i e (slots.operand_due relation e.set) at refl h

      by_index : (o : Option ℕ) → option_and_then (dimension_at (dims_of schema space) relation) o ≡ Some d → IsDimension space relation d
      by_index None h = absurd cc
      by_index (Some i) h = by_dim i (slice_get (dims_of schema space) i) refl h

  -- ---- patterns

  abbrev pub FitsTree : Tree → (space : ℕ) → List OperandKind → Type 0
  FitsTree made k os = tests_fit (dims_of schema k) os made ≡ Ok tt

  abbrev pub FitsTrees : Trees → (space : ℕ) → List OperandKind → Type 0
  FitsTrees made k os = all_tests_fit (dims_of schema k) os made ≡ Ok tt

  -- what is laid out from one buffer to another pushes the operands of a pattern, where the stack had room for so many
  -- values before the first of them
  pub record Asks (space : ℕ) (s t : Buffer) (of : Option ℕ) (asked after : Asked) (Fits : ℕ → List OperandKind → Type 0) : Type 0 where
    pub grown : Grown s t
    pub clean : Clean s
    pub same : bare t ≡ bare s
    pub more : List OperandKind
    pub asks : after.kinds ≡ asked.kinds ++ more
    pub fits : (k : ℕ) → of ≡ Some k → (later : List OperandKind) → Fits k (after.kinds ++ later)
    pub leads : (k : ℕ) → of ≡ Some k → (f : Frame) (ks : List Kind) → Known schema sf part code f s → length f.stack + space ≡ STACK_LIMIT → length ks ≤ space → AreDue asked.kinds ks
        → (js : List Kind) × (length js ≤ space) × AreDue after.kinds js × Leads schema part code grown.ops (with_stack (reverse ks ++ f.stack) f) (with_stack (reverse js ++ f.stack) f)

  -- nothing is laid out
  pub asks_none : (space : ℕ) (s : Buffer) (of : Option ℕ) (asked after : Asked) (Fits : ℕ → List OperandKind → Type 0) → Clean s → after.kinds ≡ asked.kinds → ((k : ℕ) (os : List OperandKind) → Fits k os) → Asks space s s of asked after Fits
  unfolding grown_none
  asks_none space s of asked after Fits clean same fits = record {
    grown = grown_none s s refl refl refl;
    clean = clean;
    same = refl;
    more = [];
    asks = same ∙ sym (append-nil asked.kinds);
    fits = λ k at later. fits k (after.kinds ++ later);
    leads = λ k at f ks known count few right. (ks, few, subst (λ os. AreDue os ks) (sym same) right, refl);
  }

  -- a pattern around others
  pub asks_map : (space : ℕ) (s t : Buffer) (of : Option ℕ) (asked after : Asked) (F G : ℕ → List OperandKind → Type 0) → ((k : ℕ) (os : List OperandKind) → F k os → G k os) → Asks space s t of asked after F → Asks space s t of asked after G
  asks_map space s t of asked after F G gives m = record {
    grown = m.grown;
    clean = m.clean;
    same = m.same;
    more = m.more;
    asks = m.asks;
    fits = λ k at later. gives k (after.kinds ++ later) (m.fits k at later);
    leads = m.leads;
  }

  -- a pattern, and others after it
  pub asks_on : (space : ℕ) (s t u : Buffer) (of : Option ℕ) (asked between after : Asked) (F G H : ℕ → List OperandKind → Type 0) → ((k : ℕ) (os : List OperandKind) → F k os → G k os → H k os)
      → Asks space s t of asked between F → Asks space t u of between after G → Asks space s u of asked after H
  unfolding grown_on
  asks_on space s t u of asked between after F G H gives first then = record {
    grown = grown_on s t u first.grown then.grown;
    clean = first.clean;
    same = then.same ∙ first.same;
    more = first.more ++ then.more;
    asks = then.asks ∙ (ap (λ l. l ++ then.more) first.asks ∙ append_assoc asked.kinds first.more then.more);
    fits = λ k at later.
        let all_are : between.kinds ++ (then.more ++ later) ≡ after.kinds ++ later = sym (append_assoc between.kinds then.more later) ∙ ap (λ l. l ++ later) (sym then.asks) in
        gives k (after.kinds ++ later) (subst (F k) all_are (first.fits k at (then.more ++ later))) (then.fits k at later);
    leads = λ k at f ks known count few right.
        let one = first.leads k at f ks known count few right in
        let two = then.leads k at f one.0 (known_same schema sf part code f s t first.same known) count one.1 one.2 in
        (two.0, two.1, two.2, leads_on schema part code first.grown.ops then.grown.ops (with_stack (reverse ks ++ f.stack) f) (with_stack (reverse one.0 ++ f.stack) f) (with_stack (reverse two.0 ++ f.stack) f) one.3 two.3);
  }

  -- after a node of a pattern
  pub node_free : (asked : Asked) (s : Buffer) → Clean (node_noted asked s) → node_noted asked s ≡ s
  node_free asked s clean = (not_failed (asked.nodes == 0) Limit s clean).1

  pub asks_node : (space : ℕ) (s t : Buffer) (of : Option ℕ) (asked after : Asked) (F : ℕ → List OperandKind → Type 0) → Asks space (node_noted asked s) t of (node_counted asked) after F → Asks space s t of asked after F
  asks_node space s t of asked after F m =
      let plain : Asks space (node_noted asked s) t of asked after F = record { grown = m.grown; clean = m.clean; same = m.same; more = m.more; asks = m.asks; fits = m.fits; leads = m.leads } in
      subst (λ u. Asks space u t of asked after F) (node_free asked s m.clean) plain

  longer : (asked : Asked) (k : Kind) → nat_le OPERAND_LIMIT (length asked.kinds) ≡ false → (operand_number asked ≡ length asked.kinds) × ((with_operand k asked).kinds ≡ asked.kinds ++ operand_kind k ∷ [])
  longer asked k few = (rw few refl, rw few refl)

  pub test_asks : (dim : List ℕ) (relation : Relation) (of : Option ℕ) (space : ℕ) (s t u : Buffer) (asked after : Asked) (operand : Made) (made : Tree)
      → (Clean t → t ≡ u → Lays schema sf part code (space - length asked.kinds) s t operand) → (let r : Result (Patterned Tree) CompileFault = Ok (test_code schema of dim relation operand (node_counted asked) t) in r) ≡ Ok (made, after, u) → Clean u
      → Asks space s u of asked after (FitsTree made)
  unfolding test_code
  test_asks dim relation None space s t u asked after operand made lays h clean =
      let same = triple_ok all made (node_counted asked) after t u h in
      let m = lays (ap (λ (x : Buffer). x.flaw) same.2 ∙ clean) same.2 in
      subst (λ x. Asks space s x None asked after (FitsTree made)) same.2
      (record {
        grown = m.grown;
        clean = m.clean;
        same = m.same;
        more = [];
        asks = ap (λ (a : Asked). a.kinds) (sym same.1) ∙ sym (append-nil asked.kinds);
        fits = λ k at later. absurd (let no : None ≡ Some k = at in cc);
        leads = λ k at f ks known count few right. absurd (let no : None ≡ Some k = at in cc);
      })
  test_asks dim relation (Some of) space s t u asked after operand made lays h clean = by_dimension (dimension schema of dim relation) refl h
    where
      by_dimension : (o : Option (ℕ × Kind)) → dimension schema of dim relation ≡ o → (let r : Result (Patterned Tree) CompileFault = Ok (test_at relation o operand (node_counted asked) t) in r) ≡ Ok (made, after, u) → Asks space s u (Some of) asked after (FitsTree made)
      by_dimension None at h = never_noted Unknown t (ap (λ (x : Buffer). x.flaw) (triple_ok all made (node_counted asked) after (noted Unknown t) u h).2 ∙ clean)
      by_dimension (Some d) at h =
          let noted_is = operand_noted (node_counted asked) (due operand d.1 t) in
          let same = triple_ok (test_tree relation d.0 (operand_number (node_counted asked))) made (with_operand d.1 (node_counted asked)) after noted_is u h in
          let few = not_failed (nat_le OPERAND_LIMIT (length asked.kinds)) Limit (due operand d.1 t) (ap (λ (x : Buffer). x.flaw) same.2 ∙ clean) in
          let due_clean : Clean (due operand d.1 t) = sym (ap (λ (x : Buffer). x.flaw) few.1) ∙ (ap (λ (x : Buffer). x.flaw) same.2 ∙ clean) in
          let right = is_due operand d.1 t due_clean in
          let here : t ≡ u = sym right ∙ (sym few.1 ∙ same.2) in
          let m = lays (ap (λ (x : Buffer). x.flaw) here ∙ clean) here in
          let more = longer (node_counted asked) d.1 few.0 in
          let right_kind : is_same_plain m.kind d.1 ≡ true = due_kind m.kind d.1 t (subst (λ o. Clean (due o d.1 t)) m.made_is due_clean) in
          let is = dimension_ok of dim relation d at in
          let after_is : after.kinds ≡ asked.kinds ++ operand_kind d.1 ∷ [] = ap (λ (a : Asked). a.kinds) (sym same.1) ∙ more.1 in
          subst (λ x. Asks space s x (Some of) asked after (FitsTree made)) here
          (record {
            grown = m.grown;
            clean = m.clean;
            same = m.same;
            more = operand_kind d.1 ∷ [];
            asks = after_is;
            fits = λ k at later.
                let own : of ≡ k = cc in
                let there : slice_get (after.kinds ++ later) (length asked.kinds) ≡ Some (operand_kind d.1) =
                ap (λ l. slice_get (l ++ later) (length asked.kinds)) after_is ∙ (ap (λ l. slice_get l (length asked.kinds)) (append_assoc asked.kinds (operand_kind d.1 ∷ []) later) ∙ seam asked.kinds later (operand_kind d.1)) in
                let test = fits_test relation (dims_of schema of) (after.kinds ++ later) d.0 (length asked.kinds) is.dim d.1 is.dim.set refl is.at is.wanted there in
                let tree : test_tree relation d.0 (length asked.kinds) ≡ made = ap (test_tree relation d.0) (sym more.0) ∙ same.0 in
                subst (λ x. FitsTree made x (after.kinds ++ later)) own (subst (λ x. FitsTree x of (after.kinds ++ later)) tree test);
            leads = λ k at f ks known count room_left right_kinds.
                let g = with_stack (reverse ks ++ f.stack) f in
                let some = m.some in
                let own_count = due_count asked.kinds ks right_kinds in
                let height = pile_count ks f.stack in
                let x = m.leads g known (omega (arith, count, room_left, own_count, height, some)) in
                let kind_is : x.0 ≡ d.1 = under_plain schema sf x.0 m.kind d.1 x.1 right_kind in
                let one : dues.operand_due (operand_kind d.1) x.0 ≡ Ok tt = ap (dues.operand_due (operand_kind d.1)) kind_is ∙ kind_due relation is.dim.set d.1 is.wanted in
                let js = ks ++ x.0 ∷ [] in
                let longer_by : length js ≡ length ks + 1 = length-append ks (x.0 ∷ []) in (
                  js,
                  omega (arith, longer_by, own_count, some),
                  subst (λ os. AreDue os js) (sym after_is) (due_more asked.kinds ks (operand_kind d.1) x.0 right_kinds one),
                  subst (λ l. Leads schema part code m.grown.ops g (with_stack l f)) (pile ks f.stack x.0) x.2,
                );
          })

  -- ---- the query

  pub room_on : (f : Frame) → length f.stack < STACK_LIMIT → room f ≡ Ok tt
  unfolding room
  room_on f lt = rw (lt-leb STACK_LIMIT (length f.stack) lt) refl

  find_on : (i : ℕ) (q : Query) (f : Frame) (js : List Kind) → slice_get code.queries i ≡ Some q → AreDue q.kinds js → dues.query_due schema q ≡ Ok tt → length f.stack < STACK_LIMIT
      → find schema code i (with_stack (reverse js ++ f.stack) f) ≡ Ok (with_stack (kinds.Seq q.class ∷ f.stack) f)
  unfolding find enough
  find_on i q f js at right fits lt =
      rw (at, le-ltb (length g.stack) (length q.kinds) (omega (arith, count, height)))
      (ap (λ l. rest l (drop (length q.kinds) g.stack)) parts.0 ∙ (ap (rest js) parts.1 ∙ last))
    where
      g : Frame
      g = with_stack (reverse js ++ f.stack) f

      count : length q.kinds ≡ length js
      count = due_count q.kinds js right

      height : length (reverse js ++ f.stack) ≡ length js + length f.stack
      height = pile_count js f.stack

      parts : (reverse (take (length q.kinds) (reverse js ++ f.stack)) ≡ js) × (drop (length q.kinds) (reverse js ++ f.stack) ≡ f.stack)
      parts = piled (length q.kinds) js f.stack count

      rest : List Kind → List Kind → Result Frame CodeFlaw
      rest tops left = room (with_stack left g) >>= λ _. dues.query_due schema q >>= λ _. dues.operands_due q.kinds tops >>= λ _. push (kinds.Seq q.class) (with_stack left g)

      last : rest js f.stack ≡ Ok (with_stack (kinds.Seq q.class ∷ f.stack) f)
      last =
          ap (λ (r : Result (Unit {0}) CodeFlaw). r >>= λ _. dues.query_due schema q >>= λ _. dues.operands_due q.kinds js >>= λ _. push (kinds.Seq q.class) f) (room_on f lt)
          ∙ (ap (λ (r : Result (Unit {0}) CodeFlaw). r >>= λ _. dues.operands_due q.kinds js >>= λ _. push (kinds.Seq q.class) f) fits
          ∙ (ap (λ (r : Result (Unit {0}) CodeFlaw). r >>= λ _. push (kinds.Seq q.class) f) (all_due q.kinds js right)
          ∙ push_on schema sf part code (kinds.Seq q.class) f lt))

  find_gives : (i : ℕ) (q : Query) (f : Frame) (js : List Kind) → slice_get code.queries i ≡ Some q → AreDue q.kinds js → dues.query_due schema q ≡ Ok tt → length f.stack < STACK_LIMIT
      → Gives schema part code (ops.Find i) (with_stack (reverse js ++ f.stack) f) (with_stack (kinds.Seq q.class ∷ f.stack) f)
  unfolding effect in_tables
  find_gives i q f js at right fits lt = record {
    straight = refl;
    tables = rw (lt-ltb i (length code.queries) (slice_get_within code.queries i q at)) refl;
    gives = ap on (find_on i q f js at right fits lt);
  }

  -- the queries of the code are within their limits
  abbrev pub AreSmall : Type 0
  AreSmall = (i : ℕ) (q : Query) → slice_get code.queries i ≡ Some q → (node_count q.pattern ≤ NODE_LIMIT) × (length q.kinds ≤ OPERAND_LIMIT)

  fits_pattern : (q : Query) → q.class < length schema.classes → q.space < length schema.spaces → node_count q.pattern ≤ NODE_LIMIT → length q.kinds ≤ OPERAND_LIMIT → FitsTree q.pattern q.space q.kinds → query_fits schema q ≡ Ok tt
  unfolding pattern_fits
  fits_pattern q class space nodes few fits =
      rw (lt-leb (length schema.spaces) q.space space, lt-leb (length schema.classes) q.class class, le-ltb NODE_LIMIT (node_count q.pattern) nodes, le-ltb OPERAND_LIMIT (length q.kinds) few) fits

  fits_query : (q : Query) → query_fits schema q ≡ Ok tt → dues.query_due schema q ≡ Ok tt
  unfolding dues.query_due
  fits_query q fits = ap (λ (r : Result (Unit {0}) PatternFault). let a : Result (Unit {0}) CodeFlaw = elim r [ Ok _ ↦ Ok tt | Err _ ↦ Err flaws.Query ] in a) fits

  module _ (small : AreSmall) (c k : ℕ) (class_there : c < length schema.classes) (space_there : k < length schema.spaces) where
    pub find_lays : (space : ℕ) (s t u : Buffer) (asked : Asked) (pattern : Tree) (found : Option ℕ) → (Clean t → Has code t → Asks space s t (Some k) no_operand asked (FitsTree pattern))
        → query_code (Some c) (Some k) asked pattern space t ≡ Ok (found, u) → Clean u → Has code u → LaysUnits schema sf part code space s u found
    unfolding query_code asked_query grown_on grown_op
    find_lays space s t u asked pattern found asks h clean has =
        let one = bind_ok (asked_query q t) (λ p. put_value (ops.Find p.0) space p.1 >>= λ x. Ok (Some c, x)) (found, u) h in
        let two = bind_ok (put_value (ops.Find one.0.0) space one.0.1) (λ x. Ok (Some c, x)) (found, u) one.2 in
        let same = pair_ok (Some c) found two.0 u two.2 in
        let two_clean : Clean two.0 = ap (λ (x : Buffer). x.flaw) same.1 ∙ clean in
        let put = put_value_ok (ops.Find one.0.0) space one.0.1 two.0 two.1 two_clean in
        let asked_is = pair_ok (length t.queries) one.0.0 more one.0.1 (guard_ok (nat_le QUERY_LIMIT (length t.queries)) (At Limit t.start) (Ok (length t.queries, more)) one.0 one.1).1 in
        let is : u ≡ with_op (ops.Find one.0.0) more = sym same.1 ∙ (put.0 ∙ ap (with_op (ops.Find one.0.0)) (sym asked_is.1)) in
        by_buffer (sym same.0) one.0.0 is (sym asked_is.0) (put_room (ops.Find one.0.0) space one.0.1 two.0 two.1 two_clean)
      where
        q : Query
        q = record { class = c; space = k; kinds = asked.kinds; pattern = pattern }

        more : Buffer
        more = record t { queries = t.queries ++ q ∷ [] }

        added : Grown t more
        added = record { ops = []; ops_are = sym (append-nil t.ops); texts = []; texts_are = sym (append-nil t.texts); queries = q ∷ []; queries_are = refl }

        by_buffer : found ≡ Some c → (i : ℕ) → u ≡ with_op (ops.Find i) more → i ≡ length t.queries → 1 ≤ space → LaysUnits schema sf part code space s u found
        by_buffer found_is i is index some =
            let free : Clean t = clean_before (ops.Find i) more u is clean in
            let last = grown_op (ops.Find i) more u is in
            let own = has_before code more u last has in
            let m = asks free (has_before code t more added own) in
            let at : slice_get code.queries i ≡ Some q = ap (λ l. slice_get l i) own.queries_are ∙ front (t.queries ++ q ∷ []) own.queries i q (ap (slice_get (t.queries ++ q ∷ [])) index ∙ seam t.queries [] q) in
            let limits = small i q at in
            let fits : FitsTree pattern k asked.kinds = subst (FitsTree pattern k) (append-nil asked.kinds) (m.fits k refl []) in
            let query = fits_query q (fits_pattern q class_there space_there limits.0 limits.1 fits) in
            record {
              grown = grown_on s t u m.grown (record { ops = ops.Find i ∷ []; ops_are = last.ops_are; texts = []; texts_are = last.texts_are; queries = q ∷ []; queries_are = ap (λ (x : Buffer). x.queries) is });
              clean = m.clean;
              same = ap bare is ∙ m.same;
              some = some;
              class = c;
              found_is = found_is;
              there = class_there;
              leads = λ f known count.
                  let js = m.leads k refl f [] known count (omega arith) tt in
                  let g = find_gives i q f js.0 at js.2 query (omega (arith, count, some)) in
                  let end : Leads schema part code (ops.Find i ∷ []) (with_stack (reverse js.0 ++ f.stack) f) (with_stack (kinds.Seq c ∷ f.stack) f) = (with_stack (kinds.Seq c ∷ f.stack) f, g, refl) in
                  leads_on schema part code m.grown.ops (ops.Find i ∷ []) f (with_stack (reverse js.0 ++ f.stack) f) (with_stack (kinds.Seq c ∷ f.stack) f) js.3 end;
            }
