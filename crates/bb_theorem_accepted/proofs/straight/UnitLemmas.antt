-- Statements that change a unit lead from frame to frame.
use Rattle.std.proofs.Common.{◌≡◌, ℕ, ◌+◌, ◌-◌, ◌<◌, Bool, true, false, cond, ◌||◌, List, [], ◌∷◌, ◌++◌, length, map, Option, Some, None, Result, Ok, Err, refl, subst, sym, ap, ◌∙◌, arith, length-append}
use Rattle.std.proofs.lemmas.Bool.{lt-ltb}
use Rattle.std.proofs.lemmas.List.{append-nil, length-map}
use Rattle.std.specs.List.{list_any}
use Rattle.bb_basis.specs.Results.{◌>>=◌}
use Rattle.bb_basis.proofs.ResultLemmas.{bind_ok, same_ok}
use Rattle.bb_schema_classes.specs.declared.kind.Link.{Link}
use Rattle.bb_code.specs.declared.parts.TheConstants.{STACK_LIMIT}
use Rattle.bb_code.specs.declared.op.LinkChange.{LinkChange}
use Rattle.bb_schema.specs.Schema.{Schema, space_named, descends}
use Rattle.bb_schema.specs.Spaces.{allowed, classes_in}
use Rattle.bb_schema.specs.Fits as schemas
use Rattle.bb_code.specs.Code.{Code}
use Rattle.bb_code.specs.declared.flaw.Flaw.{Flaw as CodeFlaw}
use Rattle.bb_code.specs.declared.frame.Kind.{Kind}
use Rattle.bb_schema.specs.Ownership.{strikes}
use Rattle.bb_code.specs.declared.frame.Kind.TheVariants as kinds
use Rattle.bb_verify_effect.specs.Kinds.{struck}
use Rattle.bb_verify_effect.specs.Kinds as frame_kinds
use Rattle.bb_code.specs.declared.op.Op.{Op}
use Rattle.bb_code.specs.declared.op.Op.TheVariants as ops
use Rattle.bb_lang.specs.Variable.{Variable}
use Rattle.bb_lang.specs.Trees.{ExprTree}
use Rattle.bb_compile_scope.specs.declared.fault.TextFlaw.{TextFlaw}
use Rattle.bb_compile_scope.specs.declared.fault.TextFlaw.TheVariants.{Unknown, LinkClass, Space}
use Rattle.bb_compile_scope.specs.Kinds.{class_of, is_live}
use Rattle.bb_compile_scope.specs.LocalKinds.{kind_at}
use Rattle.bb_compile_scope.specs.Slots as slots
use Rattle.bb_compile_scope.proofs.Laws.{struck_at}
use Rattle.bb_compile_buffer.specs.declared.buffer.Buffer.{Buffer}
use Rattle.bb_compile_buffer.specs.Buffers.{noted, due, known, put, with_kinds}
use Rattle.bb_compile_buffer.specs.Operations.{Made}
use Rattle.bb_compile_buffer.specs.Atoms.{unit_code}
use Rattle.bb_compile.specs.Expressions.{expr_code}
use Rattle.bb_compile.specs.Actions.{set_by, set_in, set_code, link_noted, relinked_by, relinked_in, relink_code, space_noted, entered, enter_code, left_space, leave_code, deleted, delete_code}
use Rattle.bb_verify_effect.specs.Part.{writes}
use Rattle.bb_verify_effect.specs.declared.part.Part.{Part}
use Rattle.bb_verify_effect.specs.declared.frame.Frame.{Frame}
use Rattle.bb_verify_effect.specs.Frame.{with_stack, pop, pop_two}
use Rattle.bb_verify_effect.specs.Due as dues
use Rattle.bb_verify_effect.specs.Effect.{effect, set_slot, relink, enter, leave, after_delete, delete}
use Rattle.bb_verify.specs.Tables.{in_tables}
use Rattle.bb_theorem_accepted.proofs.buffers.StraightLemmas.{Gives, Leads, leads_on}
use Rattle.bb_theorem_accepted.proofs.kinds.UnderLemmas.{IsUnder, AreKnown, descends_on, is_due, under_class, known_struck}
use Rattle.bb_theorem_accepted.proofs.buffers.BufferLemmas.{Clean, Grown, Has, with_op, passed, never_noted, put_ok, grown_op, grown_on, has_before}
use Rattle.bb_theorem_accepted.proofs.buffers.BufferLemmas as buffers
use Rattle.bb_theorem_accepted.proofs.buffers.PutLemmas.{clean_before, due_kind}
use Rattle.bb_theorem_accepted.proofs.kinds.HeldLemmas.{value_below, link_below}
use Rattle.bb_theorem_accepted.proofs.buffers.LayLemmas.{Lays, bare_op, known_same}
use Rattle.bb_theorem_accepted.proofs.straight.AtomLemmas.{LaysUnit, live_on, unit_lays, no_unit}
use Rattle.bb_theorem_accepted.proofs.straight.PatternLemmas.{AreSmall}
use Rattle.bb_theorem_accepted.proofs.straight.ExprLemmas.{expr_lays, space_there}
use Rattle.bb_theorem_accepted.proofs.straight.StoreLemmas.{Does, marks, marks_same, all_room}
use Rattle.bb_theorem_accepted.proofs.kinds.KnowLemmas.{HasSequences}
use Rattle.bb_theorem_accepted.proofs.kinds.MoveLemmas.{last_some, moves_same, struck_moves}

module _ (schema : Schema) (sf : schemas.Fits schema) (part : Part) (code : Code) (small : AreSmall schema sf part code) where
  abbrev DoesHere : Buffer → Buffer → Type 0
  DoesHere s t = Does schema sf part code small false s t

  -- the unit of an expression is live, and of a class
  abbrev IsLive : Made → (class : ℕ) → Type 0
  IsLive made c = (thought : Kind) → made ≡ Some thought → (class_of thought ≡ Some c) × (is_live thought ≡ true)

  unit_live : (space : ℕ) (s t : Buffer) (class : Option ℕ) (c : ℕ) → (u : LaysUnit schema sf part code space s t class) → class ≡ Some c → IsLive (Some u.kind) c
  unit_live space s t class c u h thought same =
      let e : u.kind ≡ thought = cc in
      (ap class_of (sym e) ∙ (u.kind_of ∙ (sym u.class_is ∙ h)), ap is_live (sym e) ∙ u.live)

  -- a unit of a class below, which is live
  abbrev Below : Kind → (class : ℕ) → Type 0
  Below k c = (b : ℕ) × (dues.class_of k ≡ Ok b) × (descends schema b c ≡ true) × (dues.live k ≡ Ok tt)

  live_is_below : (k t : Kind) (c : ℕ) → IsUnder schema sf k t → class_of t ≡ Some c → is_live t ≡ true → Below k c
  live_is_below k t c under of live = let u = under_class schema sf k t c under of in (u.0, u.1, u.2, u.3 live)

  -- ---- an op on one value, and one on two

  one_does : (op : Op) (s u t : Buffer) (made : Made) → (m : Lays schema sf part code STACK_LIMIT s u made) → t ≡ with_op op u
      → ((f : Frame) (k : Kind) → IsUnder schema sf k m.kind → Gives schema part code op (with_stack (k ∷ f.stack) f) f) → DoesHere s t
  unfolding grown_on grown_op
  one_does op s u t made m put_is gives = record {
    grown = grown_on s u t m.grown (grown_op op u t put_is);
    clean = m.clean;
    same = ap marks put_is ∙ marks_same s u m.same;
    locals = let e : t.locals ≡ s.locals = ap (λ (x : Buffer). x.locals) put_is ∙ ap (λ (x : Buffer). x.locals) m.same in omega (arith, e);
    right = λ h. absurd cc;
    moves = moves_same schema sf s t (ap (λ (x : Buffer). x.scope) put_is ∙ ap (λ (x : Buffer). x.scope) m.same) (ap (λ (x : Buffer). x.locals) put_is ∙ ap (λ (x : Buffer). x.locals) m.same);
    some = last_some m.grown.ops op;
    leads = λ few f stands.
        let x = m.leads f stands.1 (all_room schema sf part code small f stands.0) in
        let end : Leads schema part code (op ∷ []) (with_stack (x.0 ∷ f.stack) f) f = (f, gives f x.0 x.1, refl) in
        (f, (stands.0, known_same schema sf part code f s t (bare_op op u t put_is ∙ m.same) stands.1), leads_on schema part code m.grown.ops (op ∷ []) f (with_stack (x.0 ∷ f.stack) f) f x.2 end);
  }

  two_does : (op : Op) (s u w t : Buffer) (made other : Made) → (m : Lays schema sf part code STACK_LIMIT s u made) → (n : Lays schema sf part code (STACK_LIMIT - 1) u w other) → t ≡ with_op op w
      → ((f : Frame) (k l : Kind) → IsUnder schema sf k m.kind → IsUnder schema sf l n.kind → Gives schema part code op (with_stack (l ∷ k ∷ f.stack) f) f) → DoesHere s t
  unfolding grown_on grown_op
  two_does op s u w t made other m n put_is gives = record {
    grown = grown_on s u t m.grown (grown_on u w t n.grown (grown_op op w t put_is));
    clean = m.clean;
    same = ap marks put_is ∙ (marks_same u w n.same ∙ marks_same s u m.same);
    locals = let e : t.locals ≡ s.locals = ap (λ (x : Buffer). x.locals) put_is ∙ (ap (λ (x : Buffer). x.locals) n.same ∙ ap (λ (x : Buffer). x.locals) m.same) in omega (arith, e);
    right = λ h. absurd cc;
    moves =
        moves_same schema sf s t (ap (λ (x : Buffer). x.scope) put_is ∙ (ap (λ (x : Buffer). x.scope) n.same ∙ ap (λ (x : Buffer). x.scope) m.same))
        (ap (λ (x : Buffer). x.locals) put_is ∙ (ap (λ (x : Buffer). x.locals) n.same ∙ ap (λ (x : Buffer). x.locals) m.same));
    some = let own = last_some n.grown.ops op in let count : length (m.grown.ops ++ (n.grown.ops ++ op ∷ [])) ≡ length m.grown.ops + length (n.grown.ops ++ op ∷ []) = length-append m.grown.ops (n.grown.ops ++ op ∷ []) in omega (arith, own, count);
    leads = λ few f stands.
        let room = all_room schema sf part code small f stands.0 in
        let x = m.leads f stands.1 room in
        let g = with_stack (x.0 ∷ f.stack) f in
        let y = n.leads g (known_same schema sf part code f s u m.same stands.1) (omega (arith, room)) in
        let both = with_stack (y.0 ∷ x.0 ∷ f.stack) f in
        let end : Leads schema part code (op ∷ []) both f = (f, gives f x.0 y.0 x.1 y.1, refl) in (
          f,
          (stands.0, known_same schema sf part code f s t (bare_op op w t put_is ∙ (n.same ∙ m.same)) stands.1),
          leads_on schema part code m.grown.ops (n.grown.ops ++ op ∷ []) f g f x.2 (leads_on schema part code n.grown.ops (op ∷ []) g both f y.2 end),
        );
  }

  module _ (may : writes part ≡ Ok tt) where
    -- ---- spaces

    -- a class below one that a space admits is admitted
    allowed_below : (space b c : ℕ) → descends schema b c ≡ true → allowed schema space c ≡ true → allowed schema space b ≡ true
    allowed_below space b c under h = any_below (classes_in schema space) h
      where
        any_by : (d : ℕ) (ds : List ℕ) (x y : Bool) → descends schema c d ≡ x → descends schema b d ≡ y → (list_any (λ e. descends schema c e) ds ≡ true → list_any (λ e. descends schema b e) ds ≡ true)
            → (x || list_any (λ e. descends schema c e) ds) ≡ true → (y || list_any (λ e. descends schema b e) ds) ≡ true
        any_by d ds true true one two rest h = refl
        any_by d ds true false one two rest h = absurd (let up = descends_on schema sf b c d under one in let no : false ≡ true = sym two ∙ up in cc)
        any_by d ds false true one two rest h = refl
        any_by d ds false false one two rest h = rest h

        any_below : (ds : List ℕ) → list_any (λ e. descends schema c e) ds ≡ true → list_any (λ e. descends schema b e) ds ≡ true
        any_below [] h = h
        any_below (d ∷ ds) h = any_by d ds (descends schema c d) (descends schema b d) refl refl (any_below ds) h

    enter_gives : (space : ℕ) (t : Kind) (c : ℕ) (f : Frame) (k : Kind) → class_of t ≡ Some c → is_live t ≡ true → allowed schema space c ≡ true → IsUnder schema sf k t → Gives schema part code (ops.Enter space) (with_stack (k ∷ f.stack) f) f
    unfolding effect in_tables enter dues.space_due
    enter_gives space t c f k of live admits under =
        let u = live_is_below k t c under of live in
        record { straight = refl; tables = refl; gives = rw (live_on schema sf part code k u.0 f f.stack u.1 u.3, allowed_below space u.0 c u.2 admits, may) refl }

    leave_gives : (space : ℕ) (t : Kind) (c : ℕ) (f : Frame) (k : Kind) → class_of t ≡ Some c → is_live t ≡ true → space < length schema.spaces → IsUnder schema sf k t → Gives schema part code (ops.Leave space) (with_stack (k ∷ f.stack) f) f
    unfolding effect in_tables leave dues.known_space
    leave_gives space t c f k of live there under =
        let u = live_is_below k t c under of live in
        record { straight = refl; tables = refl; gives = rw (live_on schema sf part code k u.0 f f.stack u.1 u.3, lt-ltb space (length schema.spaces) there, may) refl }

    -- ---- delete

    delete_gives : (t : Kind) (c : ℕ) (f : Frame) (k : Kind) → class_of t ≡ Some c → is_live t ≡ true → IsUnder schema sf k t → (b : ℕ) × (descends schema b c ≡ true) × Gives schema part code ops.Delete (with_stack (k ∷ f.stack) f) (after_delete schema b f)
    unfolding effect in_tables delete
    delete_gives t c f k of live under =
        let u = live_is_below k t c under of live in
        (u.0, u.2, record { straight = refl; tables = refl; gives = rw (live_on schema sf part code k u.0 f f.stack u.1 u.3, may) refl })

    -- ---- set

    value_due_ok : (c slot : ℕ) (wanted l : Kind) → dues.plain_slot schema c slot ≡ Ok wanted → dues.due wanted l ≡ Ok tt → dues.value_due schema c slot l ≡ Ok tt
    unfolding dues.value_due
    value_due_ok c slot wanted l there right = ap (λ (r : Result Kind CodeFlaw). let a : Result (Unit {0}) CodeFlaw = elim r [ Ok held ↦ dues.due held l | Err _ ↦ Ok tt ] in a) there ∙ right

    set_gives : (t u : Kind) (c : ℕ) (name : List ℕ) (p : ℕ × Kind) (f : Frame) (k l : Kind) → class_of t ≡ Some c → is_live t ≡ true → slots.value_slot schema c name ≡ Ok p → frame_kinds.is_same_plain u p.1 ≡ true → IsUnder schema sf k t → IsUnder schema sf l u
        → Gives schema part code (ops.Set p.0) (with_stack (l ∷ k ∷ f.stack) f) f
    unfolding effect in_tables set_slot pop_two pop
    set_gives t u c name p f k l of live slot same under other =
        let b = live_is_below k t c under of live in
        let there = value_below schema sf c name b.0 b.2 p slot in
        record { straight = refl; tables = refl; gives = rw (b.1, value_due_ok b.0 p.0 p.1 l there (is_due schema sf l u p.1 other same), b.3, there, may) refl }

    -- ---- link, unlink

    relink_gives : (change : LinkChange) (t u : Kind) (c d : ℕ) (name : List ℕ) (p : ℕ × Link) (f : Frame) (k l : Kind) → class_of t ≡ Some c → is_live t ≡ true → class_of u ≡ Some d → is_live u ≡ true → slots.link_slot schema c name ≡ Ok p
        → descends schema d p.1.to ≡ true → IsUnder schema sf k t → IsUnder schema sf l u → Gives schema part code (ops.Relink change p.0) (with_stack (l ∷ k ∷ f.stack) f) f
    unfolding effect in_tables relink pop_two pop dues.partner_due
    relink_gives change t u c d name p f k l of live of_other live_other slot up under other =
        let a = live_is_below k t c under of live in
        let b = live_is_below l u d other of_other live_other in
        let there = link_below schema sf c name a.0 a.2 p slot in
        record { straight = refl; tables = refl; gives = rw (a.1, b.1, a.3, b.3, there, descends_on schema sf b.0 d p.1.to b.2 up, may) refl }

  -- ---- statements

  after_locals : (b : ℕ) (f : Frame) → (after_delete schema b f).locals ≡ map (struck schema b) f.locals
  unfolding after_delete
  after_locals b f = refl

  after_stack : (b : ℕ) (f : Frame) → f.stack ≡ [] → (after_delete schema b f).stack ≡ []
  unfolding after_delete
  after_stack b f none = ap (map (struck schema b)) none

  pub enter_does : (v : Variable) (space : List ℕ) (s t : Buffer) → (Clean s → writes part ≡ Ok tt) → enter_code schema v space s ≡ Ok t → Clean t → DoesHere s t
  unfolding enter_code
  enter_does v space s t may h clean =
      let one = bind_ok (unit_code v STACK_LIMIT s) (λ p. entered schema p.0 (space_named schema space) (known (space_named schema space) p.1)) t h in
      by_names one.0.0 one.0.1 (space_named schema space) one.1 one.2
    where
      by_names : (class : Option ℕ) (u : Buffer) (o : Option ℕ) → unit_code v STACK_LIMIT s ≡ Ok (class, u) → entered schema class o (known o u) ≡ Ok t → DoesHere s t
      by_names None u (Some k) unit h = no_unit schema sf part code v STACK_LIMIT s u unit (ap (λ (x : Buffer). x.flaw) (same_ok u t h) ∙ clean)
      by_names None u None unit h = never_noted Unknown u (ap (λ (x : Buffer). x.flaw) (same_ok (noted Unknown u) t h) ∙ clean)
      by_names (Some c) u None unit h = never_noted Unknown u (ap (λ (x : Buffer). x.flaw) (same_ok (noted Unknown u) t h) ∙ clean)
      by_names (Some c) u (Some k) unit h =
          let was = space_noted schema k c u in
          let noted_put = put_ok (ops.Enter k) was t h in
          let free = passed (allowed schema k c) Space u (clean_before (ops.Enter k) was t noted_put clean) in
          let put_is : t ≡ with_op (ops.Enter k) u = noted_put ∙ ap (with_op (ops.Enter k)) free.1 in
          let first = unit_lays schema sf part code v STACK_LIMIT s u (Some c) unit (clean_before (ops.Enter k) u t put_is clean) in
          let is_live = unit_live STACK_LIMIT s u (Some c) c first refl first.lays.kind first.lays.made_is in
          one_does (ops.Enter k) s u t (Some first.kind) first.lays put_is (λ f x under. enter_gives (may first.lays.clean) k first.lays.kind c f x is_live.0 is_live.1 free.0 under)

  pub leave_does : (v : Variable) (space : List ℕ) (s t : Buffer) → (Clean s → writes part ≡ Ok tt) → leave_code schema v space s ≡ Ok t → Clean t → DoesHere s t
  unfolding leave_code
  leave_does v space s t may h clean =
      let one = bind_ok (unit_code v STACK_LIMIT s) (λ p. left_space (space_named schema space) p.1) t h in
      by_space one.0.0 one.0.1 (space_named schema space) refl one.1 one.2
    where
      by_space : (class : Option ℕ) (u : Buffer) (o : Option ℕ) → space_named schema space ≡ o → unit_code v STACK_LIMIT s ≡ Ok (class, u) → left_space o u ≡ Ok t → DoesHere s t
      by_space class u None at unit h = never_noted Unknown u (ap (λ (x : Buffer). x.flaw) (same_ok (noted Unknown u) t h) ∙ clean)
      by_space class u (Some k) at unit h =
          let put_is = put_ok (ops.Leave k) u t h in
          let first = unit_lays schema sf part code v STACK_LIMIT s u class unit (clean_before (ops.Leave k) u t put_is clean) in
          let is_live = unit_live STACK_LIMIT s u class first.of first first.class_is first.lays.kind first.lays.made_is in
          one_does (ops.Leave k) s u t (Some first.kind) first.lays put_is (λ f x under. leave_gives (may first.lays.clean) k first.lays.kind first.of f x is_live.0 is_live.1 (space_there schema space k at) under)

  -- sequences stay where a unit was deleted
  struck_kept : (c : ℕ) (k : Kind) (class : ℕ) → struck schema c k ≡ kinds.Seq class → k ≡ kinds.Seq class
  unfolding struck
  struck_kept c (kinds.Seq d) class h = h
  struck_kept c (kinds.Ref d) class h = by_strike (strikes schema c d) h
    where
      by_strike : (b : Bool) → cond b (kinds.Old d) (kinds.Ref d) ≡ kinds.Seq class → kinds.Ref d ≡ kinds.Seq class
      by_strike true h = absurd cc
      by_strike false h = absurd cc
  struck_kept c kinds.Any class h = absurd cc
  struck_kept c kinds.Int class h = absurd cc
  struck_kept c kinds.Text class h = absurd cc
  struck_kept c kinds.Bool class h = absurd cc
  struck_kept c (kinds.Label set) class h = absurd cc
  struck_kept c kinds.Interval class h = absurd cc
  struck_kept c (kinds.Old d) class h = absurd cc

  sequence_struck : (c class : ℕ) → struck schema c (kinds.Seq class) ≡ kinds.Seq class
  unfolding struck
  sequence_struck c class = refl

  struck_sequences : (b c : ℕ) (locals thought : List Kind) → HasSequences schema sf locals thought → HasSequences schema sf (map (struck schema b) locals) (map (struck schema c) thought)
  struck_sequences b c locals thought has i class is =
      struck_at schema b locals i ∙ (ap (struck schema b) (has i class (struck_kept c (kind_at thought i) class (sym (struck_at schema c thought i) ∙ is))) ∙ sequence_struck b class)

  pub delete_does : (v : Variable) (s t : Buffer) → (Clean s → writes part ≡ Ok tt) → delete_code schema v s ≡ Ok t → Clean t → DoesHere s t
  unfolding delete_code grown_on
  delete_does v s t may h clean =
      let one = bind_ok (unit_code v STACK_LIMIT s) (λ p. deleted schema p.0 p.1) t h in by_class one.0.0 one.0.1 one.1 one.2
    where
      by_class : (class : Option ℕ) (u : Buffer) → unit_code v STACK_LIMIT s ≡ Ok (class, u) → deleted schema class u ≡ Ok t → DoesHere s t
      by_class None u unit h = no_unit schema sf part code v STACK_LIMIT s u unit (ap (λ (x : Buffer). x.flaw) (same_ok u t h) ∙ clean)
      by_class (Some c) u unit h =
          let two = bind_ok (put ops.Delete u) (λ x. Ok (with_kinds (map (struck schema c) x.scope.kinds) x)) t h in
          let put_is = put_ok ops.Delete u two.0 two.1 in
          let all : t ≡ with_kinds (map (struck schema c) u.scope.kinds) (with_op ops.Delete u) = sym (same_ok (with_kinds (map (struck schema c) two.0.scope.kinds) two.0) t two.2) ∙ ap (λ (x : Buffer). with_kinds (map (struck schema c) x.scope.kinds) x) put_is in
          let last : Grown u t = record {
            ops = ops.Delete ∷ [];
            ops_are = ap (λ (x : Buffer). x.ops) all;
            texts = [];
            texts_are = ap (λ (x : Buffer). x.texts) all ∙ sym (append-nil u.texts);
            queries = [];
            queries_are = ap (λ (x : Buffer). x.queries) all ∙ sym (append-nil u.queries);
          } in
          let first = unit_lays schema sf part code v STACK_LIMIT s u (Some c) unit (sym (ap (λ (x : Buffer). x.flaw) all) ∙ clean) in
          let m = first.lays in
          let is_live = unit_live STACK_LIMIT s u (Some c) c first refl m.kind m.made_is in
          let names_are : t.scope.names ≡ s.scope.names = ap (λ (x : Buffer). x.scope.names) all ∙ ap (λ (x : Buffer). x.scope.names) m.same in
          let kinds_are : t.scope.kinds ≡ map (struck schema c) s.scope.kinds = ap (λ (x : Buffer). x.scope.kinds) all ∙ ap (λ (x : Buffer). map (struck schema c) x.scope.kinds) m.same in
          record {
            grown = grown_on s u t m.grown last;
            clean = m.clean;
            same = ap marks all ∙ marks_same s u m.same;
            locals = let e : t.locals ≡ s.locals = ap (λ (x : Buffer). x.locals) all ∙ ap (λ (x : Buffer). x.locals) m.same in omega (arith, e);
            right = λ no. absurd cc;
            moves = struck_moves schema sf s t c names_are kinds_are (ap (λ (x : Buffer). x.locals) all ∙ ap (λ (x : Buffer). x.locals) m.same);
            some = last_some m.grown.ops ops.Delete;
            leads = λ few f stands.
                let x = m.leads f stands.1 (all_room schema sf part code small f stands.0) in
                let d = delete_gives (may m.clean) m.kind c f x.0 is_live.0 is_live.1 x.1 in
                let g = after_delete schema d.0 f in
                let end : Leads schema part code (ops.Delete ∷ []) (with_stack (x.0 ∷ f.stack) f) g = (g, d.2, refl) in
                let known_after : AreKnown schema sf (map (struck schema d.0) f.locals) t.scope.kinds t.scope.names =
                subst (λ ks. AreKnown schema sf (map (struck schema d.0) f.locals) ks t.scope.names) (sym kinds_are) (subst (AreKnown schema sf (map (struck schema d.0) f.locals) (map (struck schema c) s.scope.kinds)) (sym names_are)
                (known_struck schema sf f.locals s.scope.kinds s.scope.names d.0 c d.1 stands.1.1)) in (
                  g,
                  (
                    after_stack d.0 f stands.0,
                    (
                      ap length (after_locals d.0 f) ∙ (length-map f.locals (struck schema d.0) ∙ stands.1.0),
                      subst (λ l. AreKnown schema sf l t.scope.kinds t.scope.names) (sym (after_locals d.0 f)) known_after,
                      subst (λ l. HasSequences schema sf l t.scope.kinds) (sym (after_locals d.0 f)) (subst (HasSequences schema sf (map (struck schema d.0) f.locals)) (sym kinds_are) (struck_sequences d.0 c f.locals s.scope.kinds stands.1.2)),
                    ),
                  ),
                  leads_on schema part code m.grown.ops (ops.Delete ∷ []) f (with_stack (x.0 ∷ f.stack) f) g x.2 end,
                );
          }

  pub set_does : (v : Variable) (slot : List ℕ) (e : ExprTree) (s t : Buffer) → (Clean s → writes part ≡ Ok tt) → set_code schema v slot e s ≡ Ok t → Clean t → Has code t → DoesHere s t
  unfolding set_code
  set_does v slot e s t may h clean has =
      let one = bind_ok (unit_code v STACK_LIMIT s) (λ p. expr_code schema (STACK_LIMIT - 1) e p.1 >>= λ q. set_in schema p.0 slot q.0 q.1) t h in
      let two = bind_ok (expr_code schema (STACK_LIMIT - 1) e one.0.1) (λ q. set_in schema one.0.0 slot q.0 q.1) t one.2 in
      by_class one.0.0 one.0.1 two.0.0 two.0.1 one.1 two.1 two.2
    where
      by_slot : (c : ℕ) (u : Buffer) (made : Made) (w : Buffer) (r : Result (ℕ × Kind) TextFlaw) → slots.value_slot schema c slot ≡ r → unit_code v STACK_LIMIT s ≡ Ok (Some c, u) → expr_code schema (STACK_LIMIT - 1) e u ≡ Ok (made, w) → set_by r made w ≡ Ok t → DoesHere s t
      by_slot c u made w (Err flaw) at unit value h = never_noted flaw w (ap (λ (x : Buffer). x.flaw) (same_ok (noted flaw w) t h) ∙ clean)
      by_slot c u made w (Ok p) at unit value h =
          let noted_put = put_ok (ops.Set p.0) (due made p.1 w) t h in
          let due_clean = clean_before (ops.Set p.0) (due made p.1 w) t noted_put clean in
          let put_is : t ≡ with_op (ops.Set p.0) w = noted_put ∙ ap (with_op (ops.Set p.0)) (buffers.is_due made p.1 w due_clean) in
          let own = has_before code w t (grown_op (ops.Set p.0) w t put_is) has in
          let second = expr_lays schema sf part code small e (STACK_LIMIT - 1) u w made value (clean_before (ops.Set p.0) w t put_is clean) own in
          let first = unit_lays schema sf part code v STACK_LIMIT s u (Some c) unit second.clean in
          let is_live = unit_live STACK_LIMIT s u (Some c) c first refl first.lays.kind first.lays.made_is in
          let same = due_kind second.kind p.1 w (subst (λ o. Clean (due o p.1 w)) second.made_is due_clean) in
          two_does (ops.Set p.0) s u w t (Some first.kind) made first.lays second put_is (λ f k l under other. set_gives (may first.lays.clean) first.lays.kind second.kind c slot p f k l is_live.0 is_live.1 at same under other)

      by_class : (class : Option ℕ) (u : Buffer) (made : Made) (w : Buffer) → unit_code v STACK_LIMIT s ≡ Ok (class, u) → expr_code schema (STACK_LIMIT - 1) e u ≡ Ok (made, w) → set_in schema class slot made w ≡ Ok t → DoesHere s t
      by_class None u made w unit value h =
          let same = same_ok w t h in
          let second = expr_lays schema sf part code small e (STACK_LIMIT - 1) u w made value (ap (λ (x : Buffer). x.flaw) same ∙ clean) (subst (Has code) (sym same) has) in
          no_unit schema sf part code v STACK_LIMIT s u unit second.clean
      by_class (Some c) u made w unit value h = by_slot c u made w (slots.value_slot schema c slot) refl unit value h

  pub relink_does : (change : LinkChange) (v : Variable) (slot : List ℕ) (other : Variable) (s t : Buffer) → (Clean s → writes part ≡ Ok tt) → relink_code schema change v slot other s ≡ Ok t → Clean t → DoesHere s t
  unfolding relink_code
  relink_does change v slot other s t may h clean =
      let one = bind_ok (unit_code v STACK_LIMIT s) (λ p. unit_code other (STACK_LIMIT - 1) p.1 >>= λ q. relinked_in schema change p.0 slot q.0 q.1) t h in
      let two = bind_ok (unit_code other (STACK_LIMIT - 1) one.0.1) (λ q. relinked_in schema change one.0.0 slot q.0 q.1) t one.2 in
      by_class one.0.0 one.0.1 two.0.0 two.0.1 one.1 two.1 two.2
    where
      by_slot : (c : ℕ) (u : Buffer) (of : Option ℕ) (w : Buffer) (r : Result (ℕ × Link) TextFlaw) → slots.link_slot schema c slot ≡ r → unit_code v STACK_LIMIT s ≡ Ok (Some c, u) → unit_code other (STACK_LIMIT - 1) u ≡ Ok (of, w) → relinked_by schema change r of w ≡ Ok t → DoesHere s t
      by_slot c u of w (Err flaw) at unit also h = never_noted flaw w (ap (λ (x : Buffer). x.flaw) (same_ok (noted flaw w) t h) ∙ clean)
      by_slot c u None w (Ok p) at unit also h =
          let put_is = put_ok (ops.Relink change p.0) w t h in no_unit schema sf part code other (STACK_LIMIT - 1) u w also (clean_before (ops.Relink change p.0) w t put_is clean)
      by_slot c u (Some d) w (Ok p) at unit also h =
          let was = link_noted schema p.1.to (Some d) w in
          let noted_put = put_ok (ops.Relink change p.0) was t h in
          let free = passed (descends schema d p.1.to) LinkClass w (clean_before (ops.Relink change p.0) was t noted_put clean) in
          let put_is : t ≡ with_op (ops.Relink change p.0) w = noted_put ∙ ap (with_op (ops.Relink change p.0)) free.1 in
          let second = unit_lays schema sf part code other (STACK_LIMIT - 1) u w (Some d) also (clean_before (ops.Relink change p.0) w t put_is clean) in
          let first = unit_lays schema sf part code v STACK_LIMIT s u (Some c) unit second.lays.clean in
          let is_live = unit_live STACK_LIMIT s u (Some c) c first refl first.lays.kind first.lays.made_is in
          let other_live = unit_live (STACK_LIMIT - 1) u w (Some d) d second refl second.lays.kind second.lays.made_is in
          two_does (ops.Relink change p.0) s u w t (Some first.kind) (Some second.kind) first.lays second.lays put_is
          (λ f k l under below. relink_gives (may first.lays.clean) change first.lays.kind second.lays.kind c d slot p f k l is_live.0 is_live.1 other_live.0 other_live.1 at free.0 under below)

      by_class : (class : Option ℕ) (u : Buffer) (of : Option ℕ) (w : Buffer) → unit_code v STACK_LIMIT s ≡ Ok (class, u) → unit_code other (STACK_LIMIT - 1) u ≡ Ok (of, w) → relinked_in schema change class slot of w ≡ Ok t → DoesHere s t
      by_class None u of w unit also h =
          let same = same_ok w t h in
          let second = unit_lays schema sf part code other (STACK_LIMIT - 1) u w of also (ap (λ (x : Buffer). x.flaw) same ∙ clean) in
          no_unit schema sf part code v STACK_LIMIT s u unit second.lays.clean
      by_class (Some c) u of w unit also h = by_slot c u of w (slots.link_slot schema c slot) refl unit also h
