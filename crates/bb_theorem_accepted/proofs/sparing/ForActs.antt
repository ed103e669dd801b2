-- What a `for` does to the names in scope, and what its body leaves where it ends: what is live at the loop's head is
-- live there too, so that the way back fits.
use Rattle.std.proofs.Common.{◌≡◌, ◌⊎◌, inl, inr, ℕ, suc, ◌-◌, ◌≤◌, Bool, true, false, ◌&&◌, List, [], ◌∷◌, ◌++◌, length, Option, Some, None, Result, Ok, Err, refl, subst, sym, ap, ◌∙◌, arith}
use Rattle.std.specs.Prelude.{set, position, option_map, option_and_then, slice_get}
use Rattle.std.proofs.lemmas.List.{length-set}
use Rattle.bb_basis.specs.Results.{◌>>=◌}
use Rattle.bb_basis.proofs.ResultLemmas.{bind_ok}
use Rattle.bb_basis.proofs.PositionLemmas.{position_within}
use Rattle.bb_code.specs.declared.parts.TheConstants.{STACK_LIMIT}
use Rattle.bb_pattern.specs.Trees.{Tree}
use Rattle.bb_schema.specs.Schema.{Schema, class_named, space_named}
use Rattle.bb_schema_classes.specs.declared.kind.Link.{Link}
use Rattle.bb_verify_effect.specs.declared.part.Part.{Part}
use Rattle.bb_code.specs.declared.frame.Kind.{Kind}
use Rattle.bb_code.specs.declared.frame.Kind.TheVariants.{Ref, Seq}
use Rattle.bb_code.specs.declared.op.Op.TheVariants as ops
use Rattle.bb_lang.specs.Sequence.{Sequence}
use Rattle.bb_lang.specs.Sequence.TheVariants.{Find, Links}
use Rattle.bb_lang.specs.Variable.{Variable}
use Rattle.bb_lang.specs.View.{sequence_of}
use Rattle.bb_lang.specs.Blocks.{BlockTree}
use Rattle.bb_compile_scope.specs.declared.fault.TextFlaw.{TextFlaw}
use Rattle.bb_compile_scope.specs.Kinds.{is_live}
use Rattle.bb_compile_scope.specs.Killed.{unless_fault, killed_under}
use Rattle.bb_compile_scope.specs.LocalKinds.{is_free, kind_at}
use Rattle.bb_compile_scope.specs.Scope.{mark_of, back_to}
use Rattle.bb_compile_scope.specs.Slots.{link_slot}
use Rattle.bb_compile_scope.specs.declared.scope.NamedLocal.{NamedLocal}
use Rattle.bb_compile_scope.specs.declared.scope.Scope.{Scope}
use Rattle.bb_compile_scope.proofs.Laws.{at_same, at_other, frees, frees_taken}
use Rattle.bb_compile_buffer.specs.declared.buffer.Buffer.{Buffer}
use Rattle.bb_compile_buffer.specs.Buffers.{noted, known, put, put_value, asked_query, labelled, leave}
use Rattle.bb_compile_buffer.specs.Atoms.{unit_code}
use Rattle.bb_compile.specs.declared.asked.Asked.{Asked}
use Rattle.bb_compile.specs.declared.looping.Begun.{Begun}
use Rattle.bb_compile.specs.Queries.{Patterned, no_operand, query_code, linked_by, linked_from, links_code}
use Rattle.bb_compile.specs.Expressions.{sequence_code, pattern_code}
use Rattle.bb_compile.specs.Statements.{at_back, loop_closed}
use Rattle.bb_theorem_accepted.proofs.buffers.BufferLemmas.{Clean, with_op, never_noted, put_ok}
use Rattle.bb_theorem_accepted.proofs.buffers.PutLemmas.{pair_ok, unit_ok}
use Rattle.bb_theorem_accepted.proofs.kinds.KnowLemmas.{aged, Agree}
use Rattle.bb_theorem_accepted.proofs.kinds.MoveLemmas.{Sole, one_or_other}
use Rattle.bb_theorem_accepted.proofs.sparing.ScopeLemmas.{Onto, onto_kept, onto_on, onto_level, set_agree, Levels, level_left, level_twice, level_frees}
use Rattle.bb_theorem_accepted.proofs.sparing.SpareLemmas.{shape, sequence_in, block_spares, block_fits, block_more, shape_agree}
use Rattle.bb_theorem_accepted.proofs.sparing.ShapeLemmas.{of, Spares, All, spares_on, spares_left, spares_twice, spares_set, shaped_level}
use Rattle.bb_theorem_accepted.proofs.sparing.KilledLemmas.{Kills, under_walks}
use Rattle.bb_theorem_accepted.proofs.sparing.BodyLemmas.{loop_kills}
use Rattle.bb_theorem_accepted.proofs.buffers.StayLemmas.{behind, keeps_ok, sequence_keeps}
use Rattle.bb_theorem_accepted.proofs.sparing.PlainLemmas.{unit_class_is}
use Rattle.bb_theorem_accepted.proofs.sparing.ActLemmas.{Acts, acts_declared}
use Rattle.bb_theorem_accepted.proofs.blocks.LoopLaid.{SequenceLaid, HeadLaid, ForLaid}
use Rattle.bb_theorem_accepted.proofs.sparing.BranchActs.{BlockActs, spares_fewer}

-- ---- the class of a sequence

query_class : (class space : Option ℕ) (asked : Asked) (pattern : Tree) (room : ℕ) (s t : Buffer) (found : Option ℕ) → query_code class space asked pattern room s ≡ Ok (found, t) → found ≡ class
unfolding query_code
query_class (Some c) (Some k) asked pattern room s t found h =
    let one = bind_ok (asked_query (record { class = c; space = k; kinds = asked.kinds; pattern = pattern }) s) (λ p. put_value (ops.Find p.0) room p.1 >>= λ u. Ok (Some c, u)) (found, t) h in
    let two = bind_ok (put_value (ops.Find one.0.0) room one.0.1) (λ u. Ok (Some c, u)) (found, t) one.2 in
    sym (pair_ok (Some c) found two.0 t two.2).0
query_class (Some c) None asked pattern room s t found h = sym (pair_ok (Some c) found s t h).0
query_class None space asked pattern room s t found h = sym (pair_ok None found s t h).0

module _ (schema : Schema) where
  links_class : (unit : Variable) (slot : List ℕ) (room : ℕ) (s t : Buffer) (found : Option ℕ) → links_code schema unit slot room s ≡ Ok (found, t) → Clean t → found ≡ sequence_in schema (of s.scope) (Links unit slot)
  unfolding links_code
  links_class unit slot room s t found h clean =
      let one = bind_ok (unit_code unit room s) (λ p. linked_from schema slot p.0 p.1) (found, t) h in by_class one.0.0 one.0.1 one.1 one.2
    where
      by_slot : (c : ℕ) (u : Buffer) (r : Result (ℕ × Link) TextFlaw) → link_slot schema c slot ≡ r → unit_code unit room s ≡ Ok (Some c, u) → linked_by r u ≡ Ok (found, t) → found ≡ sequence_in schema (of s.scope) (Links unit slot)
      by_slot c u (Err flaw) at code_is h = never_noted flaw u (ap (λ (x : Buffer). x.flaw) (pair_ok None found (noted flaw u) t h).1 ∙ clean)
      by_slot c u (Ok p) at code_is h =
          let one = bind_ok (put (ops.Links p.0) u) (λ x. Ok (Some p.1.to, x)) (found, t) h in
          let same = pair_ok (Some p.1.to) found one.0 t one.2 in
          let clean_u : Clean u = sym (ap (λ (x : Buffer). x.flaw) (put_ok (ops.Links p.0) u one.0 one.1)) ∙ (ap (λ (x : Buffer). x.flaw) same.1 ∙ clean) in
          sym same.0
          ∙ (ap (λ (r : Result (ℕ × Link) TextFlaw). option_map (λ (p : ℕ × Link). p.1.to) (unless_fault r)) (sym at)
          ∙ ap (λ o. option_and_then (λ class. option_map (λ (p : ℕ × Link). p.1.to) (unless_fault (link_slot schema class slot))) o) (unit_class_is unit room s u c code_is clean_u))

      by_class : (o : Option ℕ) (u : Buffer) → unit_code unit room s ≡ Ok (o, u) → linked_from schema slot o u ≡ Ok (found, t) → found ≡ sequence_in schema (of s.scope) (Links unit slot)
      by_class None u code_is h =
          let same = (pair_ok None found u t h).1 in
          let own = unit_ok unit room s u None code_is (ap (λ (x : Buffer). x.flaw) same ∙ clean) in
          absurd (let e = own.3 in cc)
      by_class (Some c) u code_is h = by_slot c u (link_slot schema c slot) refl code_is h

  pub sequence_class_is : (sequence : Sequence) (room : ℕ) (s t : Buffer) (found : Option ℕ) → sequence_code schema room (sequence_of sequence) s ≡ Ok (found, t) → Clean t → found ≡ sequence_in schema (of s.scope) sequence
  unfolding sequence_code
  sequence_class_is (Links unit slot) room s t found h clean = links_class unit slot room s t found h clean
  sequence_class_is (Find class space pattern) room s t found h clean =
      let class_is = class_named schema class in
      let space_is = space_named schema space in
      let one = bind_ok (pattern_code schema room space_is pattern no_operand (known space_is (known class_is s))) (λ (q : Patterned Tree). query_code class_is space_is q.1 q.0 room q.2) (found, t) h in
      query_class class_is space_is one.0.1 one.0.0 room one.0.2 t found one.2

-- ---- the scope at the end

closed_scope : (begun : Begun) (ended : Bool) (x : Buffer) → (loop_closed begun (with_op (ops.Back begun.head) (at_back begun ended x))).scope ≡ record { names = (back_to begun.start x.scope).names; kinds = begun.start.kinds }
unfolding labelled
closed_scope begun true x = refl
closed_scope begun false x = refl

labelled_scope : (x : Buffer) → (labelled x).scope ≡ x.scope
unfolding labelled
labelled_scope x = refl

-- where the body ends, the locals hold what they hold at the head, but for units that may be deleted at the head alone
pub record Returns (at_head at_end : List Kind) : Type 0 where
  pub agree : Agree at_head at_end
  pub live : (i : ℕ) → is_live (kind_at at_head i) ≡ true → is_live (kind_at at_end i) ≡ true

-- units that are live are those of names
abbrev pub AreNamed : Scope → Type 0
AreNamed a = (i : ℕ) → is_live (kind_at a.kinds i) ≡ true → (j : ℕ) × (n : NamedLocal) × (slice_get a.names j ≡ Some n) × (n.local ≡ i)

pub record ForActs (schema : Schema) (sequence : Sequence) (name : List ℕ) (body : BlockTree) (s t : Scope) : Type 0 where
  pub level : Levels s t
  pub room : 2 ≤ frees s.kinds
  pub fits : block_fits body (frees s.kinds - 2)
  pub spares : Spares s t (block_spares schema (of s ++ (name, sequence_in schema (of s) sequence) ∷ []) body)

module _ (schema : Schema) (part : Part) (loops : ℕ) (name : List ℕ) (sequence : Sequence) (body : BlockTree) (s t : Buffer) (now : Bool) (sole : Sole s.scope.kinds s.scope.names) (f : ForLaid schema part loops name sequence body s t now) where
  abbrev pub q : SequenceLaid schema sequence loops s f.held f.class f.local
  q = f.sequence_is

  abbrev pub hd : HeadLaid schema name f.class f.local body f.held f.inner f.begun
  hd = f.head_is

  -- after the sequence
  pub sequence_keeps_scope : q.behind.scope ≡ s.scope
  sequence_keeps_scope = (keeps_ok behind s (sequence_code schema STACK_LIMIT (sequence_of sequence) s) (Some f.class, q.behind) q.code_is (sequence_keeps schema (sequence_of sequence) STACK_LIMIT s)).scope

  pub free : position is_free s.scope.kinds ≡ Some f.local
  free = ap (λ (c : Scope). position is_free c.kinds) (sym sequence_keeps_scope) ∙ q.free

  abbrev pub held : Scope
  held = f.held.scope

  pub names_held : held.names ≡ s.scope.names
  names_held = ap (λ (x : Buffer). x.scope.names) q.is ∙ ap (λ (c : Scope). c.names) sequence_keeps_scope

  pub kinds_held : held.kinds ≡ set s.scope.kinds f.local (Seq f.class)
  kinds_held = ap (λ (x : Buffer). x.scope.kinds) q.is ∙ ap (λ (c : Scope). set c.kinds f.local (Seq f.class)) sequence_keeps_scope

  pub agree_held : Agree s.scope.kinds held.kinds
  agree_held i taken = set_agree s.scope.kinds f.local (Seq f.class) free i taken ∙ ap (λ ks. aged (kind_at ks i)) (sym kinds_held)

  pub onto_held : Onto s.scope held
  onto_held = onto_kept s.scope held names_held (ap length kinds_held ∙ length-set s.scope.kinds f.local (Seq f.class)) agree_held

  pub sole_held : Sole held.kinds held.names
  sole_held = onto_held.sole sole

  shape_held : of held ≡ of s.scope
  shape_held = ap (shape held.kinds) names_held ∙ shape_agree s.scope.kinds held.kinds s.scope.names agree_held sole

  frees_held : frees s.scope.kinds ≡ suc (frees held.kinds)
  frees_held = frees_taken s.scope.kinds f.local (Seq f.class) free refl ∙ ap (λ ks. suc (frees ks)) (sym kinds_held)

  spares_held : Spares s.scope held All
  spares_held = spares_set s.scope held f.local (Seq f.class) free kinds_held sole

  -- at the head
  abbrev pub head : Scope
  head = killed_under schema held name (Some f.class) body

  pub head_scope : hd.head.scope ≡ head
  unfolding labelled
  head_scope = ap (λ (x : Buffer). x.scope) hd.head_is

  pub level_head : Levels held head
  level_head = (under_walks schema held name (Some f.class) body).0

  pub sole_head : Sole head.kinds head.names
  sole_head = (onto_level held head level_head).sole sole_held

  pub named : (1 ≤ frees head.kinds) × Acts head f.inner.scope ((name, Some f.class) ∷ []) All
  named = acts_declared head name (Ref f.class) (Some f.class) (with_op (ops.Next f.local 0) hd.head) f.inner sole_head head_scope refl refl hd.declared

  pub sole_inner : Sole f.inner.scope.kinds f.inner.scope.names
  sole_inner = named.1.onto.sole sole_head

  shape_head : of head ≡ of held
  shape_head = shaped_level held head level_head sole_held

  -- the body
  module _ (block : BlockActs schema body f.inner.scope f.end.scope) where
    rooms : (2 ≤ frees s.scope.kinds) × (frees f.inner.scope.kinds ≡ frees s.scope.kinds - 2) × (1 ≤ frees held.kinds) × (frees f.inner.scope.kinds ≤ frees held.kinds - 1)
    rooms =
        let one = frees_held in
        let two = level_frees held head level_head in
        let three = named.1.frees in
        let some = named.0 in
        (omega (arith, one, two, some), omega (arith, one, two, three), omega (arith, two, some), omega (arith, two, three))

    abbrev spared : ℕ → Bool
    spared = block_spares schema (of held ++ (name, Some f.class) ∷ []) body

    kills : Kills held head spared
    kills = loop_kills schema held name (Some f.class) body sole_held rooms.2 (block_more body (frees f.inner.scope.kinds) (frees held.kinds - 1) rooms.3 block.fits)

    shape_inner : of f.inner.scope ≡ of held ++ (name, Some f.class) ∷ []
    shape_inner = named.1.shaped ∙ ap (λ S. S ++ (name, Some f.class) ∷ []) shape_head

    -- after the loop
    abbrev pub closed : Scope
    closed = record { names = (back_to f.begun.start (back_to (mark_of f.inner.scope) f.end.scope)).names; kinds = f.begun.start.kinds }

    pub start_is : f.begun.start ≡ mark_of head
    start_is = ap (λ (b : Begun). b.start) hd.begun_is ∙ ap mark_of head_scope

    -- where the body ends
    abbrev pub ended : Scope
    ended = back_to (mark_of head) (back_to (mark_of f.inner.scope) f.end.scope)

    pub level_ended : Levels head ended
    level_ended = level_twice head f.inner.scope f.end.scope named.1.onto block.onto

    pub names_closed : closed.names ≡ head.names
    names_closed = ap (λ m. (back_to m (back_to (mark_of f.inner.scope) f.end.scope)).names) start_is ∙ level_ended.names

    pub kinds_closed : closed.kinds ≡ head.kinds
    kinds_closed = ap (λ m. m.kinds) start_is

    pub scope_is : t.scope ≡ back_to (mark_of s.scope) closed
    scope_is = ap (λ (x : Buffer). x.scope) f.is ∙ (labelled_scope (leave (mark_of s.scope) (loop_closed f.begun (with_op (ops.Back f.begun.head) (at_back f.begun f.ended (leave (mark_of f.inner.scope) f.end)))))
        ∙ ap (λ c. back_to (mark_of s.scope) c) (closed_scope f.begun f.ended (leave (mark_of f.inner.scope) f.end)))

    pub level_closed : Levels held closed
    level_closed = record {
      names = names_closed ∙ level_head.names;
      agree = λ i taken. level_head.agree i taken ∙ ap (λ ks. aged (kind_at ks i)) (sym kinds_closed);
      count = ap length kinds_closed ∙ level_head.count;
      free = λ i. ap (λ ks. is_free (kind_at ks i)) kinds_closed ∙ level_head.free i;
    }

    onto_closed : Onto s.scope closed
    onto_closed = onto_on s.scope held closed onto_held (onto_level held closed level_closed)

    spares_closed : Spares s.scope closed spared
    spares_closed =
        spares_fewer s.scope closed (λ j. All j && spared j) spared (λ j h. h)
        (spares_on s.scope held closed All spared onto_held spares_held (λ j n at live ok. ap (λ ks. is_live (kind_at ks n.local)) kinds_closed ∙ kills.spares j n at live ok))

    class_found : Some f.class ≡ sequence_in schema (of s.scope) sequence
    class_found = sequence_class_is schema sequence STACK_LIMIT s q.behind (Some f.class) q.code_is q.clean

    pub for_acts : ForActs schema sequence name body s.scope t.scope
    for_acts = record {
      level = subst (Levels s.scope) (sym scope_is) (level_left s.scope closed onto_closed);
      room = rooms.0;
      fits = subst (block_fits body) rooms.1 block.fits;
      spares = subst (λ c. Spares s.scope c (block_spares schema (of s.scope ++ (name, sequence_in schema (of s.scope) sequence) ∷ []) body)) (sym scope_is)
          (subst (λ o. Spares s.scope (back_to (mark_of s.scope) closed) (block_spares schema (of s.scope ++ (name, o) ∷ []) body)) class_found
          (subst (λ S. Spares s.scope (back_to (mark_of s.scope) closed) (block_spares schema (S ++ (name, Some f.class) ∷ []) body)) shape_held (spares_left s.scope closed spared sole spares_closed)));
    }

    -- ---- the way back

    live_taken : (k : Kind) → is_live k ≡ true → is_free k ≡ false
    live_taken (Ref c) h = refl
    live_taken _ h = absurd cc

    pub live_held : (i : ℕ) → is_live (kind_at head.kinds i) ≡ true → is_live (kind_at held.kinds i) ≡ true
    live_held i live = (under_walks schema held name (Some f.class) body).1 i (sym (level_head.free i) ∙ live_taken (kind_at head.kinds i) live) live

    live_before : (i : ℕ) → is_live (kind_at held.kinds i) ≡ true → is_live (kind_at s.scope.kinds i) ≡ true
    live_before i live = by_local (one_or_other i f.local)
      where
        by_local : ((i ≡ f.local) ⊎ (i ≡ f.local → ⊥)) → is_live (kind_at s.scope.kinds i) ≡ true
        by_local (inl e) =
            let here : kind_at held.kinds i ≡ Seq f.class = ap (λ ks. kind_at ks i) kinds_held ∙ (ap (kind_at (set s.scope.kinds f.local (Seq f.class))) e ∙ at_same s.scope.kinds f.local (Seq f.class) (position_within is_free s.scope.kinds f.local free)) in
            absurd (let other : true ≡ false = sym live ∙ ap is_live here in cc)
        by_local (inr apart) = sym (ap is_live (ap (λ ks. kind_at ks i) kinds_held ∙ at_other s.scope.kinds f.local i (Seq f.class) apart)) ∙ live

    spares_ended : Spares head ended spared
    spares_ended =
        subst (λ S. Spares head ended (block_spares schema S body)) shape_inner
        (spares_twice head f.inner.scope f.end.scope (block_spares schema (of f.inner.scope) body) named.1.onto sole_head named.1.spares block.spares)

    pub for_returns : AreNamed s.scope → Returns head.kinds ended.kinds
    for_returns are = record { agree = level_ended.agree; live = λ i live. by_name i live (are i (live_before i (live_held i live))) }
      where
        by_name : (i : ℕ) → is_live (kind_at head.kinds i) ≡ true → (j : ℕ) × (n : NamedLocal) × (slice_get s.scope.names j ≡ Some n) × (n.local ≡ i) → is_live (kind_at ended.kinds i) ≡ true
        by_name i live x =
            let j = x.0 in
            let n = x.1 in
            let at_held : slice_get held.names j ≡ Some n = ap (λ l. slice_get l j) names_held ∙ x.2 in
            let at_head : slice_get head.names j ≡ Some n = ap (λ l. slice_get l j) level_head.names ∙ at_held in
            let here : is_live (kind_at head.kinds n.local) ≡ true = ap (λ l. is_live (kind_at head.kinds l)) x.3 ∙ live in
            let own = kills.reveals j n at_held here in
            ap (λ l. is_live (kind_at ended.kinds l)) (sym x.3) ∙ spares_ended j n at_head here own.1
