-- Expressions without parts lead from frame to frame.
use Rattle.std.proofs.Common.{◌≡◌, ℕ, ◌+◌, ◌<◌, ◌≤◌, Bool, true, List, [], ◌∷◌, ◌++◌, length, Option, Some, None, Result, Ok, Err, refl, subst, sym, ap, ◌∙◌, arith, length-append, append_assoc}
use Rattle.std.specs.Prelude.{ℤ, slice_get, position, option_and_then, unwrap_or, get_or, nat_le}
use Rattle.std.specs.Str.{bytes_eq}
use Rattle.std.proofs.lemmas.Bool.{lt-leb, lt-ltb}
use Rattle.std.proofs.lemmas.List.{append-nil}
use Rattle.std.proofs.lemmas.Option.{slice_get-get_or}
use Rattle.bb_basis.specs.Results.{◌>>=◌}
use Rattle.bb_basis.proofs.PositionLemmas.{position_within}
use Rattle.bb_basis.proofs.ResultLemmas.{bind_ok, guard_ok}
use Rattle.bb_schema_classes.specs.declared.label_set.LabelSet.{LabelSet}
use Rattle.bb_code.specs.declared.parts.TheConstants.{STACK_LIMIT, TEXT_BYTES_LIMIT, TEXT_COUNT_LIMIT}
use Rattle.bb_schema.specs.Schema.{Schema, label_set_named, label_named}
use Rattle.bb_schema.specs.Fits as schemas
use Rattle.bb_code.specs.Code.{Code}
use Rattle.bb_code.specs.declared.flaw.Flaw.{Flaw as CodeFlaw}
use Rattle.bb_code.specs.declared.flaw.Flaw.TheVariants.{Table}
use Rattle.bb_code.specs.declared.frame.Kind.{Kind}
use Rattle.bb_code.specs.declared.frame.Kind.TheVariants as kinds
use Rattle.bb_code.specs.declared.op.Op.{Op}
use Rattle.bb_code.specs.declared.op.Op.TheVariants as ops
use Rattle.bb_lang.specs.Atom.{Atom}
use Rattle.bb_lang.specs.Atom.TheVariants as atoms
use Rattle.bb_lang.specs.Variable.{Variable}
use Rattle.bb_compile_scope.specs.declared.fault.CompileFault.TheVariants.{At}
use Rattle.bb_compile_scope.specs.declared.fault.TextFlaw.{TextFlaw}
use Rattle.bb_compile_scope.specs.declared.fault.TextFlaw.TheVariants.{Unknown, Limit}
use Rattle.bb_compile_scope.specs.Kinds.{class_of, is_live}
use Rattle.bb_compile_scope.specs.LocalKinds.{kind_at}
use Rattle.bb_compile_scope.specs.Scope.{name_of}
use Rattle.bb_compile_scope.specs.Slots.{value_slot}
use Rattle.bb_compile_buffer.specs.declared.buffer.Buffer.{Buffer}
use Rattle.bb_compile_buffer.specs.Buffers.{noted, put, text_at, text_index}
use Rattle.bb_compile_buffer.specs.Operations.{Made}
use Rattle.bb_compile_buffer.specs.Atoms.{pushed, unit_code, gotten, got_from, slot_code, text_noted, text_code, label_of, label_in, label_code, atom_code}
use Rattle.bb_verify_effect.specs.declared.part.Part.{Part}
use Rattle.bb_verify_effect.specs.declared.frame.Frame.{Frame}
use Rattle.bb_verify_effect.specs.Frame.{with_stack, pop, room, push, local_at}
use Rattle.bb_verify_effect.specs.Due as due
use Rattle.bb_verify_effect.specs.Effect.{effect, on, load, pop_live, get}
use Rattle.bb_verify.specs.Tables.{in_tables, known_label}
use Rattle.bb_theorem_accepted.proofs.buffers.StraightLemmas.{Gives}
use Rattle.bb_theorem_accepted.proofs.kinds.UnderLemmas.{IsUnder, AreKnown, known_named, under_copied, under_class}
use Rattle.bb_theorem_accepted.proofs.buffers.BufferLemmas.{Clean, Has, with_op, passed, never_noted, put_ok, grown_op, has_before}
use Rattle.bb_theorem_accepted.proofs.buffers.PutLemmas.{pair_ok, clean_before, IsPut, pushed_ok, pushed_room, IsLoaded, variable_ok, variable_room, unit_ok, unit_room}
use Rattle.bb_theorem_accepted.proofs.kinds.HeldLemmas.{value_below, value_known}
use Rattle.bb_theorem_accepted.proofs.buffers.EffectLemmas.{OneGives, push_on, push_gives}
use Rattle.bb_theorem_accepted.proofs.kinds.KnowLemmas.{HasSequences}
use Rattle.bb_theorem_accepted.proofs.buffers.LayLemmas.{Lays, bare, lays_on, push_lays, one_turns}

-- ---- texts

-- a text that stands on a buffer, which has nothing else more
record HasText (s t : Buffer) (i : ℕ) : Type 0 where
  ops : t.ops ≡ s.ops
  queries : t.queries ≡ s.queries
  more : List (List ℕ)
  texts : t.texts ≡ s.texts ++ more
  same : bare t ≡ bare s
  flaw : t.flaw ≡ s.flaw
  within : i < length t.texts

text_ok : (text : List ℕ) (s t : Buffer) (i : ℕ) → text_index text s ≡ Ok (i, t) → HasText s t i
unfolding text_index
text_ok text s t i h = by_place (position (bytes_eq text) s.texts) refl h
  where
    by_place : (o : Option ℕ) → position (bytes_eq text) s.texts ≡ o → text_at text o s ≡ Ok (i, t) → HasText s t i
    by_place (Some j) at h =
        let same = pair_ok j i s t h in
        let lt = position_within (bytes_eq text) s.texts j at in
        subst (λ u. HasText s u i) same.1
        (record { ops = refl; queries = refl; more = []; texts = sym (append-nil s.texts); same = refl; flaw = refl; within = subst (λ n. n < length s.texts) same.0 lt })
    by_place None at h =
        let more : Buffer = record s { texts = s.texts ++ text ∷ [] } in
        let same = pair_ok (length s.texts) i more t (guard_ok (nat_le TEXT_COUNT_LIMIT (length s.texts)) (At Limit s.start) (Ok (length s.texts, more)) (i, t) h).1 in
        let count : length (s.texts ++ text ∷ []) ≡ length s.texts + 1 = length-append s.texts (text ∷ []) in
        subst (λ u. HasText s u i) same.1
        (record { ops = refl; queries = refl; more = text ∷ []; texts = refl; same = refl; flaw = refl; within = subst (λ n. n < length (s.texts ++ text ∷ [])) same.0 (omega (arith, count)) })

module _ (schema : Schema) (sf : schemas.Fits schema) (part : Part) (code : Code) where
  -- ---- names

  local_is : (l : ℕ) (f : Frame) → local_at l f ≡ kind_at f.locals l
  unfolding local_at
  local_is l f = by_there (slice_get f.locals l)
    where
      by_there : (o : Option Kind) → elim o [ None ↦ kinds.Any | Some k ↦ k ] ≡ unwrap_or o kinds.Any
      by_there None = refl
      by_there (Some k) = refl

  load_on : (l : ℕ) (f : Frame) → due.copy_of (kind_at f.locals l) ≡ Ok (kind_at f.locals l) → length f.stack < STACK_LIMIT → load l f ≡ Ok (with_stack (kind_at f.locals l ∷ f.stack) f)
  unfolding load room
  load_on l f copied lt =
      let there : due.copy_of (local_at l f) ≡ Ok (kind_at f.locals l) = ap due.copy_of (local_is l f) ∙ copied in
      rw (lt-leb STACK_LIMIT (length f.stack) lt) (ap (λ (r : Result Kind CodeFlaw). r >>= λ k. push k f) there ∙ push_on schema sf part code (kind_at f.locals l) f lt)

  pub load_gives : (l : ℕ) (f : Frame) (t : Kind) → l < code.locals → IsUnder schema sf (kind_at f.locals l) t → length f.stack < STACK_LIMIT → Gives schema part code (ops.Load l) f (with_stack (kind_at f.locals l ∷ f.stack) f)
  unfolding effect in_tables
  load_gives l f t within under lt = record {
    straight = refl;
    tables = rw (lt-ltb l code.locals within) refl;
    gives = ap on (load_on l f (under_copied schema sf (kind_at f.locals l) t under).0 lt);
  }

  abbrev pub LaysHere : ℕ → Buffer → Buffer → Made → Type 0
  LaysHere space s t made = Lays schema sf part code space s t made

  pub name_lays : (v : Variable) (space : ℕ) (s t : Buffer) (made : Made) → 1 ≤ space → Clean t → IsLoaded v s t made → LaysHere space s t made
  name_lays v space s t made some clean loaded =
      push_lays schema sf part code space s t (ops.Load loaded.0) made (kind_at s.scope.kinds loaded.0) (clean_before (ops.Load loaded.0) s t loaded.2 clean) loaded.2 loaded.3 some
      (λ f known lt.
      let named = known_named schema sf f.locals s.scope.kinds (name_of v) loaded.0 s.scope.names known.1 loaded.1 in
      (kind_at f.locals loaded.0, named.1, load_gives loaded.0 f (kind_at s.scope.kinds loaded.0) (subst (λ n. loaded.0 < n) known.0 named.0) named.1 lt))

  -- ---- values that do not depend on anything

  fixed_lays : (op : Op) (kind : Kind) (space : ℕ) (s t : Buffer) (made : Made) → IsUnder schema sf kind kind → Clean t → IsPut op kind s t made → 1 ≤ space
      → ((f : Frame) → length f.stack < STACK_LIMIT → Gives schema part code op f (with_stack (kind ∷ f.stack) f)) → LaysHere space s t made
  fixed_lays op kind space s t made known clean put some gives =
      push_lays schema sf part code space s t op made kind (clean_before op s t put.0 clean) put.0 put.1 some (λ f is_known lt. (kind, known, gives f lt))

  int_gives : (n : ℤ) (f : Frame) → length f.stack < STACK_LIMIT → Gives schema part code (ops.PushInt n) f (with_stack (kinds.Int ∷ f.stack) f)
  unfolding effect in_tables
  int_gives n f lt = push_gives schema sf part code (ops.PushInt n) kinds.Int f refl refl refl lt

  truth_gives : (b : Bool) (f : Frame) → length f.stack < STACK_LIMIT → Gives schema part code (ops.PushBool b) f (with_stack (kinds.Bool ∷ f.stack) f)
  unfolding effect in_tables
  truth_gives b f lt = push_gives schema sf part code (ops.PushBool b) kinds.Bool f refl refl refl lt

  text_gives : (i : ℕ) (f : Frame) → i < length code.texts → length f.stack < STACK_LIMIT → Gives schema part code (ops.PushText i) f (with_stack (kinds.Text ∷ f.stack) f)
  unfolding effect in_tables
  text_gives i f within lt = push_gives schema sf part code (ops.PushText i) kinds.Text f refl (rw (lt-ltb i (length code.texts) within) refl) refl lt

  label_gives : (set label : ℕ) (f : Frame) → known_label schema set label ≡ Ok tt → length f.stack < STACK_LIMIT → Gives schema part code (ops.PushLabel set label) f (with_stack (kinds.Label set ∷ f.stack) f)
  unfolding effect in_tables
  label_gives set label f there lt = push_gives schema sf part code (ops.PushLabel set label) (kinds.Label set) f refl there refl lt

  text_lays : (text : List ℕ) (space : ℕ) (s t : Buffer) (made : Made) → text_code text space s ≡ Ok (made, t) → Clean t → Has code t → LaysHere space s t made
  unfolding text_code
  text_lays text space s t made h clean has =
      let was = text_noted text s in
      let one = bind_ok (text_index text was) (λ p. pushed (ops.PushText p.0) kinds.Text space p.1) (made, t) h in
      let put = pushed_ok (ops.PushText one.0.0) kinds.Text space one.0.1 t made one.2 clean in
      let there = text_ok text was one.0.1 one.0.0 one.1 in
      let own = has_before code one.0.1 t (grown_op (ops.PushText one.0.0) one.0.1 t put.0) has in
      let count : length code.texts ≡ length one.0.1.texts + length own.texts = ap length own.texts_are ∙ length-append one.0.1.texts own.texts in
      let within : one.0.0 < length code.texts = let lt = there.within in omega (arith, lt, count) in
      let last = fixed_lays (ops.PushText one.0.0) kinds.Text space one.0.1 t made refl clean put (pushed_room (ops.PushText one.0.0) kinds.Text space one.0.1 t made one.2 clean) (λ f lt. text_gives one.0.0 f within lt) in
      let free = passed (nat_le (length text) TEXT_BYTES_LIMIT) Limit s (sym there.flaw ∙ last.clean) in
      subst (λ u. LaysHere space u t made) free.1 (after_text was one.0.1 one.0.0 there last)
    where
      after_text : (was u : Buffer) (i : ℕ) → HasText was u i → LaysHere space u t made → LaysHere space was t made
      after_text was u i there m = record {
        grown = record {
          ops = m.grown.ops;
          ops_are = m.grown.ops_are ∙ ap (λ l. l ++ m.grown.ops) there.ops;
          texts = there.more ++ m.grown.texts;
          texts_are = m.grown.texts_are ∙ (ap (λ l. l ++ m.grown.texts) there.texts ∙ append_assoc was.texts there.more m.grown.texts);
          queries = m.grown.queries;
          queries_are = m.grown.queries_are ∙ ap (λ l. l ++ m.grown.queries) there.queries;
        };
        clean = sym there.flaw ∙ m.clean;
        same = m.same ∙ there.same;
        some = m.some;
        kind = m.kind;
        made_is = m.made_is;
        leads = λ f known count. m.leads f (known.0, subst (λ (x : Buffer). AreKnown schema sf f.locals x.scope.kinds x.scope.names) (sym there.same) known.1, subst (λ (x : Buffer). HasSequences schema sf f.locals x.scope.kinds) (sym there.same) known.2) count;
      }

  -- ---- labels

  label_there : (set label : ℕ) (name : List ℕ) → label_named schema set name ≡ Some label → known_label schema set label ≡ Ok tt
  label_there set label name h = by_set (slice_get schema.label_sets set) h
    where
      by_set : (o : Option LabelSet) → option_and_then (λ (l : LabelSet). position (bytes_eq name) l.values) o ≡ Some label
          → (let r : Result (Unit {0}) CodeFlaw = elim (option_and_then (λ (l : LabelSet). slice_get l.values label) o) [ None ↦ Err Table | Some x ↦ Ok tt ] in r) ≡ Ok tt
      by_set None h = absurd cc
      by_set (Some l) h =
          let at : slice_get l.values label ≡ Some (get_or l.values label []) = slice_get-get_or l.values label [] (position_within (bytes_eq name) l.values label h) in
          rw at refl

  label_lays : (set name : List ℕ) (space : ℕ) (s t : Buffer) (made : Made) → label_code schema set name space s ≡ Ok (made, t) → Clean t → LaysHere space s t made
  unfolding label_code
  label_lays set name space s t made h clean = by_set (label_set_named schema set) h
    where
      by_label : (k : ℕ) (o : Option ℕ) → label_named schema k name ≡ o → label_of k o space s ≡ Ok (made, t) → LaysHere space s t made
      by_label k None at h = never_noted Unknown s (ap (λ (u : Buffer). u.flaw) (pair_ok (Some (kinds.Label k)) made (noted Unknown s) t h).1 ∙ clean)
      by_label k (Some l) at h =
          let put = pushed_ok (ops.PushLabel k l) (kinds.Label k) space s t made h clean in
          fixed_lays (ops.PushLabel k l) (kinds.Label k) space s t made refl clean put (pushed_room (ops.PushLabel k l) (kinds.Label k) space s t made h clean) (λ f lt. label_gives k l f (label_there k l name at) lt)

      by_set : (o : Option ℕ) → label_in schema name o space s ≡ Ok (made, t) → LaysHere space s t made
      by_set None h = never_noted Unknown s (ap (λ (u : Buffer). u.flaw) (pair_ok None made (noted Unknown s) t h).1 ∙ clean)
      by_set (Some k) h = by_label k (label_named schema k name) refl h

  -- ---- live units, and their slots

  -- the live unit of a name
  pub record LaysUnit (space : ℕ) (s t : Buffer) (class : Option ℕ) : Type 0 where
    pub kind : Kind
    pub of : ℕ
    pub class_is : class ≡ Some of
    pub kind_of : class_of kind ≡ Some of
    pub live : is_live kind ≡ true
    pub lays : LaysHere space s t (Some kind)

  pub unit_lays : (v : Variable) (space : ℕ) (s t : Buffer) (class : Option ℕ) → unit_code v space s ≡ Ok (class, t) → Clean t → LaysUnit space s t class
  unit_lays v space s t class h clean =
      let u = unit_ok v space s t class h clean in
      record { kind = u.0; of = u.1; class_is = u.3; kind_of = u.4; live = u.5; lays = name_lays v space s t (Some u.0) (unit_room v space s t class h clean) clean u.2 }

  -- a unit is always known
  pub no_unit : {A : Type 0} (v : Variable) (space : ℕ) (s t : Buffer) → unit_code v space s ≡ Ok (None, t) → Clean t → A
  no_unit v space s t h clean = let u = unit_lays v space s t None h clean in absurd (let e = u.class_is in cc)

  pub live_on : (k : Kind) (c : ℕ) (b : Frame) (rest : List Kind) → due.class_of k ≡ Ok c → due.live k ≡ Ok tt → pop_live (with_stack (k ∷ rest) b) ≡ Ok (c, with_stack rest b)
  unfolding pop_live pop
  live_on k c b rest class live =
      ap (λ (r : Result ℕ CodeFlaw). r >>= λ x. due.live k >>= λ _. Ok (x, with_stack rest b)) class
      ∙ ap (λ (r : Result (Unit {0}) CodeFlaw). r >>= λ _. Ok (c, with_stack rest b)) live

  get_on : (k held : Kind) (c slot : ℕ) (b : Frame) (rest : List Kind) → due.class_of k ≡ Ok c → due.live k ≡ Ok tt → due.plain_slot schema c slot ≡ Ok held → length rest < STACK_LIMIT
      → get schema slot (with_stack (k ∷ rest) b) ≡ Ok (with_stack (held ∷ rest) b)
  unfolding get
  get_on k held c slot b rest class live there lt =
      ap (λ (r : Result (ℕ × Frame) CodeFlaw). r >>= λ unit. due.plain_slot schema unit.0 slot >>= λ held. push held unit.1) (live_on k c b rest class live)
      ∙ (ap (λ (r : Result Kind CodeFlaw). r >>= λ held. push held (with_stack rest b)) there ∙ push_on schema sf part code held (with_stack rest b) lt)

  get_gives : (t : Kind) (class : ℕ) (name : List ℕ) (p : ℕ × Kind) → class_of t ≡ Some class → is_live t ≡ true → value_slot schema class name ≡ Ok p → OneGives schema sf part code (ops.Get p.0) t p.1
  unfolding effect in_tables
  get_gives t class name p of live slot b rest k under lt =
      let unit = under_class schema sf k t class under of in (
        p.1,
        value_known schema sf class name p slot,
        record {
          straight = refl;
          tables = refl;
          gives = ap on (get_on k p.1 unit.0 p.0 b rest unit.1 (unit.3 live) (value_below schema sf class name unit.0 unit.2 p slot) lt);
        },
      )

  slot_lays : (v : Variable) (name : List ℕ) (space : ℕ) (s t : Buffer) (made : Made) → slot_code schema v name space s ≡ Ok (made, t) → Clean t → LaysHere space s t made
  unfolding slot_code
  slot_lays v name space s t made h clean =
      let one = bind_ok (unit_code v space s) (λ p. got_from schema name p.0 p.1) (made, t) h in by_class one.0.0 one.0.1 one.1 one.2
    where
      by_slot : (c : ℕ) (u : Buffer) (r : Result (ℕ × Kind) TextFlaw) → unit_code v space s ≡ Ok (Some c, u) → value_slot schema c name ≡ r → gotten r u ≡ Ok (made, t) → LaysHere space s t made
      by_slot c u (Err flaw) unit at h = never_noted flaw u (ap (λ (x : Buffer). x.flaw) (pair_ok None made (noted flaw u) t h).1 ∙ clean)
      by_slot c u (Ok p) unit at h =
          let one = bind_ok (put (ops.Get p.0) u) (λ x. Ok (Some p.1, x)) (made, t) h in
          let same = pair_ok (Some p.1) made one.0 t one.2 in
          let put_is : t ≡ with_op (ops.Get p.0) u = sym same.1 ∙ put_ok (ops.Get p.0) u one.0 one.1 in
          let free = clean_before (ops.Get p.0) u t put_is clean in
          let first = unit_lays v space s u (Some c) unit free in
          let class : Some first.of ≡ Some c = sym first.class_is in
          lays_on schema sf part code space s u t (Some first.kind) made first.lays
          (one_turns schema sf part code space u t (ops.Get p.0) (Some first.kind) made free put_is
          (λ thought left_is.
          let e : first.kind ≡ thought = cc in
          (p.1, sym same.0, get_gives thought c name p (ap class_of (sym e) ∙ (first.kind_of ∙ class)) (ap is_live (sym e) ∙ first.live) at)))

      by_class : (class : Option ℕ) (u : Buffer) → unit_code v space s ≡ Ok (class, u) → got_from schema name class u ≡ Ok (made, t) → LaysHere space s t made
      by_class None u unit h = no_unit v space s u unit (ap (λ (x : Buffer). x.flaw) (pair_ok None made u t h).1 ∙ clean)
      by_class (Some c) u unit h = by_slot c u (value_slot schema c name) unit refl h

  -- ---- an expression without parts

  pub atom_lays : (a : Atom) (space : ℕ) (s t : Buffer) (made : Made) → atom_code schema space a s ≡ Ok (made, t) → Clean t → Has code t → LaysHere space s t made
  unfolding atom_code
  atom_lays (atoms.Int n) space s t made h clean has =
      fixed_lays (ops.PushInt n) kinds.Int space s t made refl clean (pushed_ok (ops.PushInt n) kinds.Int space s t made h clean) (pushed_room (ops.PushInt n) kinds.Int space s t made h clean) (λ f lt. int_gives n f lt)
  atom_lays (atoms.Text text) space s t made h clean has = text_lays text space s t made h clean has
  atom_lays (atoms.Bool b) space s t made h clean has =
      fixed_lays (ops.PushBool b) kinds.Bool space s t made refl clean (pushed_ok (ops.PushBool b) kinds.Bool space s t made h clean) (pushed_room (ops.PushBool b) kinds.Bool space s t made h clean) (λ f lt. truth_gives b f lt)
  atom_lays (atoms.Label set name) space s t made h clean has = label_lays set name space s t made h clean
  atom_lays (atoms.Variable v) space s t made h clean has = name_lays v space s t made (variable_room v space s t made h clean) clean (variable_ok v space s t made h clean)
  atom_lays (atoms.Slot v name) space s t made h clean has = slot_lays v name space s t made h clean
