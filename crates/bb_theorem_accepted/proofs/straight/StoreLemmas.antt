-- Statements that store a value in a local: what statements share, and those that declare a name or assign to one.
use Rattle.std.proofs.Common.{◌≡◌, ◌⊎◌, inl, inr, ℕ, ◌+◌, ◌<◌, ◌≤◌, Bool, true, false, List, [], ◌∷◌, ◌++◌, length, Option, Some, None, Result, Ok, refl, subst, sym, ap, ◌∙◌, arith}
use Rattle.std.specs.Prelude.{position, set, max, is_ok}
use Rattle.std.proofs.Math.Nat.{le-max_left, le-max_right}
use Rattle.std.proofs.lemmas.Bool.{lt-ltb}
use Rattle.std.proofs.lemmas.List.{append-nil, length-set}
use Rattle.bb_basis.specs.Results.{◌>>=◌}
use Rattle.bb_basis.proofs.PositionLemmas.{position_within}
use Rattle.bb_basis.proofs.ResultLemmas.{bind_ok, same_ok}
use Rattle.bb_code.specs.declared.parts.TheConstants.{STACK_LIMIT}
use Rattle.bb_schema.specs.Schema.{Schema, class_named}
use Rattle.bb_schema.specs.Fits as schemas
use Rattle.bb_code.specs.Code.{Code}
use Rattle.bb_code.specs.declared.flaw.Flaw.{Flaw as CodeFlaw}
use Rattle.bb_code.specs.declared.frame.Kind.{Kind}
use Rattle.bb_code.specs.declared.frame.Kind.TheVariants as kinds
use Rattle.bb_code.specs.declared.op.Op.{Op}
use Rattle.bb_code.specs.declared.op.Op.TheVariants as ops
use Rattle.bb_lang.specs.Trees.{ExprTree}
use Rattle.bb_compile_scope.specs.declared.fault.TextFlaw.TheVariants.{Unknown, Kind as WrongKind}
use Rattle.bb_compile_scope.specs.declared.scope.NamedLocal.{NamedLocal}
use Rattle.bb_compile_scope.specs.declared.scope.Scope.{Scope}
use Rattle.bb_compile_scope.specs.Kinds.{assigned}
use Rattle.bb_compile_scope.specs.LocalKinds.{is_free, kind_at}
use Rattle.bb_compile_scope.specs.Scope.{with_name, local_of}
use Rattle.bb_compile_scope.proofs.Laws.{at_same, at_other, taken_within, set_twice}
use Rattle.bb_compile_buffer.specs.declared.buffer.Buffer.{Buffer}
use Rattle.bb_compile_buffer.specs.Buffers.{noted, put, with_kinds, taken, take_local, declare}
use Rattle.bb_compile_buffer.specs.Operations.{Made}
use Rattle.bb_compile.specs.Expressions.{expr_code}
use Rattle.bb_compile.specs.Actions.{let_as, let_code, assign_as, assign_to, assign_code, new_of, new_code}
use Rattle.bb_verify_effect.specs.Part.{writes, ends_done}
use Rattle.bb_verify_effect.specs.declared.part.Part.{Part}
use Rattle.bb_verify_effect.specs.declared.frame.Frame.{Frame}
use Rattle.bb_verify_effect.specs.Frame.{with_stack, with_local, pop, push}
use Rattle.bb_verify_effect.specs.Effect.{effect, on, store_local, new_unit}
use Rattle.bb_verify.specs.Tables.{in_tables, known_kind}
use Rattle.bb_theorem_accepted.proofs.buffers.StraightLemmas.{Gives, Leads, Runs, leads_on}
use Rattle.bb_theorem_accepted.proofs.kinds.UnderLemmas.{IsUnder, AreKnown, descends_same, under_assigned, under_known, known_set, known_more, known_named, set_here}
use Rattle.bb_theorem_accepted.proofs.buffers.BufferLemmas.{Clean, Grown, Has, with_op, never_noted, put_ok, grown_on, has_before}
use Rattle.bb_theorem_accepted.proofs.buffers.PutLemmas.{pair_ok}
use Rattle.bb_theorem_accepted.proofs.kinds.KnowLemmas.{is_sequence, HasSequences, under_value}
use Rattle.bb_theorem_accepted.proofs.buffers.LayLemmas.{Known, Lays, bare, known_same, push_lays}
use Rattle.bb_theorem_accepted.proofs.buffers.EffectLemmas.{push_on}
use Rattle.bb_theorem_accepted.proofs.straight.PatternLemmas.{AreSmall, room_on}
use Rattle.bb_theorem_accepted.proofs.straight.ExprLemmas.{expr_lays, class_there}
use Rattle.bb_theorem_accepted.proofs.kinds.ValueLemmas.{IsGood, local_good, made_good}
use Rattle.bb_theorem_accepted.proofs.kinds.MoveLemmas.{Tidy, Moves, one_or_other, last_some, moves_same, moves_on, declared_moves, assigned_moves}

-- a buffer but for what statements put on it
abbrev pub marks : Buffer → Buffer
marks s = record (bare s) { scope = record { names = []; kinds = [] }; locals = 0 }

pub marks_same : (s t : Buffer) → bare t ≡ bare s → marks t ≡ marks s
marks_same s t same = ap (λ (x : Buffer). record x { scope = record { names = []; kinds = [] }; locals = 0 }) same

-- a name is declared for the value on the stack
abbrev pub declared_on : (name : List ℕ) → (local : ℕ) → Kind → Buffer → Buffer
declared_on name local kind s = record s {
  scope = record { names = s.scope.names ++ record { name = name; local = local } ∷ []; kinds = set (set s.scope.kinds local kind) local kind };
  locals = max s.locals (local + 1);
}

pub declare_is : (name : List ℕ) (kind : Kind) (s t : Buffer) → declare name kind s ≡ Ok t → (local : ℕ) × (position is_free s.scope.kinds ≡ Some local) × (t ≡ with_op (ops.Store local) (declared_on name local kind s))
unfolding declare take_local
declare_is name kind s t h =
    let one = bind_ok (taken (position is_free s.scope.kinds) kind s) (λ p. put (ops.Store p.0) (record p.1 { scope = with_name name p.0 kind p.1.scope })) t h in
    by_local (position is_free s.scope.kinds) refl one.0.0 one.0.1 one.1 one.2
  where
    by_local : (o : Option ℕ) → position is_free s.scope.kinds ≡ o → (l : ℕ) (u : Buffer) → taken o kind s ≡ Ok (l, u) → put (ops.Store l) (record u { scope = with_name name l kind u.scope }) ≡ Ok t
        → (local : ℕ) × (position is_free s.scope.kinds ≡ Some local) × (t ≡ with_op (ops.Store local) (declared_on name local kind s))
    by_local None free l u h g = absurd cc
    by_local (Some local) free l u h g =
        let same = pair_ok local l (record s { scope = record { names = s.scope.names; kinds = set s.scope.kinds local kind }; locals = max s.locals (local + 1) }) u h in
        let put_is : t ≡ with_op (ops.Store local) (declared_on name local kind s) =
        put_ok (ops.Store l) (record u { scope = with_name name l kind u.scope }) t g
        ∙ ap (λ (x : Buffer). with_op (ops.Store l) (record x { scope = with_name name l kind x.scope })) (sym same.1)
        ∙ ap (λ i. with_op (ops.Store i) (record (declared_on name local kind s) { scope = record { names = s.scope.names ++ record { name = name; local = i } ∷ []; kinds = set (set s.scope.kinds local kind) i kind } })) (sym same.0) in
        (local, free, put_is)

module _ (schema : Schema) (sf : schemas.Fits schema) (part : Part) (code : Code) (small : AreSmall schema sf part code) where
  -- between statements: the stack is empty, and it is known what the locals of names hold
  abbrev pub Stands : Frame → Buffer → Type 0
  Stands f s = (f.stack ≡ []) × Known schema sf part code f s

  -- after a statement: nothing follows it, or the next one
  abbrev pub After : (ended : Bool) → Buffer → List Op → Frame → Type 0
  After true t listed f = Runs schema part code listed f
  After false t listed f = (g : Frame) × Stands g t × Leads schema part code listed f g

  -- what is laid out from one buffer to another leads from statement to statement
  pub record Does (ended : Bool) (s t : Buffer) : Type 0 where
    pub grown : Grown s t
    pub clean : Clean s
    pub same : marks t ≡ marks s
    pub locals : s.locals ≤ t.locals
    -- a part that ends so does not end by itself
    pub right : ended ≡ true → is_ok (ends_done part) ≡ false
    -- the scope, and at least one op
    pub moves : Moves schema sf s t
    pub some : 1 ≤ length grown.ops
    pub leads : t.locals ≤ code.locals → (f : Frame) → Stands f s → After ended t grown.ops f

  -- an empty stack has all its room
  pub all_room : (f : Frame) → f.stack ≡ [] → length f.stack + STACK_LIMIT ≡ STACK_LIMIT
  all_room f none = rw none refl

  -- ---- a value becomes that of a local

  pub store_gives : (l : ℕ) (k : Kind) (f : Frame) → l < code.locals → Gives schema part code (ops.Store l) (with_stack (k ∷ f.stack) f) (with_local l k f)
  unfolding effect in_tables store_local pop
  store_gives l k f within = record { straight = refl; tables = rw (lt-ltb l code.locals within) refl; gives = refl }

  -- a value, and its local, in another scope
  stores : (s u t : Buffer) (made : Made) (local count : ℕ) (scope : Scope) → (m : Lays schema sf part code STACK_LIMIT s u made) → t ≡ with_op (ops.Store local) (record u { scope = scope; locals = count }) → u.locals ≤ count → Moves schema sf s t
      → ((f : Frame) (k : Kind) → Known schema sf part code f u → IsUnder schema sf k m.kind → count ≤ code.locals → (local < length f.locals) × AreKnown schema sf (set f.locals local k) scope.kinds scope.names × HasSequences schema sf (set f.locals local k) scope.kinds) → Does false s t
  unfolding grown_on
  stores s u t made local count scope m put_is le moves known_after =
      let last : Grown u t = record {
        ops = ops.Store local ∷ [];
        ops_are = ap (λ (x : Buffer). x.ops) put_is;
        texts = [];
        texts_are = ap (λ (x : Buffer). x.texts) put_is ∙ sym (append-nil u.texts);
        queries = [];
        queries_are = ap (λ (x : Buffer). x.queries) put_is ∙ sym (append-nil u.queries);
      } in
      let locals_are : u.locals ≡ s.locals = ap (λ (x : Buffer). x.locals) m.same in
      let count_is : t.locals ≡ count = ap (λ (x : Buffer). x.locals) put_is in
      let scope_is : t.scope ≡ scope = ap (λ (x : Buffer). x.scope) put_is in
      record {
        grown = grown_on s u t m.grown last;
        clean = m.clean;
        same = ap marks put_is ∙ marks_same s u m.same;
        locals = omega (arith, le, locals_are, count_is);
        right = λ h. absurd cc;
        moves = moves;
        some = last_some m.grown.ops (ops.Store local);
        leads = λ few f stands.
            let x = m.leads f stands.1 (all_room f stands.0) in
            let own = known_after f x.0 (known_same schema sf part code f s u m.same stands.1) x.1 (omega (arith, few, count_is)) in
            let within : local < code.locals = subst (λ n. local < n) stands.1.0 own.0 in
            let g = with_local local x.0 f in
            let end : Leads schema part code (ops.Store local ∷ []) (with_stack (x.0 ∷ f.stack) f) g = (g, store_gives local x.0 f within, refl) in (
              g,
              (stands.0, (length-set f.locals local x.0 ∙ stands.1.0, subst (λ (c : Scope). AreKnown schema sf g.locals c.kinds c.names) (sym scope_is) own.1, subst (λ (c : Scope). HasSequences schema sf g.locals c.kinds) (sym scope_is) own.2)),
              leads_on schema part code m.grown.ops (ops.Store local ∷ []) f (with_stack (x.0 ∷ f.stack) f) g x.2 end,
            );
      }

  -- what is known of the locals once a name is declared
  pub declared_known : (name : List ℕ) (kind : Kind) (u : Buffer) (local : ℕ) (locals : List Kind) (k : Kind) → position is_free u.scope.kinds ≡ Some local → local < length locals → IsUnder schema sf k kind → AreKnown schema sf locals u.scope.kinds u.scope.names
      → (let scope : Scope = (declared_on name local kind u).scope in AreKnown schema sf (set locals local k) scope.kinds scope.names)
  declared_known name kind u local locals k free within own known =
      let lt = position_within is_free u.scope.kinds local free in
      let n : NamedLocal = record { name = name; local = local } in
      subst (λ ks. AreKnown schema sf (set locals local k) ks (u.scope.names ++ n ∷ [])) (sym (set_twice u.scope.kinds local kind))
      (known_more schema sf (set locals local k) (set u.scope.kinds local kind) u.scope.names n (known_set schema sf locals u.scope.kinds u.scope.names local k kind within lt own known)
      (subst (λ m. local < m) (sym (length-set locals local k)) within) (set_here schema sf locals u.scope.kinds local k kind within lt own))

  -- sequences stay where another local is set
  set_sequences : (locals thought : List Kind) (local : ℕ) (k kind : Kind) → local < length thought → is_sequence kind ≡ false → HasSequences schema sf locals thought → HasSequences schema sf (set locals local k) (set thought local kind)
  set_sequences locals thought local k kind within value has i class is = by_local (one_or_other i local)
    where
      by_local : ((i ≡ local) ⊎ (i ≡ local → ⊥)) → kind_at (set locals local k) i ≡ kinds.Seq class
      by_local (inl e) =
          let here : kind ≡ kinds.Seq class = sym (at_same thought local kind within) ∙ (ap (kind_at (set thought local kind)) (sym e) ∙ is) in
          absurd (let no : false ≡ true = sym value ∙ ap is_sequence here in cc)
      by_local (inr apart) = at_other locals local i k apart ∙ has i class (sym (at_other thought local i kind apart) ∙ is)

  pub declared_sequences : (kind : Kind) (u : Buffer) (local : ℕ) (locals : List Kind) (k : Kind) → position is_free u.scope.kinds ≡ Some local → is_sequence kind ≡ false → HasSequences schema sf locals u.scope.kinds
      → HasSequences schema sf (set locals local k) (set (set u.scope.kinds local kind) local kind)
  declared_sequences kind u local locals k free value has =
      subst (HasSequences schema sf (set locals local k)) (sym (set_twice u.scope.kinds local kind)) (set_sequences locals u.scope.kinds local k kind (position_within is_free u.scope.kinds local free) value has)

  -- a name is declared
  declares : (name : List ℕ) (kind : Kind) (s u t : Buffer) (m : Lays schema sf part code STACK_LIMIT s u (Some kind)) → (Tidy schema sf s → IsGood schema sf kind) → declare name kind u ≡ Ok t → Does false s t
  declares name kind s u t m good h =
      let d = declare_is name kind u t h in
      let scope = (declared_on name d.0 kind u).scope in
      let same_scope : u.scope ≡ s.scope = ap (λ (x : Buffer). x.scope) m.same in
      let same_locals : u.locals ≡ s.locals = ap (λ (x : Buffer). x.locals) m.same in
      let last =
      declared_moves schema sf u t name d.0 kind d.1 (λ tidy. good ((moves_same schema sf u s (sym same_scope) (sym same_locals)).tidy tidy)) (ap (λ (x : Buffer). x.scope.names) d.2) (ap (λ (x : Buffer). x.scope.kinds) d.2) (ap (λ (x : Buffer). x.locals) d.2) in
      stores s u t (Some kind) d.0 (max u.locals (d.0 + 1)) scope m d.2 (le-max_left u.locals (d.0 + 1)) (moves_on schema sf s u t (moves_same schema sf s u same_scope same_locals) last)
      (λ f k known under few.
      let high = le-max_right u.locals (d.0 + 1) in
      let count = known.0 in
      let within : d.0 < length f.locals = omega (arith, high, few, count) in
      let kind_is : m.kind ≡ kind = (let e = m.made_is in cc) in
      let own = subst (IsUnder schema sf k) kind_is under in
      (within, declared_known name kind u d.0 f.locals k d.1 within own known.1, declared_sequences kind u d.0 f.locals k d.1 (under_value schema sf k kind own) known.2))

  -- ---- let

  stored_clean : (op : Op) (u t : Buffer) (scope : Scope) (count : ℕ) → t ≡ with_op op (record u { scope = scope; locals = count }) → Clean t → Clean u
  stored_clean op u t scope count put_is clean = sym (ap (λ (x : Buffer). x.flaw) put_is) ∙ clean

  stored_has : (op : Op) (u t : Buffer) (scope : Scope) (count : ℕ) → t ≡ with_op op (record u { scope = scope; locals = count }) → Has code t → Has code u
  stored_has op u t scope count put_is has = has_before code u t (record {
    ops = op ∷ [];
    ops_are = ap (λ (x : Buffer). x.ops) put_is;
    texts = [];
    texts_are = ap (λ (x : Buffer). x.texts) put_is ∙ sym (append-nil u.texts);
    queries = [];
    queries_are = ap (λ (x : Buffer). x.queries) put_is ∙ sym (append-nil u.queries);
  }) has

  -- where an expression has no kind there is a flaw
  no_kind : {A : Type 0} (e : ExprTree) (s t : Buffer) → expr_code schema STACK_LIMIT e s ≡ Ok (None, t) → Clean t → Has code t → A
  no_kind e s t h clean has = let m = expr_lays schema sf part code small e STACK_LIMIT s t None h clean has in absurd (let no = m.made_is in cc)

  pub let_does : (name : List ℕ) (e : ExprTree) (s t : Buffer) → let_code schema name e s ≡ Ok t → Clean t → Has code t → Does false s t
  unfolding let_code
  let_does name e s t h clean has =
      let one = bind_ok (expr_code schema STACK_LIMIT e s) (λ p. let_as name p.0 p.1) t h in by_kind one.0.0 one.0.1 one.1 one.2
    where
      by_kind : (made : Made) (u : Buffer) → expr_code schema STACK_LIMIT e s ≡ Ok (made, u) → let_as name made u ≡ Ok t → Does false s t
      by_kind None u code_is h = let same = same_ok u t h in no_kind e s u code_is (ap (λ (x : Buffer). x.flaw) same ∙ clean) (subst (Has code) (sym same) has)
      by_kind (Some kind) u code_is h =
          let d = declare_is name kind u t h in
          let to = declared_on name d.0 kind u in
          let m = expr_lays schema sf part code small e STACK_LIMIT s u (Some kind) code_is (stored_clean (ops.Store d.0) u t to.scope to.locals d.2 clean) (stored_has (ops.Store d.0) u t to.scope to.locals d.2 has) in
          declares name kind s u t m (λ tidy. made_good schema sf e STACK_LIMIT s u kind code_is tidy.taken tidy.good) h

  -- ---- assignment

  pub assign_does : (name : List ℕ) (e : ExprTree) (s t : Buffer) → assign_code schema name e s ≡ Ok t → Clean t → Has code t → Does false s t
  unfolding assign_code
  assign_does name e s t h clean has =
      let one = bind_ok (expr_code schema STACK_LIMIT e s) (λ p. assign_to schema (local_of p.1.scope name) p.0 p.1) t h in by_local one.0.0 one.0.1 (local_of one.0.1.scope name) refl one.1 one.2
    where
      by_assigned : (kind : Kind) (u : Buffer) (local : ℕ) (o : Option Kind) → assigned schema (kind_at u.scope.kinds local) kind ≡ o → local_of u.scope name ≡ Some local → expr_code schema STACK_LIMIT e s ≡ Ok (Some kind, u) → assign_as local o u ≡ Ok t → Does false s t
      by_assigned kind u local None known at code_is h = never_noted WrongKind u (ap (λ (x : Buffer). x.flaw) (same_ok (noted WrongKind u) t h) ∙ clean)
      by_assigned kind u local (Some now) becomes at code_is h =
          let put_is = put_ok (ops.Store local) (with_kinds (set u.scope.kinds local now) u) t h in
          let scope : Scope = record { names = u.scope.names; kinds = set u.scope.kinds local now } in
          let m = expr_lays schema sf part code small e STACK_LIMIT s u (Some kind) code_is (stored_clean (ops.Store local) u t scope u.locals put_is clean) (stored_has (ops.Store local) u t scope u.locals put_is has) in
          let same_scope : u.scope ≡ s.scope = ap (λ (x : Buffer). x.scope) m.same in
          let same_locals : u.locals ≡ s.locals = ap (λ (x : Buffer). x.locals) m.same in
          let last =
          assigned_moves schema sf u t local kind now (ap (λ (x : Buffer). x.scope.names) put_is) (ap (λ (x : Buffer). x.scope.kinds) put_is) (ap (λ (x : Buffer). x.locals) put_is)
          (λ tidy. local_good schema sf u.scope.kinds name local u.scope.names tidy.taken at) becomes in
          stores s u t (Some kind) local u.locals scope m put_is (omega arith) (moves_on schema sf s u t (moves_same schema sf s u same_scope same_locals) last)
          (λ f k known under few.
          let named = known_named schema sf f.locals u.scope.kinds name local u.scope.names known.1 at in
          let kind_is : m.kind ≡ kind = (let e = m.made_is in cc) in
          let own = under_assigned schema sf k (kind_at u.scope.kinds local) kind now (subst (IsUnder schema sf k) kind_is under) becomes in
          let within = taken_within u.scope.kinds local (under_known schema sf (kind_at f.locals local) (kind_at u.scope.kinds local) named.1) in
          (named.0, known_set schema sf f.locals u.scope.kinds u.scope.names local k now named.0 within own known.1, set_sequences f.locals u.scope.kinds local k now within (under_value schema sf k now own) known.2))

      by_local : (made : Made) (u : Buffer) (o : Option ℕ) → local_of u.scope name ≡ o → expr_code schema STACK_LIMIT e s ≡ Ok (made, u) → assign_to schema o made u ≡ Ok t → Does false s t
      by_local made u None at code_is h = never_noted Unknown u (ap (λ (x : Buffer). x.flaw) (same_ok (noted Unknown u) t h) ∙ clean)
      by_local None u (Some local) at code_is h = let same = same_ok u t h in no_kind e s u code_is (ap (λ (x : Buffer). x.flaw) same ∙ clean) (subst (Has code) (sym same) has)
      by_local (Some kind) u (Some local) at code_is h = by_assigned kind u local (assigned schema (kind_at u.scope.kinds local) kind) refl at code_is h

  -- ---- new

  new_on : (class : ℕ) (f : Frame) → writes part ≡ Ok tt → length f.stack < STACK_LIMIT → new_unit part class f ≡ Ok (with_stack (kinds.Ref class ∷ f.stack) f)
  unfolding new_unit
  new_on class f may lt =
      ap (λ (r : Result (Unit {0}) CodeFlaw). r >>= λ _. writes part >>= λ _. push (kinds.Ref class) f) (room_on schema sf part code f lt)
      ∙ (ap (λ (r : Result (Unit {0}) CodeFlaw). r >>= λ _. push (kinds.Ref class) f) may ∙ push_on schema sf part code (kinds.Ref class) f lt)

  new_gives : (class : ℕ) (f : Frame) → writes part ≡ Ok tt → class < length schema.classes → length f.stack < STACK_LIMIT → Gives schema part code (ops.New class) f (with_stack (kinds.Ref class ∷ f.stack) f)
  unfolding effect in_tables
  new_gives class f may there lt = record { straight = refl; tables = rw (lt-ltb class (length schema.classes) there) refl; gives = ap on (new_on class f may lt) }

  class_good : (c : ℕ) → c < length schema.classes → known_kind schema (kinds.Ref c) ≡ Ok tt
  class_good c lt = rw (lt-ltb c (length schema.classes) lt) refl

  pub new_does : (name class : List ℕ) (s t : Buffer) → (Clean s → writes part ≡ Ok tt) → new_code schema name class s ≡ Ok t → Clean t → Has code t → Does false s t
  unfolding new_code
  new_does name class s t may h clean has = by_class (class_named schema class) refl h
    where
      by_class : (o : Option ℕ) → class_named schema class ≡ o → new_of name o s ≡ Ok t → Does false s t
      by_class None at h = never_noted Unknown s (ap (λ (x : Buffer). x.flaw) (same_ok (noted Unknown s) t h) ∙ clean)
      by_class (Some c) at h =
          let one = bind_ok (put (ops.New c) s) (declare name (kinds.Ref c)) t h in
          let d = declare_is name (kinds.Ref c) one.0 t one.2 in
          let put_is = put_ok (ops.New c) s one.0 one.1 in
          let to = declared_on name d.0 (kinds.Ref c) one.0 in
          let free : Clean s = sym (ap (λ (x : Buffer). x.flaw) put_is) ∙ stored_clean (ops.Store d.0) one.0 t to.scope to.locals d.2 clean in
          let m = push_lays schema sf part code STACK_LIMIT s one.0 (ops.New c) (Some (kinds.Ref c)) (kinds.Ref c) free put_is refl (omega arith)
          (λ f known lt. (kinds.Ref c, (c, refl, descends_same schema sf c), new_gives c f (may free) (class_there schema class c at) lt)) in
          declares name (kinds.Ref c) s one.0 t m (λ tidy. (class_good c (class_there schema class c at), (c, refl, descends_same schema sf c))) one.2
