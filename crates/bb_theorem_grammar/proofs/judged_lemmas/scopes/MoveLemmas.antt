-- What a step of the compiler makes of a scope: the names with what they hold are those of the judgement.
use Rattle.std.proofs.Common.{◌≡◌, ℕ, ◌+◌, false, List, [], ◌∷◌, ◌++◌, map, Option, Some, None, Result, Ok, Err, refl, subst, sym, ap, ◌∙◌}
use Rattle.std.specs.Prelude.{set, max, position, is_some, option_map}
use Rattle.bb_basis.specs.Results.{◌>>=◌}
use Rattle.bb_code.specs.declared.frame.Kind.{Kind}
use Rattle.bb_code.specs.declared.frame.Kind.TheVariants as kinds
use Rattle.bb_verify_effect.specs.Kinds.{struck}
use Rattle.bb_code.specs.declared.op.Op.{Op}
use Rattle.bb_code.specs.declared.op.Op.TheVariants as ops
use Rattle.bb_schema.specs.Schema.{Schema}
use Rattle.bb_compile_scope.specs.Kinds.{assigned}
use Rattle.bb_compile_scope.specs.LocalKinds.{is_free, kind_at}
use Rattle.bb_compile_scope.specs.Place.{Place}
use Rattle.bb_compile_scope.specs.Scope.{local_of, with_name}
use Rattle.bb_compile_scope.specs.declared.fault.CompileFault.{CompileFault}
use Rattle.bb_compile_scope.specs.declared.fault.CompileFault.TheVariants.{At}
use Rattle.bb_compile_scope.specs.declared.fault.TextFlaw.{TextFlaw}
use Rattle.bb_compile_scope.specs.declared.fault.TextFlaw.TheVariants.{Unknown, Kind as WrongKind, Limit}
use Rattle.bb_compile_scope.specs.declared.scope.Scope.{Scope}
use Rattle.bb_compile_scope.proofs.Laws.{set_twice}
use Rattle.bb_compile_buffer.specs.declared.buffer.Buffer.{Buffer}
use Rattle.bb_compile_buffer.specs.Buffers.{noted, put, taken, take_local, declare}
use Rattle.bb_compile.specs.Actions.{let_as, assign_as, assign_to, new_of, deleted}
use Rattle.bb_theorem_grammar.specs.judged.Actions.{assigned_flaws, after_let, assigned_kind, after_assign, after_delete}
use Rattle.bb_theorem_grammar.specs.judged.Flaws.{least, unless, if_unknown}
use Rattle.bb_theorem_grammar.specs.judged.Names.{Names, with_named, with_unit}
use Rattle.bb_theorem_grammar.proofs.judged_lemmas.scopes.HoldLemmas.{Holds, Keeps, noted_flaw, holds_then, put_keeps}
use Rattle.bb_theorem_grammar.proofs.judged_lemmas.scopes.KindLemmas.{IsHeld, assigned_held}
use Rattle.bb_theorem_grammar.proofs.judged_lemmas.scopes.NameLemmas.{names_of}
use Rattle.bb_theorem_grammar.proofs.judged_lemmas.scopes.ScopeLemmas.{Tidy, Onto, onto_same, onto_level, names_put, onto_declared, names_declared, name_taken, names_assigned, level_assigned, names_struck, level_struck}

-- a buffer whose scope comes of another one, with these names, and its flaw
pub record Moves (place : Place) (scope : Scope) (names : Names) (flaw : Option TextFlaw) (t : Buffer) : Type 0 where
  pub begun : t.start ≡ place
  pub flawed : t.flaw ≡ flaw
  pub onto : Onto scope t.scope
  pub named : names_of t.scope ≡ names

pub holds_map : {X : Type 0} (place : Place) (P Q : X → Type 0) (r : Result X CompileFault) → ((x : X) → P x → Q x) → Holds P place r → Holds Q place r
holds_map place P Q (Err fault) f h = h
holds_map place P Q (Ok x) f h = f x h

module _ (place : Place) (scope : Scope) (tidy : Tidy scope) where
  pub stay_moves : (flaw : Option TextFlaw) (t : Buffer) → Keeps scope place flaw t → Moves place scope (names_of scope) flaw t
  stay_moves flaw t k = record {
    begun = k.begun;
    flawed = k.flawed;
    onto = onto_same scope t.scope k.same tidy;
    named = ap names_of k.same;
  }

  -- a scope that is put in the place of another, and an op after it
  put_moves : (names : Names) (b : Scope) (op : Op) (s : Buffer) (flaw : Option TextFlaw) → Keeps b place flaw s → Onto scope b → names_of b ≡ names → Holds (Moves place scope names flaw) place (put op s)
  put_moves names b op s flaw k onto named =
      holds_map place (Keeps b place flaw) (Moves place scope names flaw) (put op s) (λ t kept. record {
        begun = kept.begun;
        flawed = kept.flawed;
        onto = subst (Onto scope) (sym kept.same) onto;
        named = ap names_of kept.same ∙ named;
      }) (put_keeps b place op s flaw k)

  -- ---- names that are declared

  pub declare_moves : (name : List ℕ) (kind : Kind) (s : Buffer) (flaw : Option TextFlaw) → is_free kind ≡ false → Keeps scope place flaw s → Holds (Moves place scope (with_named name kind (names_of scope)) flaw) place (declare name kind s)
  unfolding declare take_local
  declare_moves name kind s flaw held k = by_first (position is_free s.scope.kinds) refl
    where
      by_first : (o : Option ℕ) → position is_free s.scope.kinds ≡ o
          → Holds (Moves place scope (with_named name kind (names_of scope)) flaw) place (taken o kind s >>= λ p. put (ops.Store p.0) (record p.1 { scope = with_name name p.0 kind p.1.scope }))
      by_first None first = ap (At Limit) k.begun
      by_first (Some local) first =
          let free : position is_free scope.kinds ≡ Some local = ap (λ (sc : Scope). position is_free sc.kinds) (sym k.same) ∙ first in
          let b : Scope = record { names = s.scope.names ++ record { name = name; local = local } ∷ []; kinds = set (set s.scope.kinds local kind) local kind } in
          let names : b.names ≡ scope.names ++ record { name = name; local = local } ∷ [] = ap (λ (sc : Scope). sc.names ++ record { name = name; local = local } ∷ []) k.same in
          let kinds_are : b.kinds ≡ set scope.kinds local kind = set_twice s.scope.kinds local kind ∙ ap (λ (sc : Scope). set sc.kinds local kind) k.same in
          put_moves (with_named name kind (names_of scope)) b (ops.Store local) (record s { scope = b; locals = max s.locals (local + 1) }) flaw
          (record { same = refl; begun = k.begun; flawed = k.flawed })
          (onto_declared scope b name local kind free held names kinds_are tidy)
          (names_put b (scope.names ++ record { name = name; local = local } ∷ []) (set scope.kinds local kind) names kinds_are ∙ names_declared scope name local kind free held tidy)

  pub let_moves : (name : List ℕ) (made : Option Kind) (t : Buffer) (flaw : Option TextFlaw) → IsHeld made → Keeps scope place flaw t → Holds (Moves place scope (after_let name made (names_of scope)) flaw) place (let_as name made t)
  let_moves name None t flaw held k = stay_moves flaw t k
  let_moves name (Some kind) t flaw held k = declare_moves name kind t flaw held k

  pub new_moves : (name : List ℕ) (class : Option ℕ) (s : Buffer) (seen : Option TextFlaw) → Keeps scope place seen s → Holds (Moves place scope (with_unit name class (names_of scope)) (least seen (if_unknown class))) place (new_of name class s)
  unfolding least
  new_moves name None s seen k = stay_moves (least seen (Unknown ∷ [])) (noted Unknown s) (noted_flaw scope place Unknown s seen k)
  new_moves name (Some class) s seen k =
      holds_then place (Keeps scope place seen) (Moves place scope (with_unit name (Some class) (names_of scope)) seen) (put (ops.New class) s) _
      (put_keeps scope place (ops.New class) s seen k) (λ t kept. declare_moves name (kinds.Ref class) t seen refl kept)

  -- ---- assignments

  module _ (schema : Schema) where
    assign_as_moves : (name : List ℕ) (local : ℕ) (value : Kind) (t : Buffer) (seen : Option TextFlaw) → local_of scope name ≡ Some local → Keeps scope place seen t → (now : Option Kind) → assigned schema (kind_at scope.kinds local) value ≡ now
        → Holds (Moves place scope (after_assign name now (names_of scope)) (least seen (unless (is_some now) WrongKind))) place (assign_as local now t)
    unfolding least
    assign_as_moves name local value t seen at k None is = stay_moves (least seen (WrongKind ∷ [])) (noted WrongKind t) (noted_flaw scope place WrongKind t seen k)
    assign_as_moves name local value t seen at k (Some now) is =
        let was = name_taken scope name local at tidy in
        let held = assigned_held schema (kind_at scope.kinds local) value now is was in
        let b : Scope = record { names = t.scope.names; kinds = set t.scope.kinds local now } in
        let names : b.names ≡ scope.names = ap (λ (sc : Scope). sc.names) k.same in
        let kinds_are : b.kinds ≡ set scope.kinds local now = ap (λ (sc : Scope). set sc.kinds local now) k.same in
        put_moves (after_assign name (Some now) (names_of scope)) b (ops.Store local) (record t { scope = b }) seen
        (record { same = refl; begun = k.begun; flawed = k.flawed })
        (onto_level scope b (level_assigned scope b local now was held names kinds_are) tidy)
        (names_put b scope.names (set scope.kinds local now) names kinds_are ∙ names_assigned scope name local now at held tidy)

    assign_at : (name : List ℕ) (made : Option Kind) (t : Buffer) (seen : Option TextFlaw) → Keeps scope place seen t → (o : Option ℕ) → local_of scope name ≡ o
        → Holds (Moves place scope (after_assign name (assigned_kind schema (option_map (kind_at scope.kinds) o) made) (names_of scope)) (least seen (assigned_flaws schema (option_map (kind_at scope.kinds) o) made))) place (assign_to schema o made t)
    unfolding least
    assign_at name made t seen k None at = stay_moves (least seen (Unknown ∷ [])) (noted Unknown t) (noted_flaw scope place Unknown t seen k)
    assign_at name None t seen k (Some local) at = stay_moves seen t k
    assign_at name (Some value) t seen k (Some local) at =
        subst (λ (sc : Scope). Holds (Moves place scope (after_assign name (assigned schema (kind_at scope.kinds local) value) (names_of scope)) (least seen (unless (is_some (assigned schema (kind_at scope.kinds local) value)) WrongKind))) place (assign_as local (assigned schema (kind_at sc.kinds local) value) t)) (sym k.same)
        (assign_as_moves name local value t seen at k (assigned schema (kind_at scope.kinds local) value) refl)

    pub assign_moves : (name : List ℕ) (held made : Option Kind) (t : Buffer) (seen : Option TextFlaw) → held ≡ option_map (kind_at scope.kinds) (local_of scope name) → Keeps scope place seen t
        → Holds (Moves place scope (after_assign name (assigned_kind schema held made) (names_of scope)) (least seen (assigned_flaws schema held made))) place (assign_to schema (local_of t.scope name) made t)
    assign_moves name held made t seen is k =
        subst (λ h. Holds (Moves place scope (after_assign name (assigned_kind schema h made) (names_of scope)) (least seen (assigned_flaws schema h made))) place (assign_to schema (local_of t.scope name) made t)) (sym is)
        (subst (λ (sc : Scope). Holds (Moves place scope (after_assign name (assigned_kind schema (option_map (kind_at scope.kinds) (local_of scope name)) made) (names_of scope)) (least seen (assigned_flaws schema (option_map (kind_at scope.kinds) (local_of scope name)) made))) place (assign_to schema (local_of sc name) made t)) (sym k.same)
        (assign_at name made t seen k (local_of scope name) refl))

    -- ---- deletions

    pub delete_moves : (class : Option ℕ) (t : Buffer) (flaw : Option TextFlaw) → Keeps scope place flaw t → Holds (Moves place scope (after_delete schema class (names_of scope)) flaw) place (deleted schema class t)
    delete_moves None t flaw k = stay_moves flaw t k
    delete_moves (Some class) t flaw k =
        holds_then place (Keeps scope place flaw) (Moves place scope (after_delete schema (Some class) (names_of scope)) flaw) (put ops.Delete t) _ (put_keeps scope place ops.Delete t flaw k)
        (λ u kept.
        let names = ap (λ (sc : Scope). sc.names) kept.same in
        let kinds_are = ap (λ (sc : Scope). map (struck schema class) sc.kinds) kept.same in
        let b : Scope = record { names = u.scope.names; kinds = map (struck schema class) u.scope.kinds } in
        record {
          begun = kept.begun;
          flawed = kept.flawed;
          onto = onto_level scope b (level_struck schema class scope b names kinds_are) tidy;
          named = names_put b scope.names (map (struck schema class) scope.kinds) names kinds_are ∙ names_struck schema class scope;
        })
