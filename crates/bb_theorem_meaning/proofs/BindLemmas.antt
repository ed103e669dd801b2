-- Statements that declare a name, or give one another value.
use Rattle.std.proofs.Common.{◌≡◌, ℕ, ◌+◌, Bool, true, false, cond, List, [], ◌∷◌, length, Option, Some, None, Result, Ok, Err, refl, subst, sym, ap, ◌∙◌}
use Rattle.std.specs.Prelude.{set, slice_get, option_and_then}
use Rattle.bb_basis.specs.Results.{◌>>=◌, map_err}
use Rattle.bb_basis.proofs.ResultLemmas.{bind_ok, same_ok}
use Rattle.bb_schema_classes.specs.declared.class.Class.{Class}
use Rattle.bb_code.specs.Code.{Code}
use Rattle.bb_code.specs.declared.parts.TheConstants.{STACK_LIMIT}
use Rattle.bb_verify_effect.specs.Kinds.{is_same_plain}
use Rattle.bb_code.specs.declared.frame.Kind.{Kind}
use Rattle.bb_code.specs.declared.frame.Kind.TheVariants as kinds
use Rattle.bb_code.specs.declared.op.Op.TheVariants as ops
use Rattle.bb_schema.specs.Schema.{Schema, class_named, descends}
use Rattle.bb_schema.specs.Fits as schemas
use Rattle.bb_lang.specs.Action.TheVariants as actions
use Rattle.bb_lang.specs.Trees.{ExprTree}
use Rattle.bb_compile_scope.specs.declared.fault.TextFlaw.TheVariants.{Unknown, Kind as WrongKind}
use Rattle.bb_compile_scope.specs.declared.scope.Scope.{Scope}
use Rattle.bb_compile_scope.specs.declared.scope.NamedLocal.{NamedLocal}
use Rattle.bb_compile_scope.specs.Kinds.{assigned, assigned_unit, class_of, is_live, unit_of}
use Rattle.bb_compile_scope.specs.LocalKinds.{is_free, kind_at}
use Rattle.bb_compile_scope.specs.Scope.{local_of}
use Rattle.bb_theorem_accepted.specs.Buffer.{Buffer}
use Rattle.bb_theorem_accepted.specs.Buffers.{noted, known, put, with_kinds, declare}
use Rattle.bb_theorem_accepted.specs.Operations.{Made}
use Rattle.bb_compile.specs.Expressions.{expr_code}
use Rattle.bb_compile.specs.Actions.{let_as, let_code, assign_as, assign_to, assign_code, new_of, new_code}
use Rattle.bb_board.specs.Board.{with_world}
use Rattle.bb_units.specs.declared.fault.CreateFault.{CreateFault}
use Rattle.bb_units.specs.declared.fault.CreateFault.TheVariants as creates
use Rattle.bb_units.specs.Units as units
use Rattle.bb_board.specs.World.{after_create}
use Rattle.bb_machine.specs.Changing.{State, halt_of_create, new_unit}
use Rattle.bb_machine.specs.Machine.{Machine, with_stack, there, room, push, go_to}
use Rattle.bb_machine.specs.Step.{step}
use Rattle.bb_machine.specs.declared.value.Value.TheVariants.{Unit as One}
use Rattle.bb_theorem_accepted.proofs.Laws.{Clean, Has, never_noted, put_ok, grown_on, has_before}
use Rattle.bb_theorem_meaning.specs.Meaning.{Meaning, Name, meaningless, named}
use Rattle.bb_theorem_meaning.specs.Meaning as ends
use Rattle.bb_theorem_meaning.specs.Expressions.{value_of}
use Rattle.bb_theorem_meaning.specs.Statements.{Scene, in_world, where_named, created, acted}
use Rattle.bb_theorem_meaning.proofs.ComeLemmas.{Leaves, done_on, Comes, Gets}
use Rattle.bb_theorem_meaning.proofs.MeansLemmas.{part_gets}
use Rattle.bb_theorem_meaning.proofs.NameLemmas.{AreHeld, AreTaken, value_named, name_taken}
use Rattle.bb_theorem_meaning.proofs.AtomLemmas.{Good}
use Rattle.bb_theorem_meaning.proofs.ExprLemmas.{expr_means}
use Rattle.bb_theorem_meaning.proofs.SceneLemmas.{AreApart, known_set, all_known, held_assigned}
use Rattle.bb_theorem_meaning.proofs.KeepLemmas.{Moves, moves_kept}
use Rattle.bb_theorem_meaning.proofs.ActLemmas.{IsTidy, IsScene, Last, Holds, Acts, last_grown, last_put, last_clean, declare_ok, declared_tidy, declared_moves, last_gets, act_one, declare_gets, assign_gets}

-- the kind of what is assigned is known where that of the name is
assigned_known : (s : Schema) (held value k : Kind) → assigned s held value ≡ Some k → is_free held ≡ false → is_free k ≡ false
unfolding assigned assigned_unit
assigned_known s held value k h known = by_plain (is_same_plain held value) h
  where
    by_live : (class : ℕ) (live : Bool) → is_free (unit_of live class) ≡ false
    by_live class true = refl
    by_live class false = refl

    by_descent : (class : ℕ) (d : Bool) → cond d (Some (unit_of (is_live value) class)) None ≡ Some k → is_free k ≡ false
    by_descent class true h = let e : unit_of (is_live value) class ≡ k = cc in subst (λ j. is_free j ≡ false) e (by_live class (is_live value))
    by_descent class false h = absurd cc

    by_other : (class : ℕ) (o : Option ℕ) → option_and_then (λ other. cond (descends s other class) (Some (unit_of (is_live value) class)) None) o ≡ Some k → is_free k ≡ false
    by_other class None h = absurd cc
    by_other class (Some other) h = by_descent class (descends s other class) h

    by_class : (o : Option ℕ) → option_and_then (λ class. option_and_then (λ other. cond (descends s other class) (Some (unit_of (is_live value) class)) None) (class_of value)) o ≡ Some k → is_free k ≡ false
    by_class None h = absurd cc
    by_class (Some class) h = by_other class (class_of value) h

    by_plain : (b : Bool) → cond b (Some held) (option_and_then (λ class. option_and_then (λ other. cond (descends s other class) (Some (unit_of (is_live value) class)) None) (class_of value)) (class_of held)) ≡ Some k → is_free k ≡ false
    by_plain true h = let e : held ≡ k = cc in subst (λ j. is_free j ≡ false) e known
    by_plain false h = by_class (class_of held) h

module _ (schema : Schema) (sf : schemas.Fits schema) (code : Code) (start : State) (good : (n : ℕ) (st : State) → Comes code start n (Ok st) → Good schema st.1) where
  abbrev Does : Buffer → Buffer → (Scene → Meaning Scene) → Type 0
  Does s t f = Acts code start s t f

  -- ---- let

  pub let_does : (name : List ℕ) (e : ExprTree) (s t : Buffer) → let_code schema name e s ≡ Ok t → Clean t → Has code t → Does s t (acted (actions.Let name e))
  unfolding let_code acted
  let_does name e s t h clean has =
      let one = bind_ok (expr_code schema STACK_LIMIT e s) (λ p. let_as name p.0 p.1) t h in by_kind one.0.0 one.0.1 one.1 one.2
    where
      by_kind : (made : Made) (u : Buffer) → expr_code schema STACK_LIMIT e s ≡ Ok (made, u) → let_as name made u ≡ Ok t → Does s t (acted (actions.Let name e))
      by_kind None u is h =
          let same = same_ok u t h in
          let m = expr_means schema sf code start good e STACK_LIMIT s u None is (ap (λ (x : Buffer). x.flaw) same ∙ clean) (subst (Has code) (sym same) has) in
          absurd (let no = m.some.1 in cc)
      by_kind (Some kind) u is h =
          let d = declare_ok name kind u t h in
          let last = last_grown (ops.Store d.local) u t d.last in
          let m = expr_means schema sf code start good e STACK_LIMIT s u (Some kind) is (last_clean (ops.Store d.local) u t d.last clean) (has_before code u t last has) in
          record {
            grown = grown_on s u t m.grown last;
            clean = m.clean;
            tidy = λ tidy. declared_tidy name kind u t d (m.kind tidy.taken) (subst IsTidy (sym m.scope) tidy);
            moves = λ tidy. subst (λ c. Moves c t.scope) m.scope (declared_moves name kind u t d (m.kind tidy.taken));
            gets = λ tidy st scene c here.
                act_one code start s u t (Some kind) (λ b names. value_of b names e) (λ sc v. Ok (where_named name v sc)) m last
                (λ st' sc v at held. declare_gets code start name kind u t d has (subst IsTidy (sym m.scope) tidy) st' sc v at (subst (λ (x : Scope). Holds code start (length u.ops) x.names sc v st') (sym m.scope) held))
                st scene c here;
          }

  -- ---- assignment

  pub assign_does : (name : List ℕ) (e : ExprTree) (s t : Buffer) → assign_code schema name e s ≡ Ok t → Clean t → Has code t → Does s t (acted (actions.Assign name e))
  unfolding assign_code acted
  assign_does name e s t h clean has =
      let one = bind_ok (expr_code schema STACK_LIMIT e s) (λ p. assign_to schema (local_of p.1.scope name) p.0 p.1) t h in by_local one.0.0 one.0.1 (local_of one.0.1.scope name) refl one.1 one.2
    where
      by_assigned : (kind : Kind) (u : Buffer) (local : ℕ) (o : Option Kind) → assigned schema (kind_at u.scope.kinds local) kind ≡ o → local_of u.scope name ≡ Some local → expr_code schema STACK_LIMIT e s ≡ Ok (Some kind, u) → assign_as local o u ≡ Ok t
          → Does s t (acted (actions.Assign name e))
      by_assigned kind u local None known at is h = never_noted WrongKind u (ap (λ (x : Buffer). x.flaw) (same_ok (noted WrongKind u) t h) ∙ clean)
      by_assigned kind u local (Some k) known at is h =
          let put_is = put_ok (ops.Store local) (with_kinds (set u.scope.kinds local k) u) t h in
          let last : Last (ops.Store local) u t = record { ops = ap (λ (x : Buffer). x.ops) put_is; texts = ap (λ (x : Buffer). x.texts) put_is; queries = ap (λ (x : Buffer). x.queries) put_is; flaw = ap (λ (x : Buffer). x.flaw) put_is } in
          let grown = last_grown (ops.Store local) u t last in
          let m = expr_means schema sf code start good e STACK_LIMIT s u (Some kind) is (last_clean (ops.Store local) u t last clean) (has_before code u t grown has) in
          let names_are : t.scope.names ≡ u.scope.names = ap (λ (x : Buffer). x.scope.names) put_is in
          let kinds_are : t.scope.kinds ≡ set u.scope.kinds local k = ap (λ (x : Buffer). x.scope.kinds) put_is in
          record {
            grown = grown_on s u t m.grown grown;
            clean = m.clean;
            tidy = λ tidy.
                let own = subst IsTidy (sym m.scope) tidy in
                record {
                  taken = subst (λ ks. AreTaken ks t.scope.names) (sym kinds_are) (subst (AreTaken (set u.scope.kinds local k)) (sym names_are)
                      (all_known u.scope.names u.scope.kinds local k (assigned_known schema (kind_at u.scope.kinds local) kind k known (name_taken u.scope.kinds name local u.scope.names own.taken at)) own.taken));
                  apart = subst AreApart (sym names_are) own.apart;
                };
            moves = λ tidy.
                let own = subst IsTidy (sym m.scope) tidy in
                let now_known = assigned_known schema (kind_at u.scope.kinds local) kind k known (name_taken u.scope.kinds name local u.scope.names own.taken at) in
                subst (λ c. Moves c t.scope) m.scope
                (moves_kept u.scope t.scope names_are (λ i taken. subst (λ ks. is_free (kind_at ks i) ≡ false) (sym kinds_are) (known_set u.scope.kinds local i k now_known taken)));
            gets = λ tidy st scene c here.
                act_one code start s u t (Some kind) (λ b names. value_of b names e) (λ sc v. named name sc.names >>= λ _. Ok (record { names = ends.assigned name v sc.names; board = sc.board })) m grown
                (λ st' sc v there held.
                let own : Holds code start (length u.ops) u.scope.names sc v st' = subst (λ (x : Scope). Holds code start (length u.ops) x.names sc v st') (sym m.scope) held in
                let value = value_named st'.0.locals name local u.scope.names sc.names own.held at in
                let after : Scene = record { names = ends.assigned name v sc.names; board = sc.board } in
                let apart = (subst IsTidy (sym m.scope) tidy).apart in
                subst (λ r. Gets code start (IsScene (length t.ops) t.scope.names) (r >>= λ _. Ok after) (length t.ops)) (sym value.1)
                (assign_gets code start local u t last has st' sc after v there own refl
                (λ lt. subst (λ ns. AreHeld (set st'.0.locals local (Some v)) ns after.names) (sym names_are) (held_assigned st'.0.locals u.scope.names sc.names name local v apart own.held at lt))))
                st scene c here;
          }

      by_local : (made : Made) (u : Buffer) (o : Option ℕ) → local_of u.scope name ≡ o → expr_code schema STACK_LIMIT e s ≡ Ok (made, u) → assign_to schema o made u ≡ Ok t → Does s t (acted (actions.Assign name e))
      by_local made u None at is h = never_noted Unknown u (ap (λ (x : Buffer). x.flaw) (same_ok (noted Unknown u) t h) ∙ clean)
      by_local None u (Some local) at is h =
          let same = same_ok u t h in
          let m = expr_means schema sf code start good e STACK_LIMIT s u None is (ap (λ (x : Buffer). x.flaw) same ∙ clean) (subst (Has code) (sym same) has) in
          absurd (let no = m.some.1 in cc)
      by_local (Some kind) u (Some local) at is h = by_assigned kind u local (assigned schema (kind_at u.scope.kinds local) kind) refl at is h

  -- ---- new

  module _ (name : List ℕ) (class : ℕ) where
    -- a unit is created, and is on the stack
    pub new_leaves : (n : ℕ) (ns : List NamedLocal) (st : State) (scene : Scene) → IsScene n ns scene st → (m : Machine) → m.place ≡ n + 1 → m.locals ≡ st.0.locals → m.stack ≡ []
        → Leaves (λ after. Holds code start (n + 1) ns after (One scene.board.world.units.next)) (let r : Meaning Scene = cond (units.is_full scene.board.world.units) (Err (ends.full scene.board)) (Ok (in_world scene (after_create scene.board.world class))) in r)
        (done_on st.1 (step code (ops.New class) (m, st.1)))
    unfolding step new_unit room push
    new_leaves n ns st scene is m place locals stack =
        subst (λ b. Leaves (λ after. Holds code start (n + 1) ns after (One scene.board.world.units.next)) says_it (done_on b (step code (ops.New class) (m, b)))) (sym is.board)
        (rw stack (by_class (slice_get scene.board.schema.classes class)))
      where
        says_it : Meaning Scene
        says_it = cond (units.is_full scene.board.world.units) (Err (ends.full scene.board)) (Ok (in_world scene (after_create scene.board.world class)))

        by_full : (full : Bool) → Leaves (λ after. Holds code start (n + 1) ns after (One scene.board.world.units.next)) (let r : Meaning Scene = cond full (Err (ends.full scene.board)) (Ok (in_world scene (after_create scene.board.world class))) in r)
            (done_on scene.board (map_err halt_of_create (let r : Result ℕ CreateFault = cond full (Err creates.Full) (Ok scene.board.world.units.next) in r) >>= λ k. Ok (with_stack (One k ∷ []) m, with_world scene.board (after_create scene.board.world class))))
        by_full true = refl
        by_full false = (in_world scene (after_create scene.board.world class), refl, record { place = place; held = subst (λ l. AreHeld l ns scene.names) (sym locals) is.held; stack = refl; board = refl })

        by_class : (o : Option Class) → Leaves (λ after. Holds code start (n + 1) ns after (One scene.board.world.units.next)) says_it
            (done_on scene.board (there o >>= λ _. map_err halt_of_create (units.next_number scene.board.world.units) >>= λ k. Ok (with_stack (One k ∷ []) m, with_world scene.board (after_create scene.board.world class))))
        by_class None = tt
        by_class (Some k) = by_full (units.is_full scene.board.world.units)

    created_as : (scene : Scene) (full : Bool) → (let r : Meaning Scene = cond full (Err (ends.full scene.board)) (Ok (where_named name (One scene.board.world.units.next) (in_world scene (after_create scene.board.world class)))) in r)
        ≡ ((let r : Meaning Scene = cond full (Err (ends.full scene.board)) (Ok (in_world scene (after_create scene.board.world class))) in r) >>= λ after. Ok (where_named name (One scene.board.world.units.next) after))
    created_as scene true = refl
    created_as scene false = refl

    pub class_does : (s t : Buffer) → new_of name (Some class) s ≡ Ok t → Clean t → Has code t → Does s t (created name class)
    unfolding created
    class_does s t h clean has =
        let one = bind_ok (put (ops.New class) s) (declare name (kinds.Ref class)) t h in
        let d = declare_ok name (kinds.Ref class) one.0 t one.2 in
        let put_is = put_ok (ops.New class) s one.0 one.1 in
        let first = last_put (ops.New class) s one.0 put_is in
        let last = last_grown (ops.Store d.local) one.0 t d.last in
        let scope : one.0.scope ≡ s.scope = ap (λ (x : Buffer). x.scope) put_is in
        let own = has_before code one.0 t last has in
        record {
          grown = grown_on s one.0 t (last_grown (ops.New class) s one.0 first) last;
          clean = last_clean (ops.New class) s one.0 first (last_clean (ops.Store d.local) one.0 t d.last clean);
          tidy = λ tidy. declared_tidy name (kinds.Ref class) one.0 t d refl (subst IsTidy (sym scope) tidy);
          moves = λ tidy. subst (λ c. Moves c t.scope) scope (declared_moves name (kinds.Ref class) one.0 t d refl);
          gets = λ tidy st scene c here.
              subst (λ r. Gets code start (IsScene (length t.ops) t.scope.names) r (length t.ops)) (sym (created_as scene (units.is_full scene.board.world.units)))
              (part_gets code start one.0 t (λ after. Holds code start (length one.0.ops) s.scope.names after (One scene.board.world.units.next)) (IsScene (length t.ops) t.scope.names)
              (cond (units.is_full scene.board.world.units) (Err (ends.full scene.board)) (Ok (in_world scene (after_create scene.board.world class)))) (λ after. Ok (where_named name (One scene.board.world.units.next) after)) last
              (last_gets code start (ops.New class) s one.0 (λ n after. Holds code start n s.scope.names after (One scene.board.world.units.next))
              (cond (units.is_full scene.board.world.units) (Err (ends.full scene.board)) (Ok (in_world scene (after_create scene.board.world class)))) st first refl own c (λ n x next i. i.place)
              (new_leaves (length s.ops) s.scope.names st scene here (go_to (length s.ops + 1) st.0) refl refl here.stack))
              (λ after next there held.
              declare_gets code start name (kinds.Ref class) one.0 t d has (subst IsTidy (sym scope) tidy) next after (One scene.board.world.units.next) there
              (subst (λ (x : Scope). Holds code start (length one.0.ops) x.names after (One scene.board.world.units.next) next) (sym scope) held)));
        }

  -- a meaning may be replaced by one that is equal on the blackboards that can come
  acts_where : (s t : Buffer) (f g : Scene → Meaning Scene) → ((scene : Scene) → Good schema scene.board → f scene ≡ g scene) → Does s t f → Does s t g
  acts_where s t f g same a = record {
    grown = a.grown;
    clean = a.clean;
    tidy = a.tidy;
    moves = a.moves;
    gets = λ tidy st scene c here.
        subst (λ r. Gets code start (IsScene (length t.ops) t.scope.names) r (length t.ops)) (same scene (subst (Good schema) here.board (good (length s.ops) st c))) (a.gets tidy st scene c here);
  }

  pub new_does : (name class : List ℕ) (s t : Buffer) → new_code schema name class s ≡ Ok t → Clean t → Has code t → Does s t (acted (actions.New name class))
  unfolding new_code acted
  new_does name class s t h clean has = by_class (class_named schema class) refl h
    where
      by_class : (o : Option ℕ) → class_named schema class ≡ o → new_of name o s ≡ Ok t → Does s t (acted (actions.New name class))
      by_class None is h = never_noted Unknown s (ap (λ (x : Buffer). x.flaw) (same_ok (noted Unknown s) t h) ∙ clean)
      by_class (Some c) is h =
          acts_where s t (created name c) (acted (actions.New name class))
          (λ scene g. let here : class_named scene.board.schema class ≡ Some c = ap (λ z. class_named z class) g.schema ∙ is in rw here refl)
          (class_does name c s t h clean has)
