-- Statements without blocks, and tests, put ops that go on to the next one; what they take is no local that holds a
-- sequence.
use Rattle.std.proofs.Common.{◌≡◌, inl, inr, ℕ, ◌+◌, ◌≤◌, Bool, true, false, not, List, [], ◌∷◌, ◌++◌, Option, Some, None, Ok, map, refl, subst, sym, ap, ◌∙◌, arith}
use Rattle.std.specs.Prelude.{position, is_ok, set, max}
use Rattle.std.proofs.Math.Nat.{le-max_left}
use Rattle.bb_basis.proofs.ResultLemmas.{bind_ok, same_ok}
use Rattle.bb_code.specs.declared.parts.TheConstants.{STACK_LIMIT}
use Rattle.bb_schema.specs.Schema.{Schema, class_named}
use Rattle.bb_verify_effect.specs.declared.part.Part.{Part}
use Rattle.bb_verify_effect.specs.Part.{writes}
use Rattle.bb_code.specs.declared.frame.Kind.{Kind}
use Rattle.bb_code.specs.declared.frame.Kind.TheVariants as kinds
use Rattle.bb_verify_effect.specs.Kinds.{struck}
use Rattle.bb_code.specs.declared.op.Op.{Op}
use Rattle.bb_code.specs.declared.op.Op.TheVariants as ops
use Rattle.bb_lang.specs.Action.{Action}
use Rattle.bb_lang.specs.Action.TheVariants as actions
use Rattle.bb_lang.specs.Binding.{Binding}
use Rattle.bb_lang.specs.Binding.TheVariants as bindings
use Rattle.bb_lang.specs.Trees.{ExprTree}
use Rattle.bb_lang.specs.Variable.{Variable}
use Rattle.bb_compile_scope.specs.declared.fault.TextFlaw.TheVariants.{Unknown, Kind as WrongKind, Effect}
use Rattle.bb_compile_scope.specs.declared.scope.Scope.{Scope}
use Rattle.bb_compile_scope.specs.Kinds.{assigned}
use Rattle.bb_compile_scope.specs.LocalKinds.{is_free, kind_at}
use Rattle.bb_compile_scope.specs.Scope.{local_of}
use Rattle.bb_compile_scope.proofs.Laws.{free_first}
use Rattle.bb_compile_buffer.specs.declared.buffer.Buffer.{Buffer}
use Rattle.bb_compile_buffer.specs.Buffers.{noted, put, with_kinds, declare}
use Rattle.bb_compile_buffer.specs.Operations.{Made}
use Rattle.bb_compile_buffer.specs.Atoms.{variable_code, unit_code}
use Rattle.bb_compile.specs.declared.exits.Exits.{Exits}
use Rattle.bb_compile.specs.Expressions.{expr_code}
use Rattle.bb_compile.specs.Actions.{effect_noted, let_as, let_code, assign_as, assign_to, assign_code, new_of, new_code, deleted, delete_code, action_code}
use Rattle.bb_theorem_accepted.proofs.buffers.BufferLemmas.{Clean, grown_none, grown_on, put_ok}
use Rattle.bb_theorem_accepted.proofs.buffers.GrownLemmas.{Adds, adds_on, adds_op}
use Rattle.bb_theorem_accepted.proofs.blocks.BranchLemmas.{TestLaid}
use Rattle.bb_theorem_accepted.proofs.blocks.HeadLemmas.{Tested, HeadLaid}
use Rattle.bb_theorem_accepted.proofs.blocks.GuardLemmas.{Guard, exits_of, tested_puts, test_guard, head_guard, named_guard}
use Rattle.bb_theorem_accepted.proofs.kinds.KnowLemmas.{is_sequence}
use Rattle.bb_theorem_accepted.proofs.straight.StoreLemmas.{declared_on, declare_is}
use Rattle.bb_theorem_accepted.proofs.buffers.QuietLemmas.{is_calm, AreCalm, are_calm, calm_on}
use Rattle.bb_theorem_accepted.proofs.buffers.StayLemmas.{Stays, same_on, itself, behind, stays_same, keeps_ok, flawed, unless_flawed, put_keeps, variable_keeps, unit_keeps, expr_keeps}
use Rattle.bb_theorem_accepted.proofs.buffers.StillLemmas.{is_still, action_keeps}

-- what a buffer has more is calm where the other one ended
pub record Calm (s t : Buffer) : Type 0 where
  pub adds : Adds s t
  pub calm : AreCalm s.scope.kinds adds.grown.ops

calm_stays : (s t : Buffer) → Stays s t → Calm s t
calm_stays s t g = record { adds = g.adds; calm = are_calm s.scope.kinds g.adds.grown.ops g.quiet }

-- and an op more, where the scope may change
calm_put : (s u t : Buffer) (op : Op) (scope : Scope) (locals : ℕ) → Stays s u → u.locals ≤ locals → t ≡ record u { ops = u.ops ++ op ∷ []; scope = scope; locals = locals } → is_calm s.scope.kinds op ≡ true → Calm s t
unfolding adds_on grown_on adds_op
calm_put s u t op scope locals g le is calm = record {
  adds = adds_on s u t g.adds (adds_op op u t scope locals le is);
  calm = calm_on s.scope.kinds g.adds.grown.ops (op ∷ []) (are_calm s.scope.kinds g.adds.grown.ops g.quiet) (calm, tt);
}

-- after what goes on to the next op
calm_from : (s w t : Buffer) → Stays s w → Calm w t → Calm s t
unfolding adds_on grown_on
calm_from s w t g c = record {
  adds = adds_on s w t g.adds c.adds;
  calm = calm_on s.scope.kinds g.adds.grown.ops c.adds.grown.ops (are_calm s.scope.kinds g.adds.grown.ops g.quiet) (subst (λ (a : Scope). AreCalm a.kinds c.adds.grown.ops) g.scope c.calm);
}

-- ---- locals that are taken

pub free_value : (k : Kind) → is_free k ≡ true → is_sequence k ≡ false
free_value (kinds.Seq c) h = absurd cc
free_value _ h = refl

pub free_calm : (ks : List Kind) (local : ℕ) → position is_free ks ≡ Some local → is_calm ks (ops.Store local) ≡ true
free_calm ks local free = ap not (free_value (kind_at ks local) (free_first ks local free))

-- a name is declared
calm_declared : (s u t : Buffer) (name : List ℕ) (kind : Kind) → Stays s u → declare name kind u ≡ Ok t → Calm s t
calm_declared s u t name kind g h =
    let d = declare_is name kind u t h in
    calm_put s u t (ops.Store d.0) (declared_on name d.0 kind u).scope (max u.locals (d.0 + 1)) g (le-max_left u.locals (d.0 + 1)) d.2 (free_calm s.scope.kinds d.0 (ap (λ (a : Scope). position is_free a.kinds) (sym g.scope) ∙ d.1))

-- nothing is assigned to a sequence
assigned_value : (schema : Schema) (held value now : Kind) → assigned schema held value ≡ Some now → is_sequence held ≡ false
unfolding assigned
assigned_value schema (kinds.Seq c) value now h = absurd cc
assigned_value schema _ value now h = refl

module _ (schema : Schema) where
  -- ---- statements without blocks

  let_calm : (name : List ℕ) (e : ExprTree) (s t : Buffer) → let_code schema name e s ≡ Ok t → Calm s t
  unfolding let_code
  let_calm name e s t h =
      let one = bind_ok (expr_code schema STACK_LIMIT e s) (λ p. let_as name p.0 p.1) t h in
      by_made one.0.0 one.0.1 (keeps_ok behind s (expr_code schema STACK_LIMIT e s) one.0 one.1 (expr_keeps schema e STACK_LIMIT s)) one.2
    where
      by_made : (made : Made) (u : Buffer) → Stays s u → let_as name made u ≡ Ok t → Calm s t
      by_made None u g h = subst (Calm s) (same_ok u t h) (calm_stays s u g)
      by_made (Some kind) u g h = calm_declared s u t name kind g h

  new_calm : (name class : List ℕ) (s t : Buffer) → new_code schema name class s ≡ Ok t → Calm s t
  unfolding new_code
  new_calm name class s t h = by_class (class_named schema class) h
    where
      by_class : (o : Option ℕ) → new_of name o s ≡ Ok t → Calm s t
      by_class None h = subst (Calm s) (same_ok (noted Unknown s) t h) (calm_stays s (noted Unknown s) (flawed Unknown s))
      by_class (Some c) h =
          let one = bind_ok (put (ops.New c) s) (declare name (kinds.Ref c)) t h in
          calm_declared s one.0 t name (kinds.Ref c) (keeps_ok itself s (put (ops.New c) s) one.0 one.1 (put_keeps (ops.New c) refl s)) one.2

  assign_calm : (name : List ℕ) (e : ExprTree) (s t : Buffer) → assign_code schema name e s ≡ Ok t → Calm s t
  unfolding assign_code
  assign_calm name e s t h =
      let one = bind_ok (expr_code schema STACK_LIMIT e s) (λ p. assign_to schema (local_of p.1.scope name) p.0 p.1) t h in
      by_local one.0.0 one.0.1 (keeps_ok behind s (expr_code schema STACK_LIMIT e s) one.0 one.1 (expr_keeps schema e STACK_LIMIT s)) (local_of one.0.1.scope name) one.2
    where
      noted_calm : (u w : Buffer) → Stays s u → Stays u w → w ≡ t → Calm s t
      noted_calm u w g more is = subst (Calm s) is (calm_stays s w (same_on s u w g more))

      by_assigned : (kind : Kind) (u : Buffer) (local : ℕ) → Stays s u → (o : Option Kind) → assigned schema (kind_at u.scope.kinds local) kind ≡ o → assign_as local o u ≡ Ok t → Calm s t
      by_assigned kind u local g None becomes h = noted_calm u (noted WrongKind u) g (flawed WrongKind u) (same_ok (noted WrongKind u) t h)
      by_assigned kind u local g (Some now) becomes h =
          let held = set u.scope.kinds local now in
          calm_put s u t (ops.Store local) (with_kinds held u).scope u.locals g (omega arith) (put_ok (ops.Store local) (with_kinds held u) t h)
          (ap (λ (a : Scope). not (is_sequence (kind_at a.kinds local))) (sym g.scope) ∙ ap not (assigned_value schema (kind_at u.scope.kinds local) kind now becomes))

      by_local : (made : Made) (u : Buffer) → Stays s u → (o : Option ℕ) → assign_to schema o made u ≡ Ok t → Calm s t
      by_local made u g None h = noted_calm u (noted Unknown u) g (flawed Unknown u) (same_ok (noted Unknown u) t h)
      by_local None u g (Some local) h = noted_calm u u g (stays_same u) (same_ok u t h)
      by_local (Some kind) u g (Some local) h = by_assigned kind u local g (assigned schema (kind_at u.scope.kinds local) kind) refl h

  delete_calm : (unit : Variable) (s t : Buffer) → delete_code schema unit s ≡ Ok t → Calm s t
  unfolding delete_code
  delete_calm unit s t h =
      let one = bind_ok (unit_code unit STACK_LIMIT s) (λ p. deleted schema p.0 p.1) t h in
      by_class one.0.0 one.0.1 (keeps_ok behind s (unit_code unit STACK_LIMIT s) one.0 one.1 (unit_keeps unit STACK_LIMIT s)) one.2
    where
      by_class : (o : Option ℕ) (u : Buffer) → Stays s u → deleted schema o u ≡ Ok t → Calm s t
      by_class None u g h = subst (Calm s) (same_ok u t h) (calm_stays s u g)
      by_class (Some c) u g h =
          let struck_by = (λ (x : Buffer). with_kinds (map (struck schema c) x.scope.kinds) x) in
          let one = bind_ok (put ops.Delete u) (λ x. Ok (with_kinds (map (struck schema c) x.scope.kinds) x)) t h in
          calm_put s u t ops.Delete (struck_by u).scope u.locals g (omega arith) (sym (same_ok (struck_by one.0) t one.2) ∙ ap (λ (x : Buffer). with_kinds (map (struck schema c) x.scope.kinds) x) (put_ok ops.Delete u one.0 one.1)) refl

  module _ (part : Part) (s t : Buffer) where
    on_noted : Calm (effect_noted part s) t → Calm s t
    on_noted c = calm_from s (effect_noted part s) t (unless_flawed (is_ok (writes part)) Effect s) c

    still_calm : (a : Action) → is_still schema a ≡ true → action_code schema part a s ≡ Ok t → Calm s t
    still_calm a still h = calm_stays s t (keeps_ok itself s (action_code schema part a s) t h (action_keeps schema part a s still))

    pub action_calm : (a : Action) → action_code schema part a s ≡ Ok t → Calm s t
    unfolding action_code
    action_calm (actions.Let name value) h = let_calm name value s t h
    action_calm (actions.Assign name value) h = assign_calm name value s t h
    action_calm (actions.New name class) h = on_noted (new_calm name class (effect_noted part s) t h)
    action_calm (actions.Delete unit) h = on_noted (delete_calm unit (effect_noted part s) t h)
    action_calm (actions.Rate value) h = still_calm (actions.Rate value) refl h
    action_calm actions.Decline h = still_calm actions.Decline refl h
    action_calm (actions.Answer value) h = still_calm (actions.Answer value) refl h
    action_calm (actions.Set unit slot value) h = still_calm (actions.Set unit slot value) refl h
    action_calm (actions.Link unit slot other) h = still_calm (actions.Link unit slot other) refl h
    action_calm (actions.Unlink unit slot other) h = still_calm (actions.Unlink unit slot other) refl h
    action_calm (actions.Enter unit space) h = still_calm (actions.Enter unit space) refl h
    action_calm (actions.Leave unit space) h = still_calm (actions.Leave unit space) refl h
    action_calm (actions.Say values) h = still_calm (actions.Say values) refl h

-- ---- tests

-- ops that go elsewhere, as a test does
abbrev pub is_exit : Op → Bool
is_exit (ops.One slot target) = true
is_exit (ops.Alive target) = true
is_exit (ops.As class target) = true
is_exit (ops.Unless target) = true
is_exit (ops.Jump target) = true
is_exit op = false

abbrev pub AreExit : List Op → Type 0
AreExit [] = Unit {0}
AreExit (o ∷ es) = (is_exit o ≡ true) × AreExit es

-- what a test puts
pub record Tests (s u : Buffer) (exits : Exits) (gd : Guard s u exits) : Type 0 where
  pub stays : Stays s gd.behind
  pub exits_are : AreExit gd.es
  pub scope : gd.tested.scope ≡ s.scope
  pub named : AreCalm s.scope.kinds gd.named.ops

module _ (schema : Schema) where
  pub test_tests : (test : ExprTree) (s u : Buffer) (exits : Exits) → (l : TestLaid schema test s u exits) → Tests s u exits (test_guard schema test s u exits l)
  unfolding test_guard grown_none
  test_tests test s u exits l =
      let stays = keeps_ok behind s (expr_code schema STACK_LIMIT test s) (l.made, l.behind) l.code_is (expr_keeps schema test STACK_LIMIT s) in
      record { stays = stays; exits_are = (refl, tt); scope = ap (λ (x : Buffer). x.scope) l.put_is ∙ stays.scope; named = tt }

  -- the exits of a `with`
  exits_so : (held : Kind) (class : ℕ) (a t : Buffer) (exits : Exits) → (is : Tested held class a t exits) → AreExit (exits_of held class a t exits is)
  exits_so held class a t exits (inl of) = (refl, tt)
  exits_so held class a t exits (inr (inl alive)) = (refl, tt)
  exits_so held class a t exits (inr (inr both)) = (refl, (refl, tt))

  -- a name for a local that is free after a test
  named_calm : (s t u : Buffer) (name : List ℕ) (kind : Kind) → t.scope ≡ s.scope → (h : declare name kind t ≡ Ok u) → AreCalm s.scope.kinds (ops.Store (declare_is name kind t u h).0 ∷ [])
  named_calm s t u name kind scope h =
      let d = declare_is name kind t u h in
      (free_calm s.scope.kinds d.0 (ap (λ (a : Scope). position is_free a.kinds) (sym scope) ∙ d.1), tt)

  pub head_tests : (binding : Binding) (s u : Buffer) (exits : Exits) → (laid : HeadLaid schema binding s u exits) → (clean : Clean u) → Tests s u exits (head_guard schema binding s u exits laid clean)
  unfolding head_guard named_guard
  head_tests (bindings.As name unit class) s u exits laid clean =
      let stays = keeps_ok behind s (variable_code unit STACK_LIMIT s) (Some laid.held, laid.behind) laid.code_is (variable_keeps unit STACK_LIMIT s) in
      let puts = tested_puts laid.held laid.of laid.behind laid.test exits laid.test_is in
      let scope : laid.test.scope ≡ s.scope = ap (λ (x : Buffer). x.scope) puts.same ∙ stays.scope in
      record { stays = stays; exits_are = exits_so laid.held laid.of laid.behind laid.test exits laid.test_is; scope = scope; named = named_calm s laid.test u name (kinds.Ref laid.of) scope laid.declared }
  head_tests (bindings.Linked name unit slot) s u exits laid clean =
      let stays = keeps_ok behind s (unit_code unit STACK_LIMIT s) (Some laid.class, laid.behind) laid.code_is (unit_keeps unit STACK_LIMIT s) in
      let scope : laid.test.scope ≡ s.scope = ap (λ (x : Buffer). x.scope) laid.put_is ∙ stays.scope in
      record { stays = stays; exits_are = (refl, tt); scope = scope; named = named_calm s laid.test u name (kinds.Ref laid.at.1) scope laid.declared }
