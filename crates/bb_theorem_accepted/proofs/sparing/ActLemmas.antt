-- What a statement without blocks does to the names and classes in scope, by the compiler's answer alone.
use Rattle.std.proofs.Common.{◌≡◌, ◌⊎◌, inl, inr, ℕ, ◌+◌, ◌<◌, ◌≤◌, Bool, true, false, not, List, [], ◌∷◌, ◌++◌, length, map, Option, Some, None, Ok, refl, subst, sym, ap, ◌∙◌, arith}
use Rattle.std.specs.Prelude.{set, position, is_ok}
use Rattle.std.proofs.lemmas.List.{append-nil, length-set, length-map}
use Rattle.bb_basis.proofs.ResultLemmas.{bind_ok, same_ok}
use Rattle.bb_code.specs.declared.parts.TheConstants.{STACK_LIMIT}
use Rattle.bb_schema.specs.Schema.{Schema, class_named}
use Rattle.bb_verify_effect.specs.declared.part.Part.{Part}
use Rattle.bb_verify_effect.specs.Part.{writes}
use Rattle.bb_code.specs.declared.frame.Kind.{Kind}
use Rattle.bb_code.specs.declared.frame.Kind.TheVariants as kinds
use Rattle.bb_verify_effect.specs.Kinds.{struck}
use Rattle.bb_code.specs.declared.op.Op.TheVariants as ops
use Rattle.bb_lang.specs.Action.{Action}
use Rattle.bb_lang.specs.Action.TheVariants as actions
use Rattle.bb_lang.specs.Trees.{ExprTree}
use Rattle.bb_lang.specs.Variable.{Variable}
use Rattle.bb_lang.specs.Blocks.{action}
use Rattle.bb_compile_scope.specs.declared.fault.TextFlaw.TheVariants.{Unknown, Kind as WrongKind, Effect}
use Rattle.bb_compile_scope.specs.Kinds.{class_of, is_live, assigned}
use Rattle.bb_compile_scope.specs.LocalKinds.{is_free, kind_at}
use Rattle.bb_compile_scope.specs.Scope.{name_of, local_of}
use Rattle.bb_compile_scope.specs.declared.scope.Scope.{Scope}
use Rattle.bb_compile_scope.proofs.Laws.{at_same, at_other, struck_at, set_twice, taken_within, frees, frees_taken}
use Rattle.bb_compile_buffer.specs.declared.buffer.Buffer.{Buffer}
use Rattle.bb_compile_buffer.specs.Buffers.{noted, put, with_kinds, declare}
use Rattle.bb_compile_buffer.specs.Operations.{Made}
use Rattle.bb_compile_buffer.specs.Atoms.{unit_code}
use Rattle.bb_compile.specs.Expressions.{expr_code}
use Rattle.bb_compile.specs.Actions.{effect_noted, let_as, let_code, assign_as, assign_to, assign_code, new_of, new_code, deleted, delete_code, action_code}
use Rattle.bb_theorem_accepted.proofs.buffers.BufferLemmas.{Clean, with_op, never_noted, put_ok}
use Rattle.bb_theorem_accepted.proofs.straight.StoreLemmas.{declare_is}
use Rattle.bb_theorem_accepted.proofs.kinds.KnowLemmas.{aged}
use Rattle.bb_theorem_accepted.proofs.kinds.MoveLemmas.{Sole, one_or_other, struck_aged, assigned_as, assigned_aged}
use Rattle.bb_theorem_accepted.proofs.sparing.ScopeLemmas.{Onto, onto_declared, onto_level, Levels, level_same, level_frees}
use Rattle.bb_theorem_accepted.proofs.sparing.SpareLemmas.{Shape, class_in, class_at, is_first, is_struck, value_in, added_by, action_spares, adds, sole_named}
use Rattle.bb_theorem_accepted.proofs.sparing.ShapeLemmas.{of, Shaped, Spares, All, shaped_level, spares_set, shaped_set, spares_assigned, spares_struck}
use Rattle.bb_theorem_accepted.proofs.sparing.BodyLemmas.{level_aged}
use Rattle.bb_theorem_accepted.proofs.buffers.StayLemmas.{itself, behind, keeps_ok, unless_flawed, expr_keeps, unit_keeps}
use Rattle.bb_theorem_accepted.proofs.buffers.StillLemmas.{is_still, action_keeps}
use Rattle.bb_theorem_accepted.proofs.sparing.PlainLemmas.{expr_class, unit_class_is}

-- what a statement does to a scope: the names that it adds, the free locals that it takes, and what it spares
pub record Acts (a b : Scope) (added : Shape) (spared : ℕ → Bool) : Type 0 where
  pub onto : Onto a b
  pub frees : frees b.kinds + length added ≡ frees a.kinds
  pub shaped : Shaped a b added
  pub spares : Spares a b spared

pub acts_level : (a b : Scope) (p : ℕ → Bool) → Sole a.kinds a.names → Levels a b → Spares a b p → Acts a b [] p
acts_level a b p sole l spares = record {
  onto = onto_level a b l;
  frees = (let e = level_frees a b l in omega (arith, e));
  shaped = shaped_level a b l sole ∙ sym (append-nil (of a));
  spares = spares;
}

pub acts_same : (a b : Scope) (p : ℕ → Bool) → Sole a.kinds a.names → b ≡ a → Acts a b [] p
acts_same a b p sole same =
    acts_level a b p sole (level_same a b (ap (λ (c : Scope). c.names) same) (ap (λ (c : Scope). c.kinds) same)) (λ j n at live spared. ap (λ (c : Scope). is_live (kind_at c.kinds n.local)) same ∙ live)

-- a name is declared after a buffer of this scope
pub acts_declared : (a : Scope) (name : List ℕ) (kind : Kind) (class : Option ℕ) (u t : Buffer) → Sole a.kinds a.names → u.scope ≡ a → is_free kind ≡ false → class_of kind ≡ class → declare name kind u ≡ Ok t → (1 ≤ frees a.kinds) × Acts a t.scope ((name, class) ∷ []) All
acts_declared a name kind class u t sole same held of_class h =
    let d = declare_is name kind u t h in
    let free : position is_free a.kinds ≡ Some d.0 = ap (λ (c : Scope). position is_free c.kinds) (sym same) ∙ d.1 in
    let names : t.scope.names ≡ a.names ++ record { name = name; local = d.0 } ∷ [] = ap (λ (x : Buffer). x.scope.names) d.2 ∙ ap (λ (c : Scope). c.names ++ record { name = name; local = d.0 } ∷ []) same in
    let kinds_are : t.scope.kinds ≡ set a.kinds d.0 kind = ap (λ (x : Buffer). x.scope.kinds) d.2 ∙ (set_twice u.scope.kinds d.0 kind ∙ ap (λ (c : Scope). set c.kinds d.0 kind) same) in
    let count = frees_taken a.kinds d.0 kind free held in
    let now : frees t.scope.kinds ≡ frees (set a.kinds d.0 kind) = ap frees kinds_are in (
      omega (arith, count),
      record {
        onto = onto_declared a t.scope name d.0 kind free held names kinds_are;
        frees = omega (arith, count, now);
        shaped = shaped_set a t.scope d.0 kind free kinds_are name sole names ∙ ap (λ c. of a ++ (name, c) ∷ []) of_class;
        spares = spares_set a t.scope d.0 kind free kinds_are sole;
      },
    )

module _ (schema : Schema) where
  -- ---- let, new

  let_acts : (name : List ℕ) (e : ExprTree) (s t : Buffer) → Sole s.scope.kinds s.scope.names → let_code schema name e s ≡ Ok t → Clean t → (1 ≤ frees s.scope.kinds) × Acts s.scope t.scope ((name, value_in (of s.scope) e) ∷ []) All
  unfolding let_code
  let_acts name e s t sole h clean =
      let one = bind_ok (expr_code schema STACK_LIMIT e s) (λ p. let_as name p.0 p.1) t h in by_made one.0.0 one.0.1 one.1 one.2
    where
      by_made : (made : Made) (u : Buffer) → expr_code schema STACK_LIMIT e s ≡ Ok (made, u) → let_as name made u ≡ Ok t → (1 ≤ frees s.scope.kinds) × Acts s.scope t.scope ((name, value_in (of s.scope) e) ∷ []) All
      by_made None u code_is h =
          let is = expr_class schema e STACK_LIMIT s u None sole code_is (ap (λ (x : Buffer). x.flaw) (same_ok u t h) ∙ clean) in absurd (let no = is.1 in cc)
      by_made (Some kind) u code_is h =
          let d = declare_is name kind u t h in
          let is = expr_class schema e STACK_LIMIT s u (Some kind) sole code_is (sym (ap (λ (x : Buffer). x.flaw) d.2) ∙ clean) in
          let same : kind ≡ is.0 = (let e = is.1 in cc) in
          acts_declared s.scope name kind (value_in (of s.scope) e) u t sole (keeps_ok behind s (expr_code schema STACK_LIMIT e s) (Some kind, u) code_is (expr_keeps schema e STACK_LIMIT s)).scope (ap is_free same ∙ is.3) (ap class_of same ∙ is.2) h

  new_acts : (name class : List ℕ) (s t : Buffer) → Sole s.scope.kinds s.scope.names → new_code schema name class s ≡ Ok t → Clean t → (1 ≤ frees s.scope.kinds) × Acts s.scope t.scope ((name, class_named schema class) ∷ []) All
  unfolding new_code
  new_acts name class s t sole h clean = by_class (class_named schema class) h
    where
      by_class : (o : Option ℕ) → new_of name o s ≡ Ok t → (1 ≤ frees s.scope.kinds) × Acts s.scope t.scope ((name, o) ∷ []) All
      by_class None h = never_noted Unknown s (ap (λ (x : Buffer). x.flaw) (same_ok (noted Unknown s) t h) ∙ clean)
      by_class (Some c) h =
          let one = bind_ok (put (ops.New c) s) (declare name (kinds.Ref c)) t h in
          acts_declared s.scope name (kinds.Ref c) (Some c) one.0 t sole (ap (λ (x : Buffer). x.scope) (put_ok (ops.New c) s one.0 one.1)) refl refl one.2

  -- ---- assignment

  abbrev other_than : Scope → (name : List ℕ) → ℕ → Bool
  other_than a name j = not (is_first (of a) name j)

  assign_acts : (name : List ℕ) (e : ExprTree) (s t : Buffer) → Sole s.scope.kinds s.scope.names → assign_code schema name e s ≡ Ok t → Clean t → Acts s.scope t.scope [] (λ j. not (is_first (of s.scope) name j))
  unfolding assign_code
  assign_acts name e s t sole h clean =
      let one = bind_ok (expr_code schema STACK_LIMIT e s) (λ p. assign_to schema (local_of p.1.scope name) p.0 p.1) t h in
      by_local one.0.0 one.0.1 (keeps_ok behind s (expr_code schema STACK_LIMIT e s) one.0 one.1 (expr_keeps schema e STACK_LIMIT s)).scope (local_of one.0.1.scope name) refl one.2
    where
      by_assigned : (kind : Kind) (u : Buffer) (local : ℕ) (o : Option Kind) → u.scope ≡ s.scope → assigned schema (kind_at u.scope.kinds local) kind ≡ o → local_of u.scope name ≡ Some local → assign_as local o u ≡ Ok t → Acts s.scope t.scope [] (other_than s.scope name)
      by_assigned kind u local None same known at h = never_noted WrongKind u (ap (λ (x : Buffer). x.flaw) (same_ok (noted WrongKind u) t h) ∙ clean)
      by_assigned kind u local (Some now) same becomes at h =
          let put_is = put_ok (ops.Store local) (with_kinds (set u.scope.kinds local now) u) t h in
          let named : local_of s.scope name ≡ Some local = ap (λ c. local_of c name) (sym same) ∙ at in
          let names : t.scope.names ≡ s.scope.names = ap (λ (x : Buffer). x.scope.names) put_is ∙ ap (λ (c : Scope). c.names) same in
          let kinds_are : t.scope.kinds ≡ set s.scope.kinds local now = ap (λ (x : Buffer). x.scope.kinds) put_is ∙ ap (λ (c : Scope). set c.kinds local now) same in
          let within = taken_within s.scope.kinds local (sole_named s.scope.kinds s.scope.names name local sole named) in
          let becomes_so = assigned_as schema (kind_at u.scope.kinds local) kind now becomes in
          let held : aged (kind_at s.scope.kinds local) ≡ aged now = ap (λ (c : Scope). aged (kind_at c.kinds local)) (sym same) ∙ assigned_aged (kind_at u.scope.kinds local) now becomes_so in
          acts_level s.scope t.scope (other_than s.scope name) sole
          (level_aged s.scope t.scope names (ap length kinds_are ∙ length-set s.scope.kinds local now) (λ i. by_same local now kinds_are within held i (one_or_other i local)))
          (spares_assigned s.scope t.scope name local now sole named kinds_are)
        where
          by_same : (local : ℕ) (now : Kind) → t.scope.kinds ≡ set s.scope.kinds local now → local < length s.scope.kinds → aged (kind_at s.scope.kinds local) ≡ aged now → (i : ℕ) → ((i ≡ local) ⊎ (i ≡ local → ⊥)) → aged (kind_at s.scope.kinds i) ≡ aged (kind_at t.scope.kinds i)
          by_same local now is within held i (inl e) =
              ap (λ l. aged (kind_at s.scope.kinds l)) e ∙ (held ∙ ap aged (sym (ap (kind_at t.scope.kinds) e ∙ (ap (λ ks. kind_at ks local) is ∙ at_same s.scope.kinds local now within))))
          by_same local now is within held i (inr apart) = ap aged (sym (ap (λ ks. kind_at ks i) is ∙ at_other s.scope.kinds local i now apart))

      by_local : (made : Made) (u : Buffer) → u.scope ≡ s.scope → (o : Option ℕ) → local_of u.scope name ≡ o → assign_to schema o made u ≡ Ok t → Acts s.scope t.scope [] (other_than s.scope name)
      by_local made u same None at h = never_noted Unknown u (ap (λ (x : Buffer). x.flaw) (same_ok (noted Unknown u) t h) ∙ clean)
      by_local None u same (Some local) at h = acts_same s.scope t.scope (other_than s.scope name) sole (ap (λ (x : Buffer). x.scope) (sym (same_ok u t h)) ∙ same)
      by_local (Some kind) u same (Some local) at h = by_assigned kind u local (assigned schema (kind_at u.scope.kinds local) kind) same refl at h

  -- ---- delete

  delete_acts : (unit : Variable) (s t : Buffer) → Sole s.scope.kinds s.scope.names → delete_code schema unit s ≡ Ok t → Clean t → Acts s.scope t.scope [] (λ j. not (is_struck schema (class_in (of s.scope) (name_of unit)) (class_at (of s.scope) j)))
  unfolding delete_code
  delete_acts unit s t sole h clean =
      let one = bind_ok (unit_code unit STACK_LIMIT s) (λ p. deleted schema p.0 p.1) t h in by_class one.0.0 one.0.1 one.1 one.2
    where
      by_class : (o : Option ℕ) (u : Buffer) → unit_code unit STACK_LIMIT s ≡ Ok (o, u) → deleted schema o u ≡ Ok t → Acts s.scope t.scope [] (λ j. not (is_struck schema (class_in (of s.scope) (name_of unit)) (class_at (of s.scope) j)))
      by_class None u code_is h =
          acts_same s.scope t.scope (λ j. not (is_struck schema (class_in (of s.scope) (name_of unit)) (class_at (of s.scope) j))) sole
          (ap (λ (x : Buffer). x.scope) (sym (same_ok u t h)) ∙ (keeps_ok behind s (unit_code unit STACK_LIMIT s) (None, u) code_is (unit_keeps unit STACK_LIMIT s)).scope)
      by_class (Some c) u code_is h =
          let one = bind_ok (put ops.Delete u) (λ x. Ok (with_kinds (map (struck schema c) x.scope.kinds) x)) t h in
          let put_is = put_ok ops.Delete u one.0 one.1 in
          let is : t ≡ with_kinds (map (struck schema c) u.scope.kinds) (with_op ops.Delete u) = sym (same_ok (with_kinds (map (struck schema c) one.0.scope.kinds) one.0) t one.2) ∙ ap (λ (x : Buffer). with_kinds (map (struck schema c) x.scope.kinds) x) put_is in
          let same : u.scope ≡ s.scope = (keeps_ok behind s (unit_code unit STACK_LIMIT s) (Some c, u) code_is (unit_keeps unit STACK_LIMIT s)).scope in
          let class : Some c ≡ class_in (of s.scope) (name_of unit) = unit_class_is unit STACK_LIMIT s u c code_is (sym (ap (λ (x : Buffer). x.flaw) is) ∙ clean) in
          let names : t.scope.names ≡ s.scope.names = ap (λ (x : Buffer). x.scope.names) is ∙ ap (λ (c : Scope). c.names) same in
          let kinds_are : t.scope.kinds ≡ map (struck schema c) s.scope.kinds = ap (λ (x : Buffer). x.scope.kinds) is ∙ ap (λ (x : Scope). map (struck schema c) x.kinds) same in
          subst (λ o. Acts s.scope t.scope [] (λ j. not (is_struck schema o (class_at (of s.scope) j)))) class
          (acts_level s.scope t.scope (λ j. not (is_struck schema (Some c) (class_at (of s.scope) j))) sole
          (level_aged s.scope t.scope names (ap length kinds_are ∙ length-map s.scope.kinds (struck schema c)) (λ i. sym (ap (λ ks. aged (kind_at ks i)) kinds_are ∙ (ap aged (struck_at schema c s.scope.kinds i) ∙ struck_aged schema c (kind_at s.scope.kinds i)))))
          (spares_struck schema s.scope t.scope c kinds_are))

  -- ---- all of them

  module _ (part : Part) (s t : Buffer) (sole : Sole s.scope.kinds s.scope.names) (clean : Clean t) where
    -- one more flaw changes nothing in a scope
    may : s.scope ≡ (effect_noted part s).scope
    may = sym (unless_flawed (is_ok (writes part)) Effect s).scope

    sole_noted : Sole (effect_noted part s).scope.kinds (effect_noted part s).scope.names
    sole_noted = subst (λ (c : Scope). Sole c.kinds c.names) may sole

    changed : (P : Scope → Type 0) → P (effect_noted part s).scope → P s.scope
    changed P p = subst P (sym may) p

    still_keeps_scope : (a : Action) → is_still schema a ≡ true → action_code schema part a s ≡ Ok t → t.scope ≡ s.scope
    still_keeps_scope a still h = (keeps_ok itself s (action_code schema part a s) t h (action_keeps schema part a s still)).scope

    pub action_acts : (a : Action) → action_code schema part a s ≡ Ok t → (adds (action a) ≤ frees s.scope.kinds) × Acts s.scope t.scope (added_by schema (of s.scope) (action a)) (action_spares schema (of s.scope) a)
    unfolding action_code
    action_acts (actions.Let name value) h = let_acts name value s t sole h clean
    action_acts (actions.Assign name value) h = (omega arith, assign_acts name value s t sole h clean)
    action_acts (actions.Rate value) h = (omega arith, acts_same s.scope t.scope (action_spares schema (of s.scope) (actions.Rate value)) sole (still_keeps_scope (actions.Rate value) refl h))
    action_acts actions.Decline h = (omega arith, acts_same s.scope t.scope (action_spares schema (of s.scope) actions.Decline) sole (still_keeps_scope actions.Decline refl h))
    action_acts (actions.Answer value) h = (omega arith, acts_same s.scope t.scope (action_spares schema (of s.scope) (actions.Answer value)) sole (still_keeps_scope (actions.Answer value) refl h))
    action_acts (actions.New name class) h = changed (λ c. (1 ≤ frees c.kinds) × Acts c t.scope ((name, class_named schema class) ∷ []) All) (new_acts name class (effect_noted part s) t sole_noted h clean)
    action_acts (actions.Delete unit) h = (omega arith, changed (λ c. Acts c t.scope [] (λ j. not (is_struck schema (class_in (of c) (name_of unit)) (class_at (of c) j)))) (delete_acts unit (effect_noted part s) t sole_noted h clean))
    action_acts (actions.Set unit slot value) h = (omega arith, acts_same s.scope t.scope (action_spares schema (of s.scope) (actions.Set unit slot value)) sole (still_keeps_scope (actions.Set unit slot value) refl h))
    action_acts (actions.Link unit slot other) h = (omega arith, acts_same s.scope t.scope (action_spares schema (of s.scope) (actions.Link unit slot other)) sole (still_keeps_scope (actions.Link unit slot other) refl h))
    action_acts (actions.Unlink unit slot other) h = (omega arith, acts_same s.scope t.scope (action_spares schema (of s.scope) (actions.Unlink unit slot other)) sole (still_keeps_scope (actions.Unlink unit slot other) refl h))
    action_acts (actions.Enter unit space) h = (omega arith, acts_same s.scope t.scope (action_spares schema (of s.scope) (actions.Enter unit space)) sole (still_keeps_scope (actions.Enter unit space) refl h))
    action_acts (actions.Leave unit space) h = (omega arith, acts_same s.scope t.scope (action_spares schema (of s.scope) (actions.Leave unit space)) sole (still_keeps_scope (actions.Leave unit space) refl h))
    action_acts (actions.Say values) h = (omega arith, acts_same s.scope t.scope (action_spares schema (of s.scope) (actions.Say values)) sole (still_keeps_scope (actions.Say values) refl h))
