-- Statements that change a unit.
use Rattle.std.proofs.Common.{◌≡◌, ℕ, ◌-◌, false, List, map, Option, Some, None, Result, Ok, Err, refl, subst, sym, ap, ◌∙◌}
use Rattle.bb_basis.specs.Results.{◌>>=◌}
use Rattle.bb_basis.proofs.ResultLemmas.{bind_ok, same_ok}
use Rattle.bb_schema_classes.specs.declared.kind.Link.{Link}
use Rattle.bb_code.specs.Code.{Code}
use Rattle.bb_code.specs.declared.parts.TheConstants.{STACK_LIMIT}
use Rattle.bb_code.specs.declared.op.LinkChange.{LinkChange}
use Rattle.bb_verify_effect.specs.Kinds.{struck}
use Rattle.bb_code.specs.declared.frame.Kind.{Kind}
use Rattle.bb_code.specs.declared.op.Op.{Op}
use Rattle.bb_code.specs.declared.op.Op.TheVariants as ops
use Rattle.bb_schema.specs.Schema.{Schema, space_named, descends}
use Rattle.bb_schema.specs.Spaces.{allowed}
use Rattle.bb_schema.specs.Fits as schemas
use Rattle.bb_lang.specs.Variable.{Variable}
use Rattle.bb_lang.specs.Action.TheVariants as actions
use Rattle.bb_lang.specs.Trees.{ExprTree}
use Rattle.bb_compile_scope.specs.declared.fault.TextFlaw.{TextFlaw}
use Rattle.bb_compile_scope.specs.declared.fault.TextFlaw.TheVariants.{Unknown, LinkClass, Space}
use Rattle.bb_compile_scope.specs.declared.scope.Scope.{Scope}
use Rattle.bb_compile_scope.specs.declared.scope.NamedLocal.{NamedLocal}
use Rattle.bb_compile_scope.specs.LocalKinds.{is_free, kind_at}
use Rattle.bb_compile_scope.specs.Scope.{name_of}
use Rattle.bb_compile_scope.specs.Slots.{value_slot, link_slot}
use Rattle.bb_theorem_accepted.specs.Buffer.{Buffer}
use Rattle.bb_theorem_accepted.specs.Buffers.{noted, due, known, put, with_kinds}
use Rattle.bb_theorem_accepted.specs.Operations.{Made}
use Rattle.bb_theorem_accepted.specs.Atoms.{unit_code}
use Rattle.bb_compile.specs.Expressions.{expr_code}
use Rattle.bb_compile.specs.Actions.{set_by, set_in, set_code, link_noted, relinked_by, relinked_in, relink_code, space_noted, entered, enter_code, left_space, leave_code, deleted, delete_code}
use Rattle.bb_board.specs.Board.{Board}
use Rattle.bb_board.specs.Spaces.{after_enter, after_leave}
use Rattle.bb_machine.specs.Changing.{State, after_change}
use Rattle.bb_machine.specs.Machine.{room}
use Rattle.bb_machine.specs.declared.value.Value.{Value}
use Rattle.bb_theorem_accepted.proofs.Laws.{Clean, Has, is_open, with_op, passed, never_noted, is_due, put_ok, put_clean, grown_op, has_before, clean_before, unit_ok}
use Rattle.bb_theorem_meaning.specs.Meaning.{Meaning, named}
use Rattle.bb_theorem_meaning.specs.Expressions.{value_of}
use Rattle.bb_theorem_meaning.specs.Statements as says
use Rattle.bb_theorem_meaning.specs.Statements.{Scene, in_world, where_named, created, set_to, relinked, moved, acted}
use Rattle.bb_theorem_meaning.proofs.ComeLemmas.{Comes}
use Rattle.bb_theorem_meaning.proofs.MeansLemmas.{Means}
use Rattle.bb_theorem_meaning.proofs.NameLemmas.{AreTaken}
use Rattle.bb_theorem_meaning.proofs.AtomLemmas.{Good, value_slot_ok, link_slot_ok, name_means}
use Rattle.bb_theorem_meaning.proofs.ExprLemmas.{expr_means}
use Rattle.bb_theorem_meaning.proofs.SceneLemmas.{AreApart, struck_at, all_struck}
use Rattle.bb_theorem_meaning.proofs.ActLemmas.{IsTidy, Last, Acts, OneLeaf, last_grown, last_put, last_clean, two_act, one_act}
use Rattle.bb_theorem_meaning.proofs.LeafLemmas.{deletes, leaves_space, enters_space, sets, relinks}

module _ (schema : Schema) (sf : schemas.Fits schema) (code : Code) (start : State) (good : (n : ℕ) (st : State) → Comes code start n (Ok st) → Good schema st.1) where
  anything : (n : ℕ) (st : State) → Comes code start n (Ok st) → Unit {0}
  anything n st c = tt

  abbrev Does : Buffer → Buffer → (Scene → Meaning Scene) → Type 0
  Does s t f = Acts code start s t f

  -- ---- a live unit by its name

  abbrev MeansUnit : Variable → Buffer → Buffer → Option ℕ → Type 0
  MeansUnit v s t class = (kind : Kind) × (c : ℕ) × (class ≡ Some c) × Means code start s t (Some kind) (λ b names. named (name_of v) names)

  unit_means : (v : Variable) (room : ℕ) (s t : Buffer) (class : Option ℕ) → unit_code v room s ≡ Ok (class, t) → Clean t → Has code t → MeansUnit v s t class
  unit_means v room s t class h clean has =
      let u = unit_ok v room s t class h clean in (u.0, u.1, u.3, name_means schema sf code start good v s t (Some u.0) clean has u.2)

  -- a unit is always known
  no_unit : {A : Type 0} (v : Variable) (room : ℕ) (s t : Buffer) → unit_code v room s ≡ Ok (None, t) → Clean t → Has code t → A
  no_unit v room s t h clean has = let u = unit_means v room s t None h clean has in absurd (let e = u.2 in cc)

  pub delete_does : (v : Variable) (s t : Buffer) → delete_code schema v s ≡ Ok t → Clean t → Has code t → Does s t (acted (actions.Delete v))
  unfolding delete_code acted
  delete_does v s t h clean has =
      let one = bind_ok (unit_code v STACK_LIMIT s) (λ p. deleted schema p.0 p.1) t h in by_class one.0.0 one.0.1 one.1 one.2
    where
      by_class : (class : Option ℕ) (u : Buffer) → unit_code v STACK_LIMIT s ≡ Ok (class, u) → deleted schema class u ≡ Ok t → Does s t (acted (actions.Delete v))
      by_class None u is h = let same = same_ok u t h in no_unit v STACK_LIMIT s u is (ap (λ (x : Buffer). x.flaw) same ∙ clean) (subst (Has code) (sym same) has)
      by_class (Some c) u is h =
          let two = bind_ok (put ops.Delete u) (λ x. Ok (with_kinds (map (struck schema c) x.scope.kinds) x)) t h in
          let put_is = put_ok ops.Delete u two.0 two.1 in
          let all : t ≡ with_kinds (map (struck schema c) u.scope.kinds) (with_op ops.Delete u) = sym (same_ok (with_kinds (map (struck schema c) two.0.scope.kinds) two.0) t two.2) ∙ ap (λ (x : Buffer). with_kinds (map (struck schema c) x.scope.kinds) x) put_is in
          let last : Last ops.Delete u t = record { ops = ap (λ (x : Buffer). x.ops) all; texts = ap (λ (x : Buffer). x.texts) all; queries = ap (λ (x : Buffer). x.queries) all; flaw = ap (λ (x : Buffer). x.flaw) all } in
          let m = unit_means v STACK_LIMIT s u (Some c) is (last_clean ops.Delete u t last clean) (has_before code u t (last_grown ops.Delete u t last) has) in
          let names_are : t.scope.names ≡ s.scope.names = ap (λ (x : Buffer). x.scope.names) all ∙ ap (λ (x : Scope). x.names) m.3.scope in
          let kinds_are : t.scope.kinds ≡ map (struck schema c) s.scope.kinds = ap (λ (x : Buffer). x.scope.kinds) all ∙ ap (λ (x : Scope). map (struck schema c) x.kinds) m.3.scope in
          one_act code start ops.Delete (λ b. Unit {0}) s u t (Some m.0) (λ b names. named (name_of v) names) (λ sc w. says.deleted w sc) anything m.3 last refl names_are
          (λ i taken. subst (λ ks. is_free (kind_at ks i) ≡ false) (sym kinds_are) (struck_at schema c s.scope.kinds i taken))
          (λ tidy. record {
            taken = subst (λ ks. AreTaken ks t.scope.names) (sym kinds_are) (subst (AreTaken (map (struck schema c) s.scope.kinds)) (sym names_are) (all_struck schema c s.scope.names s.scope.kinds tidy.taken));
            apart = subst AreApart (sym names_are) tidy.apart;
          })
          has (deletes code start s.scope.names)

  -- an op after a unit
  unit_act : (op : Op) (P : Board → Type 0) (v : Variable) (s u t : Buffer) (class : Option ℕ) (f : Scene → Value → Meaning Scene) → ((n : ℕ) (st : State) → Comes code start n (Ok st) → P st.1) → MeansUnit v s u class → t ≡ with_op op u → is_open op ≡ false → Has code t
      → ((ns : List NamedLocal) → OneLeaf code start ns op P f) → Does s t (λ scene. named (name_of v) scene.names >>= f scene)
  unit_act op P v s u t class f right m is closed has leaf =
      let scope : t.scope ≡ s.scope = ap (λ (x : Buffer). x.scope) is ∙ m.3.scope in
      one_act code start op P s u t (Some m.0) (λ b names. named (name_of v) names) f right m.3 (last_put op u t is) closed (ap (λ (x : Scope). x.names) scope) (λ i taken. subst (λ (x : Scope). is_free (kind_at x.kinds i) ≡ false) (sym scope) taken) (λ tidy. subst IsTidy (sym scope) tidy) has (leaf s.scope.names)

  pub enter_does : (v : Variable) (space : List ℕ) (s t : Buffer) → enter_code schema v space s ≡ Ok t → Clean t → Has code t → Does s t (acted (actions.Enter v space))
  unfolding enter_code acted
  enter_does v space s t h clean has =
      let one = bind_ok (unit_code v STACK_LIMIT s) (λ p. entered schema p.0 (space_named schema space) (known (space_named schema space) p.1)) t h in
      by_names one.0.0 one.0.1 (space_named schema space) refl one.1 one.2
    where
      by_names : (class : Option ℕ) (u : Buffer) (o : Option ℕ) → space_named schema space ≡ o → unit_code v STACK_LIMIT s ≡ Ok (class, u) → entered schema class o (known o u) ≡ Ok t → Does s t (acted (actions.Enter v space))
      by_names None u (Some k) at is h = let same = same_ok u t h in no_unit v STACK_LIMIT s u is (ap (λ (x : Buffer). x.flaw) same ∙ clean) (subst (Has code) (sym same) has)
      by_names None u None at is h = never_noted Unknown u (ap (λ (x : Buffer). x.flaw) (same_ok (noted Unknown u) t h) ∙ clean)
      by_names (Some c) u None at is h = never_noted Unknown u (ap (λ (x : Buffer). x.flaw) (same_ok (noted Unknown u) t h) ∙ clean)
      by_names (Some c) u (Some k) at is h =
          let put_is = put_clean (ops.Enter k) u (space_noted schema k c u) t (λ free. (passed (allowed schema k c) Space u free).1) h clean in
          let m = unit_means v STACK_LIMIT s u (Some c) is (clean_before (ops.Enter k) u t put_is clean) (has_before code u t (grown_op (ops.Enter k) u t put_is) has) in
          unit_act (ops.Enter k) (Good schema) v s u t (Some c) (λ sc w. moved (after_enter sc.board.schema) space w sc) good m put_is refl has (λ ns. enters_space code start ns schema space k at)

  pub leave_does : (v : Variable) (space : List ℕ) (s t : Buffer) → leave_code schema v space s ≡ Ok t → Clean t → Has code t → Does s t (acted (actions.Leave v space))
  unfolding leave_code acted
  leave_does v space s t h clean has =
      let one = bind_ok (unit_code v STACK_LIMIT s) (λ p. left_space (space_named schema space) p.1) t h in
      by_space one.0.0 one.0.1 (space_named schema space) refl one.1 one.2
    where
      by_space : (class : Option ℕ) (u : Buffer) (o : Option ℕ) → space_named schema space ≡ o → unit_code v STACK_LIMIT s ≡ Ok (class, u) → left_space o u ≡ Ok t → Does s t (acted (actions.Leave v space))
      by_space class u None at is h = never_noted Unknown u (ap (λ (x : Buffer). x.flaw) (same_ok (noted Unknown u) t h) ∙ clean)
      by_space class u (Some k) at is h =
          let put_is = put_ok (ops.Leave k) u t h in
          let m = unit_means v STACK_LIMIT s u class is (clean_before (ops.Leave k) u t put_is clean) (has_before code u t (grown_op (ops.Leave k) u t put_is) has) in
          unit_act (ops.Leave k) (Good schema) v s u t class (λ sc w. moved after_leave space w sc) good m put_is refl has (λ ns. leaves_space code start ns schema space k at)

  -- ---- set

  pub set_does : (v : Variable) (slot : List ℕ) (e : ExprTree) (s t : Buffer) → set_code schema v slot e s ≡ Ok t → Clean t → Has code t → Does s t (acted (actions.Set v slot e))
  unfolding set_code acted
  set_does v slot e s t h clean has =
      let one = bind_ok (unit_code v STACK_LIMIT s) (λ p. expr_code schema (STACK_LIMIT - 1) e p.1 >>= λ q. set_in schema p.0 slot q.0 q.1) t h in
      let two = bind_ok (expr_code schema (STACK_LIMIT - 1) e one.0.1) (λ q. set_in schema one.0.0 slot q.0 q.1) t one.2 in
      by_class one.0.0 one.0.1 two.0.0 two.0.1 one.1 two.1 two.2
    where
      by_slot : (class : Option ℕ) (c : ℕ) (u : Buffer) (made : Made) (w : Buffer) (r : Result (ℕ × Kind) TextFlaw) → value_slot schema c slot ≡ r → unit_code v STACK_LIMIT s ≡ Ok (class, u) → expr_code schema (STACK_LIMIT - 1) e u ≡ Ok (made, w) → set_by r made w ≡ Ok t
          → Does s t (acted (actions.Set v slot e))
      by_slot class c u made w (Err flaw) at is value h = never_noted flaw w (ap (λ (x : Buffer). x.flaw) (same_ok (noted flaw w) t h) ∙ clean)
      by_slot class c u made w (Ok p) at is value h =
          let put_is = put_clean (ops.Set p.0) w (due made p.1 w) t (is_due made p.1 w) h clean in
          let own = has_before code w t (grown_op (ops.Set p.0) w t put_is) has in
          let second = expr_means schema sf code start good e (STACK_LIMIT - 1) u w made value (clean_before (ops.Set p.0) w t put_is clean) own in
          let first = unit_means v STACK_LIMIT s u class is second.clean (has_before code u w second.grown own) in
          two_act code start (ops.Set p.0) (Good schema) s u w t (Some first.0) made (λ b names. named (name_of v) names) (λ b names. value_of b names e) (λ sc x y. set_to x slot y sc) good first.3 second
          (last_put (ops.Set p.0) w t put_is) refl (ap (λ (x : Buffer). x.scope) put_is) has (sets code start s.scope.names schema sf c p.0 slot (value_slot_ok schema c slot p at).0)

      by_class : (class : Option ℕ) (u : Buffer) (made : Made) (w : Buffer) → unit_code v STACK_LIMIT s ≡ Ok (class, u) → expr_code schema (STACK_LIMIT - 1) e u ≡ Ok (made, w) → set_in schema class slot made w ≡ Ok t → Does s t (acted (actions.Set v slot e))
      by_class None u made w is value h =
          let same = same_ok w t h in
          let own = subst (Has code) (sym same) has in
          let second = expr_means schema sf code start good e (STACK_LIMIT - 1) u w made value (ap (λ (x : Buffer). x.flaw) same ∙ clean) own in
          no_unit v STACK_LIMIT s u is second.clean (has_before code u w second.grown own)
      by_class (Some c) u made w is value h = by_slot (Some c) c u made w (value_slot schema c slot) refl is value h

  -- ---- link, unlink

  pub relink_does : (change : LinkChange) (v : Variable) (slot : List ℕ) (other : Variable) (s t : Buffer) → relink_code schema change v slot other s ≡ Ok t → Clean t → Has code t
      → Does s t (λ scene. named (name_of v) scene.names >>= λ x. named (name_of other) scene.names >>= λ y. relinked (after_change change scene.board.schema) slot x y scene)
  unfolding relink_code
  relink_does change v slot other s t h clean has =
      let one = bind_ok (unit_code v STACK_LIMIT s) (λ p. unit_code other (STACK_LIMIT - 1) p.1 >>= λ q. relinked_in schema change p.0 slot q.0 q.1) t h in
      let two = bind_ok (unit_code other (STACK_LIMIT - 1) one.0.1) (λ q. relinked_in schema change one.0.0 slot q.0 q.1) t one.2 in
      by_class one.0.0 one.0.1 two.0.0 two.0.1 one.1 two.1 two.2
    where
      link_right : (to : ℕ) (of : Option ℕ) (w : Buffer) → Clean (link_noted schema to of w) → link_noted schema to of w ≡ w
      link_right to None w free = refl
      link_right to (Some c) w free = (passed (descends schema c to) LinkClass w free).1

      by_slot : (class : Option ℕ) (c : ℕ) (u : Buffer) (of : Option ℕ) (w : Buffer) (r : Result (ℕ × Link) TextFlaw) → link_slot schema c slot ≡ r → unit_code v STACK_LIMIT s ≡ Ok (class, u) → unit_code other (STACK_LIMIT - 1) u ≡ Ok (of, w) → relinked_by schema change r of w ≡ Ok t
          → Does s t (λ scene. named (name_of v) scene.names >>= λ x. named (name_of other) scene.names >>= λ y. relinked (after_change change scene.board.schema) slot x y scene)
      by_slot class c u of w (Err flaw) at is also h = never_noted flaw w (ap (λ (x : Buffer). x.flaw) (same_ok (noted flaw w) t h) ∙ clean)
      by_slot class c u of w (Ok p) at is also h =
          let put_is = put_clean (ops.Relink change p.0) w (link_noted schema p.1.to of w) t (link_right p.1.to of w) h clean in
          let own = has_before code w t (grown_op (ops.Relink change p.0) w t put_is) has in
          let second = unit_means other (STACK_LIMIT - 1) u w of also (clean_before (ops.Relink change p.0) w t put_is clean) own in
          let first = unit_means v STACK_LIMIT s u class is second.3.clean (has_before code u w second.3.grown own) in
          two_act code start (ops.Relink change p.0) (Good schema) s u w t (Some first.0) (Some second.0) (λ b names. named (name_of v) names) (λ b names. named (name_of other) names) (λ sc x y. relinked (after_change change sc.board.schema) slot x y sc) good first.3 second.3
          (last_put (ops.Relink change p.0) w t put_is) refl (ap (λ (x : Buffer). x.scope) put_is) has (relinks code start s.scope.names schema sf c p.0 slot (link_slot_ok schema c slot p at) change)

      by_class : (class : Option ℕ) (u : Buffer) (of : Option ℕ) (w : Buffer) → unit_code v STACK_LIMIT s ≡ Ok (class, u) → unit_code other (STACK_LIMIT - 1) u ≡ Ok (of, w) → relinked_in schema change class slot of w ≡ Ok t → Does s t (λ scene. named (name_of v) scene.names >>= λ x. named (name_of other) scene.names >>= λ y. relinked (after_change change scene.board.schema) slot x y scene)
      by_class None u of w is also h =
          let same = same_ok w t h in
          let own = subst (Has code) (sym same) has in
          let second = unit_means other (STACK_LIMIT - 1) u w of also (ap (λ (x : Buffer). x.flaw) same ∙ clean) own in
          no_unit v STACK_LIMIT s u is second.3.clean (has_before code u w second.3.grown own)
      by_class (Some c) u of w is also h = by_slot (Some c) c u of w (link_slot schema c slot) refl is also h
