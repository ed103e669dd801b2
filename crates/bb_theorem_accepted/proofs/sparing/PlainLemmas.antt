-- What an expression makes that is no name is no unit; and each makes something, or is a flaw. A chain without steps is
-- its first operand.
use Rattle.std.proofs.Common.{◌≡◌, ℕ, ◌-◌, false, List, Option, Some, None, Result, Ok, Err, refl, subst, sym, ap, ◌∙◌}
use Rattle.std.specs.Prelude.{option_and_then, option_map}
use Rattle.bb_basis.specs.Results.{◌>>=◌}
use Rattle.bb_basis.proofs.ResultLemmas.{bind_ok, same_ok}
use Rattle.bb_schema_classes.specs.declared.kind.Kind.{Kind as SlotKind}
use Rattle.bb_schema_classes.specs.declared.kind.Kind.TheVariants as held
use Rattle.bb_schema.specs.Schema.{Schema, label_set_named, label_named}
use Rattle.bb_code.specs.declared.frame.Kind.{Kind}
use Rattle.bb_code.specs.declared.frame.Kind.TheVariants as kinds
use Rattle.bb_code.specs.declared.op.Op.TheVariants as ops
use Rattle.bb_lang.specs.Atom.{Atom}
use Rattle.bb_lang.specs.Atom.TheVariants as atoms
use Rattle.bb_lang.specs.Trees.{ExprTree, atom, unary, binary, chain, size_of, no_step, apply, divide}
use Rattle.bb_lang.specs.Variable.{Variable}
use Rattle.bb_compile_scope.specs.declared.fault.CompileFault.{CompileFault}
use Rattle.bb_compile_scope.specs.declared.fault.TextFlaw.{TextFlaw}
use Rattle.bb_compile_scope.specs.declared.fault.TextFlaw.TheVariants.{Unknown}
use Rattle.bb_compile_scope.specs.Kinds.{class_of}
use Rattle.bb_compile_scope.specs.LocalKinds.{is_free, kind_at}
use Rattle.bb_compile_scope.specs.Scope.{name_of}
use Rattle.bb_compile_scope.specs.Slots.{slot_of, value_in, value_slot}
use Rattle.bb_compile_buffer.specs.declared.buffer.Buffer.{Buffer}
use Rattle.bb_compile_buffer.specs.Buffers.{noted, put, text_index}
use Rattle.bb_compile_buffer.specs.Operations.{Made, unary_code, binary_code}
use Rattle.bb_compile_buffer.specs.Atoms.{pushed, unit_code, gotten, got_from, slot_code, text_noted, text_code, label_of, label_in, label_code, atom_code}
use Rattle.bb_compile.specs.Expressions.{expr_code, steps_code, sequence_code}
use Rattle.bb_theorem_accepted.proofs.buffers.BufferLemmas.{Clean, never_noted}
use Rattle.bb_theorem_accepted.proofs.buffers.PutLemmas.{pair_ok, variable_ok, unit_ok, pushed_ok}
use Rattle.bb_theorem_accepted.proofs.sparing.SpareLemmas.{class_is, sole_named}
use Rattle.bb_theorem_accepted.proofs.sparing.SpareLemmas as spare
use Rattle.bb_theorem_accepted.proofs.kinds.MoveLemmas.{Sole}
use Rattle.bb_theorem_accepted.proofs.sparing.ShapeLemmas.{of}
use Rattle.bb_theorem_accepted.proofs.kinds.MadeLemmas as making

-- a value that is no unit
abbrev IsValue : Kind → Type 0
IsValue k = (class_of k ≡ None) × (is_free k ≡ false)

abbrev IsPlain : Made → Type 0
IsPlain None = ⊥
IsPlain (Some k) = IsValue k

module _ (s : Schema) where
  -- ---- expressions without parts

  plain_slot : (slot : ℕ) (k : SlotKind) (p : ℕ × Kind) → value_in slot k ≡ Ok p → IsValue p.1
  plain_slot slot held.Int p h = subst (λ (q : ℕ × Kind). IsValue q.1) (same_ok (slot, kinds.Int) p h) (refl, refl)
  plain_slot slot held.Text p h = subst (λ (q : ℕ × Kind). IsValue q.1) (same_ok (slot, kinds.Text) p h) (refl, refl)
  plain_slot slot held.Bool p h = subst (λ (q : ℕ × Kind). IsValue q.1) (same_ok (slot, kinds.Bool) p h) (refl, refl)
  plain_slot slot (held.Label set) p h = subst (λ (q : ℕ × Kind). IsValue q.1) (same_ok (slot, kinds.Label set) p h) (refl, refl)
  plain_slot slot held.Interval p h = subst (λ (q : ℕ × Kind). IsValue q.1) (same_ok (slot, kinds.Interval) p h) (refl, refl)
  plain_slot slot (held.Link link) p h = absurd cc

  value_plain : (c : ℕ) (slot : List ℕ) (p : ℕ × Kind) → value_slot s c slot ≡ Ok p → IsValue p.1
  unfolding value_slot
  value_plain c slot p h = let one = bind_ok (slot_of s c slot) (λ q. value_in q.0 q.1) p h in plain_slot one.0.0 one.0.1 p one.2

  slot_plain : (v : Variable) (slot : List ℕ) (room : ℕ) (t u : Buffer) (made : Made) → slot_code s v slot room t ≡ Ok (made, u) → Clean u → IsPlain made
  unfolding slot_code
  slot_plain v slot room t u made h clean =
      let one = bind_ok (unit_code v room t) (λ p. got_from s slot p.0 p.1) (made, u) h in by_class one.0.0 one.0.1 one.1 one.2
    where
      by_slot : (c : ℕ) (r : Result (ℕ × Kind) TextFlaw) → value_slot s c slot ≡ r → (w : Buffer) → gotten r w ≡ Ok (made, u) → IsPlain made
      by_slot c (Err flaw) at w h = never_noted flaw w (ap (λ (x : Buffer). x.flaw) (pair_ok None made (noted flaw w) u h).1 ∙ clean)
      by_slot c (Ok p) at w h =
          let one = bind_ok (put (ops.Get p.0) w) (λ x. Ok (Some p.1, x)) (made, u) h in
          subst IsPlain (pair_ok (Some p.1) made one.0 u one.2).0 (value_plain c slot p at)

      by_class : (class : Option ℕ) (w : Buffer) → unit_code v room t ≡ Ok (class, w) → got_from s slot class w ≡ Ok (made, u) → IsPlain made
      by_class None w unit h =
          let same = (pair_ok None made w u h).1 in
          let is = unit_ok v room t w None unit (ap (λ (x : Buffer). x.flaw) same ∙ clean) in
          absurd (let e = is.3 in cc)
      by_class (Some c) w unit h = by_slot c (value_slot s c slot) refl w h

  label_plain : (set label : List ℕ) (room : ℕ) (t u : Buffer) (made : Made) → label_code s set label room t ≡ Ok (made, u) → Clean u → IsPlain made
  unfolding label_code
  label_plain set label room t u made h clean = by_set (label_set_named s set) h
    where
      by_label : (k : ℕ) (o : Option ℕ) → label_of k o room t ≡ Ok (made, u) → IsPlain made
      by_label k None h = subst IsPlain (pair_ok (Some (kinds.Label k)) made (noted Unknown t) u h).0 (refl, refl)
      by_label k (Some l) h = subst IsPlain (sym (pushed_ok (ops.PushLabel k l) (kinds.Label k) room t u made h clean).1) (refl, refl)

      by_set : (o : Option ℕ) → label_in s label o room t ≡ Ok (made, u) → IsPlain made
      by_set None h = never_noted Unknown t (ap (λ (x : Buffer). x.flaw) (pair_ok None made (noted Unknown t) u h).1 ∙ clean)
      by_set (Some k) h = by_label k (label_named s k label) h

  text_plain : (text : List ℕ) (room : ℕ) (t u : Buffer) (made : Made) → text_code text room t ≡ Ok (made, u) → Clean u → IsPlain made
  unfolding text_code
  text_plain text room t u made h clean =
      let one = bind_ok (text_index text (text_noted text t)) (λ p. pushed (ops.PushText p.0) kinds.Text room p.1) (made, u) h in
      subst IsPlain (sym (pushed_ok (ops.PushText one.0.0) kinds.Text room one.0.1 u made one.2 clean).1) (refl, refl)

  -- ---- all expressions

  gives_ok : (r : Result (Made × Buffer) CompileFault) (made : Made) (u : Buffer) → r ≡ Ok (made, u) → making.Makes IsPlain r → IsPlain made
  gives_ok r made u is g = subst (making.Makes IsPlain) is g

  -- what an expression makes has the class that its name has
  pub expr_class : (e : ExprTree) (room : ℕ) (t u : Buffer) (made : Made) → Sole t.scope.kinds t.scope.names → expr_code s room e t ≡ Ok (made, u) → Clean u → (kind : Kind) × (made ≡ Some kind) × (class_of kind ≡ spare.value_in (of t.scope) e) × (is_free kind ≡ false)
  unfolding expr_code steps_code atom_code
  expr_class e room t u made sole h clean = by_expr e h
    where
      plain : (made : Made) → IsPlain made → (kind : Kind) × (made ≡ Some kind) × (class_of kind ≡ None) × (is_free kind ≡ false)
      plain None own = absurd own
      plain (Some k) own = (k, refl, own.0, own.1)

      by_atom : (a : Atom) → atom_code s room a t ≡ Ok (made, u) → (kind : Kind) × (made ≡ Some kind) × (class_of kind ≡ spare.value_in (of t.scope) (atom a)) × (is_free kind ≡ false)
      by_atom (atoms.Int n) h = plain made (subst IsPlain (sym (pushed_ok (ops.PushInt n) kinds.Int room t u made h clean).1) (refl, refl))
      by_atom (atoms.Text text) h = plain made (text_plain text room t u made h clean)
      by_atom (atoms.Bool b) h = plain made (subst IsPlain (sym (pushed_ok (ops.PushBool b) kinds.Bool room t u made h clean).1) (refl, refl))
      by_atom (atoms.Label set label) h = plain made (label_plain set label room t u made h clean)
      by_atom (atoms.Variable v) h =
          let is = variable_ok v room t u made h clean in
          (kind_at t.scope.kinds is.0, is.3, ap (λ o. option_and_then class_of (option_map (kind_at t.scope.kinds) o)) (sym is.1) ∙ class_is t.scope.kinds t.scope.names (name_of v), sole_named t.scope.kinds t.scope.names (name_of v) is.0 sole is.1)
      by_atom (atoms.Slot unit slot) h = plain made (slot_plain unit slot room t u made h clean)

      by_expr : (e : ExprTree) → expr_code s room e t ≡ Ok (made, u) → (kind : Kind) × (made ≡ Some kind) × (class_of kind ≡ spare.value_in (of t.scope) e) × (is_free kind ≡ false)
      by_expr (atom a) h = by_atom a h
      by_expr (unary operation e) h =
          plain made (gives_ok (expr_code s room e t >>= λ p. unary_code operation p.0 p.1) made u h (making.makes_then IsPlain (expr_code s room e t) (λ p. unary_code operation p.0 p.1) (λ p. making.unary_makes IsPlain (refl, refl) (refl, refl) (refl, refl) operation p.0 p.1)))
      by_expr (binary operation l r) h =
          plain made (gives_ok (expr_code s room l t >>= λ p. expr_code s (room - 1) r p.1 >>= λ q. binary_code operation p.0 q.0 q.1) made u h
          (making.makes_then IsPlain (expr_code s room l t) (λ p. expr_code s (room - 1) r p.1 >>= λ q. binary_code operation p.0 q.0 q.1)
          (λ p. making.makes_then IsPlain (expr_code s (room - 1) r p.1) (λ q. binary_code operation p.0 q.0 q.1) (λ q. making.binary_makes IsPlain (refl, refl) (refl, refl) (refl, refl) operation p.0 q.0 q.1))))
      by_expr (chain first no_step) h = let one = bind_ok (expr_code s room first t) (λ p. steps_code s room p.0 no_step p.1) (made, u) h in by_expr first (one.1 ∙ one.2)
      by_expr (chain first (apply operator e steps)) h =
          plain made (gives_ok (expr_code s room first t >>= λ p. steps_code s room p.0 (apply operator e steps) p.1) made u h
          (making.makes_then IsPlain (expr_code s room first t) (λ p. steps_code s room p.0 (apply operator e steps) p.1) (λ p. making.steps_make IsPlain (refl, refl) (refl, refl) (refl, refl) s (apply operator e steps) room p.0 p.1 tt)))
      by_expr (chain first (divide division divisor steps)) h =
          plain made (gives_ok (expr_code s room first t >>= λ p. steps_code s room p.0 (divide division divisor steps) p.1) made u h
          (making.makes_then IsPlain (expr_code s room first t) (λ p. steps_code s room p.0 (divide division divisor steps) p.1) (λ p. making.steps_make IsPlain (refl, refl) (refl, refl) (refl, refl) s (divide division divisor steps) room p.0 p.1 tt)))
      by_expr (size_of sequence) h =
          plain made (gives_ok (sequence_code s room sequence t >>= λ p. put ops.Size p.1 >>= λ w. Ok (Some kinds.Int, w)) made u h
          (making.makes_then IsPlain (sequence_code s room sequence t) (λ p. put ops.Size p.1 >>= λ w. Ok (Some kinds.Int, w)) (λ p. making.makes_then IsPlain (put ops.Size p.1) (λ w. Ok (Some kinds.Int, w)) (λ w. (refl, refl)))))

-- the class of a unit is that of its name
pub unit_class_is : (v : Variable) (room : ℕ) (t u : Buffer) (c : ℕ) → unit_code v room t ≡ Ok (Some c, u) → Clean u → Some c ≡ spare.class_in (of t.scope) (name_of v)
unit_class_is v room t u c h clean =
    let own = unit_ok v room t u (Some c) h clean in
    let kind_is : own.0 ≡ kind_at t.scope.kinds own.2.0 = (let e = own.2.3 in cc) in
    let class_is_c : own.1 ≡ c = (let e = own.3 in cc) in
    ap (λ x. Some x) (sym class_is_c) ∙ (sym own.4 ∙ (ap class_of kind_is ∙ (ap (λ o. option_and_then class_of (option_map (kind_at t.scope.kinds) o)) (sym own.2.1) ∙ class_is t.scope.kinds t.scope.names (name_of v))))
