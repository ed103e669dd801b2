-- What the test of a `with` lays out, taken from what the compiler answers.
use Rattle.std.proofs.Common.{◌≡◌, ◌⊎◌, inl, inr, ℕ, Bool, true, false, cond, List, length, Option, Some, None, Result, Ok, Err, refl, subst, sym, ap, ◌∙◌}
use Rattle.bb_basis.specs.Results.{◌>>=◌, ok_or}
use Rattle.bb_basis.proofs.ResultLemmas.{bind_ok, ok_or_ok}
use Rattle.bb_code.specs.declared.parts.TheConstants.{STACK_LIMIT}
use Rattle.bb_code.specs.declared.frame.Kind.{Kind}
use Rattle.bb_code.specs.declared.frame.Kind.TheVariants.{Ref}
use Rattle.bb_code.specs.declared.op.Op.TheVariants as ops
use Rattle.bb_schema.specs.Schema.{Schema, class_named}
use Rattle.bb_lang.specs.Variable.{Variable}
use Rattle.bb_lang.specs.Binding.{Binding}
use Rattle.bb_lang.specs.Binding.TheVariants as bindings
use Rattle.bb_compile_scope.specs.Place.{Place}
use Rattle.bb_compile_scope.specs.declared.fault.CompileFault.{CompileFault}
use Rattle.bb_compile_scope.specs.declared.fault.CompileFault.TheVariants.{At}
use Rattle.bb_compile_scope.specs.declared.fault.TextFlaw.{TextFlaw}
use Rattle.bb_compile_scope.specs.declared.fault.TextFlaw.TheVariants.{Unknown, Kind as WrongKind}
use Rattle.bb_compile_scope.specs.Kinds.{class_of, is_live}
use Rattle.bb_compile_scope.specs.Slots.{partner_slot}
use Rattle.bb_compile_buffer.specs.declared.buffer.Buffer.{Buffer}
use Rattle.bb_compile_buffer.specs.Buffers.{noted, known, put, settled, declare}
use Rattle.bb_compile_buffer.specs.Operations.{Made}
use Rattle.bb_compile_buffer.specs.Atoms.{variable_code, unit_code}
use Rattle.bb_compile.specs.declared.exits.Exits.{Exits}
use Rattle.bb_compile.specs.Bindings.{one_exit, is_test, is_class, as_code, alive_and_as, alive_code, test_code, as_named, with_as, partner_by, partner_in, with_partner, binding_code}
use Rattle.bb_compile.specs.Statements.{with_code}
use Rattle.bb_theorem_accepted.proofs.buffers.BufferLemmas.{Clean, with_op, put_ok}
use Rattle.bb_theorem_accepted.proofs.buffers.PutLemmas.{pair_ok}
use Rattle.bb_theorem_accepted.proofs.blocks.BranchLemmas.{settled_clean}

-- the exits of two ops, one after the other
abbrev pub two_exits : (first second : ℕ) → Exits
two_exits first second = record { first = first; second = Some second }

-- ---- the ops of a test

-- a live unit is tested for its class
pub record OfClass (held : Kind) (class : ℕ) (a t : Buffer) (exits : Exits) : Type 0 where
  pub live : is_live held ≡ true
  pub put_is : t ≡ with_op (ops.As class 0) a
  pub exits_are : exits ≡ one_exit (length a.ops)

-- a unit of just this class, that it is live
pub record IsAlive (held : Kind) (class : ℕ) (a t : Buffer) (exits : Exits) : Type 0 where
  pub old : is_live held ≡ false
  pub same : is_class (class_of held) class ≡ true
  pub put_is : t ≡ with_op (ops.Alive 0) a
  pub exits_are : exits ≡ one_exit (length a.ops)

-- another unit for both
pub record IsBoth (held : Kind) (class : ℕ) (a t : Buffer) (exits : Exits) : Type 0 where
  pub old : is_live held ≡ false
  pub other : is_class (class_of held) class ≡ false
  pub put_is : t ≡ with_op (ops.As class 0) (with_op (ops.Alive 0) a)
  pub exits_are : exits ≡ two_exits (length a.ops) (length (with_op (ops.Alive 0) a).ops)

abbrev pub Tested : (held : Kind) → (class : ℕ) → (a t : Buffer) → Exits → Type 0
Tested held class a t exits = OfClass held class a t exits ⊎ (IsAlive held class a t exits ⊎ IsBoth held class a t exits)

tested : (held : Kind) (class : ℕ) (a t : Buffer) (exits : Exits) → test_code held class a ≡ Ok (exits, t) → Tested held class a t exits
unfolding as_code alive_code
tested held class a t exits h = by_live (is_live held) refl h
  where
    by_same : (b : Bool) → is_class (class_of held) class ≡ b → is_live held ≡ false → (u : Buffer) → u ≡ with_op (ops.Alive 0) a → (let r : Result (Exits × Buffer) CompileFault = cond b (Ok (one_exit (length a.ops), u)) (alive_and_as (length a.ops) class u) in r) ≡ Ok (exits, t) → Tested held class a t exits
    by_same true same old u is h = let p = pair_ok (one_exit (length a.ops)) exits u t h in inr (inl (record { old = old; same = same; put_is = sym p.1 ∙ is; exits_are = sym p.0 }))
    by_same false other old u is h =
        let one = bind_ok (put (ops.As class 0) u) (λ x. Ok (two_exits (length a.ops) (length u.ops), x)) (exits, t) h in
        let p = pair_ok (two_exits (length a.ops) (length u.ops)) exits one.0 t one.2 in
        inr (inr (record {
          old = old;
          other = other;
          put_is = sym p.1 ∙ (put_ok (ops.As class 0) u one.0 one.1 ∙ ap (with_op (ops.As class 0)) is);
          exits_are = sym p.0 ∙ ap (λ (x : Buffer). two_exits (length a.ops) (length x.ops)) is;
        }))

    by_live : (b : Bool) → is_live held ≡ b → (let r : Result (Exits × Buffer) CompileFault = cond b (as_code class a) (alive_code (is_class (class_of held) class) class a) in r) ≡ Ok (exits, t) → Tested held class a t exits
    by_live true live h =
        let one = bind_ok (put (ops.As class 0) a) (λ x. Ok (one_exit (length a.ops), x)) (exits, t) h in
        let p = pair_ok (one_exit (length a.ops)) exits one.0 t one.2 in
        inl (record { live = live; put_is = sym p.1 ∙ put_ok (ops.As class 0) a one.0 one.1; exits_are = sym p.0 })
    by_live false old h =
        let one = bind_ok (put (ops.Alive 0) a) (λ x. cond (is_class (class_of held) class) (Ok (one_exit (length a.ops), x)) (alive_and_as (length a.ops) class x)) (exits, t) h in
        by_same (is_class (class_of held) class) refl old one.0 (put_ok (ops.Alive 0) a one.0 one.1) one.2

-- ---- the whole

module _ (schema : Schema) where
  -- name = unit as class
  pub record AsLaid (name : List ℕ) (unit : Variable) (class : List ℕ) (s u : Buffer) (exits : Exits) : Type 0 where
    pub held : Kind
    pub of : ℕ
    pub behind : Buffer
    pub code_is : variable_code unit STACK_LIMIT s ≡ Ok (Some held, behind)
    pub named : class_named schema class ≡ Some of
    pub may : is_test schema held of ≡ true
    pub test : Buffer
    pub test_is : Tested held of behind test exits
    pub declared : declare name (Ref of) test ≡ Ok u

  -- name = unit.slot
  pub record LinkLaid (name : List ℕ) (unit : Variable) (slot : List ℕ) (s u : Buffer) (exits : Exits) : Type 0 where
    pub class : ℕ
    pub behind : Buffer
    pub code_is : unit_code unit STACK_LIMIT s ≡ Ok (Some class, behind)
    pub at : ℕ × ℕ
    pub slot_is : partner_slot schema class slot ≡ Ok at
    pub test : Buffer
    pub put_is : test ≡ with_op (ops.One at.0 0) behind
    pub exits_are : exits ≡ one_exit (length behind.ops)
    pub declared : declare name (Ref at.1) test ≡ Ok u

  abbrev pub HeadLaid : Binding → (s u : Buffer) → Exits → Type 0
  HeadLaid (bindings.As name unit class) s u exits = AsLaid name unit class s u exits
  HeadLaid (bindings.Linked name unit slot) s u exits = LinkLaid name unit slot s u exits

  as_laid : (name : List ℕ) (unit : Variable) (class : List ℕ) (s u : Buffer) (exits : Exits) → with_as schema name unit class s ≡ Ok (Some exits, u) → AsLaid name unit class s u exits
  unfolding with_as
  as_laid name unit class s u exits h =
      let one = bind_ok (variable_code unit STACK_LIMIT s) (λ p. as_named schema name p.0 (class_named schema class) (known (class_named schema class) p.1)) (Some exits, u) h in
      by_made one.0.0 one.0.1 (class_named schema class) refl one.1 one.2
    where
      by_test : (held : Kind) (c : ℕ) (a : Buffer) → variable_code unit STACK_LIMIT s ≡ Ok (Some held, a) → class_named schema class ≡ Some c → (b : Bool) → is_test schema held c ≡ b
          → (let r : Result (Option Exits × Buffer) CompileFault = cond b (test_code held c a >>= λ p. declare name (Ref c) p.1 >>= λ x. Ok (Some p.0, x)) (Ok (None, noted WrongKind a)) in r) ≡ Ok (Some exits, u) → AsLaid name unit class s u exits
      by_test held c a code_is at true may h =
          let one = bind_ok (test_code held c a) (λ p. declare name (Ref c) p.1 >>= λ x. Ok (Some p.0, x)) (Some exits, u) h in
          let two = bind_ok (declare name (Ref c) one.0.1) (λ x. Ok (Some one.0.0, x)) (Some exits, u) one.2 in
          let p = pair_ok (Some one.0.0) (Some exits) two.0 u two.2 in
          let same : one.0.0 ≡ exits = let e : Some one.0.0 ≡ Some exits = p.0 in cc in
          record {
            held = held;
            of = c;
            behind = a;
            code_is = code_is;
            named = at;
            may = may;
            test = one.0.1;
            test_is = subst (Tested held c a one.0.1) same (tested held c a one.0.1 one.0.0 one.1);
            declared = two.1 ∙ ap (λ x. Ok x) p.1;
          }
      by_test held c a code_is at false may h = absurd (let p = pair_ok None (Some exits) (noted WrongKind a) u h in let no : None ≡ Some exits = p.0 in cc)

      by_made : (made : Made) (a : Buffer) (o : Option ℕ) → class_named schema class ≡ o → variable_code unit STACK_LIMIT s ≡ Ok (made, a) → as_named schema name made o (known o a) ≡ Ok (Some exits, u) → AsLaid name unit class s u exits
      by_made (Some held) a (Some c) at code_is h = by_test held c a code_is at (is_test schema held c) refl h
      by_made (Some held) a None at code_is h = absurd (let p = pair_ok None (Some exits) (known None a) u h in let no : None ≡ Some exits = p.0 in cc)
      by_made None a o at code_is h = absurd (let p = pair_ok None (Some exits) (known o a) u h in let no : None ≡ Some exits = p.0 in cc)

  link_laid : (name : List ℕ) (unit : Variable) (slot : List ℕ) (s u : Buffer) (exits : Exits) → with_partner schema name unit slot s ≡ Ok (Some exits, u) → LinkLaid name unit slot s u exits
  unfolding with_partner
  link_laid name unit slot s u exits h =
      let one = bind_ok (unit_code unit STACK_LIMIT s) (λ p. partner_in schema name slot p.0 p.1) (Some exits, u) h in
      by_class one.0.0 one.0.1 one.1 one.2
    where
      by_slot : (class : ℕ) (a : Buffer) → unit_code unit STACK_LIMIT s ≡ Ok (Some class, a) → (r : Result (ℕ × ℕ) TextFlaw) → partner_slot schema class slot ≡ r → partner_by name r a ≡ Ok (Some exits, u) → LinkLaid name unit slot s u exits
      by_slot class a code_is (Err flaw) is h = absurd (let p = pair_ok None (Some exits) (noted flaw a) u h in let no : None ≡ Some exits = p.0 in cc)
      by_slot class a code_is (Ok at) is h =
          let one = bind_ok (put (ops.One at.0 0) a) (λ t. declare name (Ref at.1) t >>= λ x. Ok (Some (one_exit (length a.ops)), x)) (Some exits, u) h in
          let two = bind_ok (declare name (Ref at.1) one.0) (λ x. Ok (Some (one_exit (length a.ops)), x)) (Some exits, u) one.2 in
          let p = pair_ok (Some (one_exit (length a.ops))) (Some exits) two.0 u two.2 in
          record {
            class = class;
            behind = a;
            code_is = code_is;
            at = at;
            slot_is = is;
            test = one.0;
            put_is = put_ok (ops.One at.0 0) a one.0 one.1;
            exits_are = let e : Some (one_exit (length a.ops)) ≡ Some exits = p.0 in cc;
            declared = two.1 ∙ ap (λ x. Ok x) p.1;
          }

      by_class : (o : Option ℕ) (a : Buffer) → unit_code unit STACK_LIMIT s ≡ Ok (o, a) → partner_in schema name slot o a ≡ Ok (Some exits, u) → LinkLaid name unit slot s u exits
      by_class None a code_is h = absurd (let p = pair_ok None (Some exits) a u h in let no : None ≡ Some exits = p.0 in cc)
      by_class (Some class) a code_is h = by_slot class a code_is (partner_slot schema class slot) refl h

  head_laid : (binding : Binding) (s u : Buffer) (exits : Exits) → binding_code schema binding s ≡ Ok (Some exits, u) → HeadLaid binding s u exits
  head_laid (bindings.As name unit class) s u exits h = as_laid name unit class s u exits h
  head_laid (bindings.Linked name unit slot) s u exits h = link_laid name unit slot s u exits h

  pub binding_laid : (binding : Binding) (place : Place) (s u : Buffer) (exits : Exits) → with_code schema binding place s ≡ Ok (exits, u) → HeadLaid binding s u exits × Clean u
  unfolding with_code
  binding_laid binding place s u exits h =
      let one = bind_ok (binding_code schema binding s) (λ p. settled place p.1 >>= λ _. ok_or p.0 (At Unknown place) >>= λ e. Ok (e, p.1)) (exits, u) h in
      let two = bind_ok (settled place one.0.1) (λ _. ok_or one.0.0 (At Unknown place) >>= λ e. Ok (e, one.0.1)) (exits, u) one.2 in
      let three = bind_ok (ok_or one.0.0 (At Unknown place)) (λ e. Ok (e, one.0.1)) (exits, u) two.2 in
      let p = pair_ok three.0 exits one.0.1 u three.2 in
      let found : one.0.0 ≡ Some exits = ok_or_ok (At Unknown place) one.0.0 three.0 three.1 ∙ ap (λ e. Some e) p.0 in (
        head_laid binding s u exits (one.1 ∙ (ap (λ o. Ok (o, one.0.1)) found ∙ ap (λ x. Ok (Some exits, x)) p.1)),
        ap (λ (x : Buffer). x.flaw) (sym p.1) ∙ settled_clean place one.0.1.flaw two.0 two.1,
      )
