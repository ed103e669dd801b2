-- The heads of statements with blocks stay within the limits of codes.
use Rattle.std.proofs.Common.{◌≡◌, ℕ, Bool, true, false, cond, List, length, Option, Some, None, Result, Ok, Err, refl, arith}
use Rattle.std.specs.Prelude.{◌==◌}
use Rattle.std.proofs.lemmas.Bool.{and_from}
use Rattle.bb_basis.specs.Results.{◌>>=◌, ok_or}
use Rattle.bb_code.specs.declared.parts.TheConstants.{STACK_LIMIT, LOCAL_LIMIT}
use Rattle.bb_schema.specs.Fits.{Fits}
use Rattle.bb_code.specs.declared.frame.Kind.{Kind}
use Rattle.bb_code.specs.declared.frame.Kind.TheVariants as kinds
use Rattle.bb_code.specs.declared.op.Op.TheVariants as put_ops
use Rattle.bb_schema.specs.Schema.{Schema, class_named}
use Rattle.bb_lang.specs.Binding.{Binding}
use Rattle.bb_lang.specs.Binding.TheVariants as bindings
use Rattle.bb_lang.specs.Sequence.{Sequence}
use Rattle.bb_lang.specs.Trees.{ExprTree}
use Rattle.bb_lang.specs.View.{sequence_of}
use Rattle.bb_compile_scope.specs.Kinds.{class_of, is_live}
use Rattle.bb_compile_scope.specs.Place.{Place}
use Rattle.bb_compile_scope.specs.Slots.{partner_slot}
use Rattle.bb_compile_scope.specs.declared.fault.CompileFault.TheVariants.{At}
use Rattle.bb_compile_scope.specs.declared.fault.TextFlaw.{TextFlaw}
use Rattle.bb_compile_scope.specs.declared.fault.TextFlaw.TheVariants.{Unknown, Kind as WrongKind, Limit}
use Rattle.bb_compile_buffer.specs.declared.buffer.Buffer.{Buffer}
use Rattle.bb_compile_buffer.specs.Atoms.{variable_code, unit_code}
use Rattle.bb_compile_buffer.specs.Buffers.{noted, due, settled, known, put, take_local, declare}
use Rattle.bb_compile_buffer.specs.Within.{byte, two_bytes}
use Rattle.bb_compile.specs.declared.exits.Exits.{Exits}
use Rattle.bb_compile.specs.Bindings.{one_exit, is_test, is_class, as_code, alive_and_as, alive_code, test_code, bound_as, as_named, with_as, partner_by, partner_in, with_partner, binding_code}
use Rattle.bb_compile.specs.Expressions.{expr_code, sequence_code}
use Rattle.bb_compile.specs.Statements.{if_code, with_code, loop_noted, for_code}
use Rattle.bb_theorem_grammar.specs.judged.Held.{expr_held, sequence_held}
use Rattle.bb_theorem_grammar.proofs.judged_lemmas.within.FineExprs.{Kinded, Classed, variable_goes, unit_goes}
use Rattle.bb_theorem_grammar.proofs.judged_lemmas.within.FineLemmas.{onto_same, Goes, Anything, goes_then, goes_from, goes_settled, itself, second, onto_noted, onto_if, onto_due, onto_known, HasOp, put_goes}
use Rattle.bb_theorem_grammar.proofs.judged_lemmas.within.FineNames.{Located, take_goes, declare_goes}
use Rattle.bb_theorem_grammar.proofs.judged_lemmas.within.FineQueries.{expr_goes, sequence_goes}
use Rattle.bb_theorem_grammar.proofs.judged_lemmas.within.WithinLists.{byte_within}
use Rattle.bb_theorem_grammar.proofs.judged_lemmas.within.WithinSchema.{InTwoBytes, IsPartnerSlot, class_in, partner_in_two}

-- the head has put an op
abbrev pub Headed : Exits × Buffer → Type 0
Headed p = HasOp p.1

-- where the test is there, an op was put
abbrev pub Tests : Option Exits → Buffer → Type 0
Tests None t = Unit {0}
Tests (Some exits) t = HasOp t

abbrev pub Binds : Option Exits × Buffer → Type 0
Binds p = Tests p.0 p.1

module _ (schema : Schema) (sf : Fits schema) where
  -- ---- `if`

  pub if_goes : (condition : ExprTree) (at : Place) (s : Buffer) → expr_held condition ≡ true → Goes second Headed s (if_code schema condition at s)
  unfolding if_code
  if_goes condition at s held =
      goes_then second second Kinded Headed s (expr_code schema STACK_LIMIT condition s) _ (expr_goes schema sf condition STACK_LIMIT s held)
      (λ p kind. goes_from second Headed p.1 (due p.0 kinds.Bool p.1) (put (put_ops.Unless 0) (due p.0 kinds.Bool p.1) >>= λ u. settled at u >>= λ right. Ok (one_exit (length p.1.ops), u)) (onto_due p.0 kinds.Bool p.1)
      (goes_then itself second HasOp Headed (due p.0 kinds.Bool p.1) (put (put_ops.Unless 0) (due p.0 kinds.Bool p.1)) _ (put_goes (put_ops.Unless 0) (due p.0 kinds.Bool p.1) (λ clean. refl))
      (λ u some. goes_settled second Headed at u u (Ok (one_exit (length p.1.ops), u)) (λ f. (onto_same u f, some)))))

  -- ---- `with`

  as_goes : (held : Kind) (class : ℕ) (s : Buffer) → two_bytes class ≡ true → Goes (second {X = Exits}) Anything s (test_code held class s)
  unfolding as_code alive_code
  as_goes held class s small = by_live (is_live held)
    where
      by_same : (b : Bool) (t : Buffer) → Goes (second {X = Exits}) Anything t (cond b (Ok (one_exit (length s.ops), t)) (alive_and_as (length s.ops) class t))
      by_same true t = λ f. (onto_same t f, tt)
      by_same false t =
          goes_then itself (second {X = Exits}) HasOp Anything t (put (put_ops.As class 0) t) _ (put_goes (put_ops.As class 0) t (λ clean. and_from (two_bytes class) (two_bytes 0) small refl)) (λ u some f. (onto_same u f, tt))

      by_live : (b : Bool) → Goes (second {X = Exits}) Anything s (cond b (as_code class s) (alive_code (is_class (class_of held) class) class s))
      by_live true =
          goes_then itself (second {X = Exits}) HasOp Anything s (put (put_ops.As class 0) s) _ (put_goes (put_ops.As class 0) s (λ clean. and_from (two_bytes class) (two_bytes 0) small refl)) (λ u some f. (onto_same u f, tt))
      by_live false =
          goes_then itself (second {X = Exits}) HasOp Anything s (put (put_ops.Alive 0) s) _ (put_goes (put_ops.Alive 0) s (λ clean. refl)) (λ t some. by_same (is_class (class_of held) class) t)

  -- a test, and then a name
  named_goes : (name : List ℕ) (class : ℕ) (exits : Exits) (t : Buffer) → two_bytes class ≡ true → Goes second Binds t (declare name (kinds.Ref class) t >>= λ u. Ok (Some exits, u))
  named_goes name class exits t small =
      goes_then itself second HasOp Binds t (declare name (kinds.Ref class) t) _ (declare_goes name (kinds.Ref class) t small) (λ u some f. (onto_same u f, some))

  bound_goes : (name : List ℕ) (held : Kind) (class : ℕ) (s : Buffer) → two_bytes class ≡ true → Goes second Binds s (bound_as schema name held class s)
  bound_goes name held class s small = by_test (is_test schema held class)
    where
      by_test : (b : Bool) → Goes second Binds s (cond b (test_code held class s >>= λ p. declare name (kinds.Ref class) p.1 >>= λ u. Ok (Some p.0, u)) (Ok (None, noted WrongKind s)))
      by_test true = goes_then (second {X = Exits}) second Anything Binds s (test_code held class s) _ (as_goes held class s small) (λ p any. named_goes name class p.0 p.1 small)
      by_test false = λ f. (onto_noted WrongKind s f, tt)

  as_named_goes : (name : List ℕ) (held : Option Kind) (class : Option ℕ) (s : Buffer) → InTwoBytes class → Goes second Binds s (as_named schema name held class s)
  as_named_goes name None None s small = λ f. (onto_same s f, tt)
  as_named_goes name None (Some class) s small = λ f. (onto_same s f, tt)
  as_named_goes name (Some held) None s small = λ f. (onto_same s f, tt)
  as_named_goes name (Some held) (Some class) s small = bound_goes name held class s small

  partner_by_goes : (name : List ℕ) (r : Result (ℕ × ℕ) TextFlaw) (s : Buffer) → IsPartnerSlot r → Goes second Binds s (partner_by name r s)
  partner_by_goes name (Err flaw) s small = λ f. (onto_noted flaw s f, tt)
  partner_by_goes name (Ok slot) s small =
      goes_then itself second HasOp Binds s (put (put_ops.One slot.0 0) s) _ (put_goes (put_ops.One slot.0 0) s (λ clean. and_from (two_bytes slot.0) (two_bytes 0) small.0 refl))
      (λ t some. named_goes name slot.1 (one_exit (length s.ops)) t small.1)

  partner_in_goes : (name slot : List ℕ) (class : Option ℕ) (s : Buffer) → Goes second Binds s (partner_in schema name slot class s)
  partner_in_goes name slot None s = λ f. (onto_same s f, tt)
  partner_in_goes name slot (Some class) s = partner_by_goes name (partner_slot schema class slot) s (partner_in_two schema sf class slot)

  binding_goes : (binding : Binding) (s : Buffer) → Goes second Binds s (binding_code schema binding s)
  unfolding with_as with_partner
  binding_goes (bindings.As name unit class_name) s =
      let class = class_named schema class_name in
      goes_then second second Kinded Binds s (variable_code unit STACK_LIMIT s) _ (variable_goes unit STACK_LIMIT s)
      (λ p kind. goes_from second Binds p.1 (known class p.1) (as_named schema name p.0 class (known class p.1)) (onto_known class p.1) (as_named_goes name p.0 class (known class p.1) (class_in schema sf class_name)))
  binding_goes (bindings.Linked name unit slot) s =
      goes_then second second Classed Binds s (unit_code unit STACK_LIMIT s) _ (unit_goes unit STACK_LIMIT s) (λ p class. partner_in_goes name slot p.0 p.1)

  pub with_goes : (binding : Binding) (at : Place) (s : Buffer) → Goes second Headed s (with_code schema binding at s)
  unfolding with_code
  with_goes binding at s =
      goes_then second second Binds Headed s (binding_code schema binding s) _ (binding_goes binding s)
      (λ p binds. goes_settled second Headed at p.1 p.1 (ok_or p.0 (At Unknown at) >>= λ exits. Ok (exits, p.1)) (by_found p.0 p.1 binds))
    where
      by_found : (o : Option Exits) (t : Buffer) → Tests o t → Goes second Headed t (ok_or o (At Unknown at) >>= λ exits. Ok (exits, t))
      by_found None t binds = λ f. tt
      by_found (Some exits) t binds = λ f. (onto_same t f, binds)

  -- ---- `for`

  -- a class, and the local that holds the sequence
  pub record HoldsSequence (p : (ℕ × ℕ) × Buffer) : Type 0 where
    pub class : two_bytes p.0.0 ≡ true
    pub local : byte p.0.1 ≡ true
    pub some : HasOp p.1

  pub for_goes : (sequence : Sequence) (at : Place) (loops : ℕ) (s : Buffer) → sequence_held (sequence_of sequence) ≡ true → Goes (second {X = ℕ × ℕ}) HoldsSequence s (for_code schema sequence at loops s)
  unfolding for_code
  for_goes sequence at loops s held =
      goes_then second (second {X = ℕ × ℕ}) Classed HoldsSequence s (sequence_code schema STACK_LIMIT (sequence_of sequence) s) _ (sequence_goes schema sf (sequence_of sequence) STACK_LIMIT s held)
      (λ p class. goes_settled (second {X = ℕ × ℕ}) HoldsSequence at p.1 (loop_noted loops p.1) (ok_or p.0 (At Unknown at) >>= λ c. take_local (kinds.Seq c) (loop_noted loops p.1) >>= λ q. put (put_ops.Store q.0) q.1 >>= λ v. Ok ((c, q.0), v))
      (goes_from (second {X = ℕ × ℕ}) HoldsSequence p.1 (loop_noted loops p.1) (ok_or p.0 (At Unknown at) >>= λ c. take_local (kinds.Seq c) (loop_noted loops p.1) >>= λ q. put (put_ops.Store q.0) q.1 >>= λ v. Ok ((c, q.0), v)) (onto_if (loops == 0) Limit p.1)
      (by_class p.0 (loop_noted loops p.1) class)))
    where
      by_class : (o : Option ℕ) (t : Buffer) → InTwoBytes o → Goes (second {X = ℕ × ℕ}) HoldsSequence t (ok_or o (At Unknown at) >>= λ c. take_local (kinds.Seq c) t >>= λ q. put (put_ops.Store q.0) q.1 >>= λ v. Ok ((c, q.0), v))
      by_class None t small = λ f. tt
      by_class (Some class) t small =
          goes_then second (second {X = ℕ × ℕ}) Located HoldsSequence t (take_local (kinds.Seq class) t) _ (take_goes (kinds.Seq class) t small)
          (λ q lt. goes_then itself (second {X = ℕ × ℕ}) HasOp HoldsSequence q.1 (put (put_ops.Store q.0) q.1) _ (put_goes (put_ops.Store q.0) q.1 (λ clean. byte_within q.0 LOCAL_LIMIT lt (omega arith)))
          (λ v some f. (onto_same v f, record { class = small; local = byte_within q.0 LOCAL_LIMIT lt (omega arith); some = some })))
