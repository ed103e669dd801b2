-- Operations lead from frame to frame.
use Rattle.std.proofs.Common.{◌≡◌, ℕ, ◌-◌, true, Option, Some, None, Result, Ok, refl, subst, sym, ap, ◌∙◌}
use Rattle.std.specs.Prelude.{ℤ, pos, int_lt}
use Rattle.bb_basis.specs.Results.{◌>>=◌}
use Rattle.bb_basis.proofs.ResultLemmas.{bind_ok, same_ok}
use Rattle.bb_code.specs.declared.op.Bound.TheVariants as bounds
use Rattle.bb_code.specs.declared.op.Calculation.TheVariants as calculations
use Rattle.bb_code.specs.declared.op.Comparison.TheVariants as comparisons
use Rattle.bb_code.specs.declared.op.Logic.TheVariants as logics
use Rattle.bb_schema.specs.Schema.{Schema}
use Rattle.bb_schema.specs.Fits as schemas
use Rattle.bb_code.specs.Code.{Code}
use Rattle.bb_code.specs.declared.frame.Kind.{Kind}
use Rattle.bb_code.specs.declared.frame.Kind.TheVariants as kinds
use Rattle.bb_verify_effect.specs.Kinds.{is_same_plain}
use Rattle.bb_code.specs.declared.op.Op.{Op}
use Rattle.bb_code.specs.declared.op.Op.TheVariants as ops
use Rattle.bb_lang.specs.Unary.{Unary}
use Rattle.bb_lang.specs.Unary.TheVariants as unaries
use Rattle.bb_lang.specs.Binary.{Binary}
use Rattle.bb_lang.specs.Binary.TheVariants as binaries
use Rattle.bb_lang.specs.Operator.{Operator}
use Rattle.bb_lang.specs.Operator.TheVariants as operators
use Rattle.bb_lang.specs.Division.{Division}
use Rattle.bb_compile_scope.specs.declared.fault.CompileFault.{CompileFault}
use Rattle.bb_compile_scope.specs.declared.fault.TextFlaw.TheVariants.{Kind as WrongKind, Limit}
use Rattle.bb_compile_scope.specs.Kinds.{equality}
use Rattle.bb_compile_buffer.specs.declared.buffer.Buffer.{Buffer}
use Rattle.bb_compile_buffer.specs.Buffers.{noted}
use Rattle.bb_compile_buffer.specs.Operations.{Made, one_due, two_due, unary_code, equality_by, equality_code, binary_code, operator_code, division_op, divisor_noted, division_code}
use Rattle.bb_verify_effect.specs.declared.part.Part.{Part}
use Rattle.bb_theorem_accepted.proofs.buffers.BufferLemmas.{Clean, Grown, with_op, not_failed, never_noted, put_ok, grown_op, grown_none}
use Rattle.bb_theorem_accepted.proofs.buffers.PutLemmas.{pair_ok, clean_before, one_due_ok, one_due_kind, two_due_ok, two_due_kinds}
use Rattle.bb_theorem_accepted.proofs.buffers.EffectLemmas.{OneGives, TwoGives, calculates, compares, combine_gives, intervals, negates, ends_of, divides, equals}
use Rattle.bb_theorem_accepted.proofs.buffers.LayLemmas.{Lays, Turns, one_turns, two_turns}

-- a buffer has no flaw before an operation where it has none after it
op_clean : (op : Op) (s t : Buffer) → t ≡ with_op op s → Clean t → Clean s × Grown s t
op_clean op s t put clean = (clean_before op s t put clean, grown_op op s t put)

due_clean : (l r : Made) (wanted : Kind) (op : Op) (gives : Kind) (s t : Buffer) (made : Made) → two_due l r wanted op gives s ≡ Ok (made, t) → Clean t → Clean s × Grown s t
due_clean l r wanted op gives s t made h clean = op_clean op s t (two_due_ok l r wanted op gives s t made h clean).0 clean

same_clean : (s t : Buffer) → s ≡ t → Clean t → Clean s × Grown s t
same_clean s t same clean = (ap (λ (x : Buffer). x.flaw) same ∙ clean, grown_none s t (ap (λ (x : Buffer). x.ops) (sym same)) (ap (λ (x : Buffer). x.texts) (sym same)) (ap (λ (x : Buffer). x.queries) (sym same)))

abbrev as_truth : Buffer → Result (Made × Buffer) CompileFault
as_truth u = Ok (Some kinds.Bool, u)

-- the op that compares two values
record Compared (k l : Kind) (s t : Buffer) (made : Made) : Type 0 where
  op : Op
  put : t ≡ with_op op s
  made_is : made ≡ Some kinds.Bool
  compares : equality k l ≡ Some op

compared : (k l : Kind) (s t : Buffer) (made : Made) → (equality_by (equality k l) s >>= as_truth) ≡ Ok (made, t) → Clean t → Compared k l s t made
compared k l s t made h clean =
    let one = bind_ok (equality_by (equality k l) s) as_truth (made, t) h in
    let same = pair_ok (Some kinds.Bool) made one.0 t one.2 in
    by_op (equality k l) refl one.0 one.1 same.1 same.0
  where
    by_op : (o : Option Op) → equality k l ≡ o → (u : Buffer) → equality_by o s ≡ Ok u → u ≡ t → Some kinds.Bool ≡ made → Compared k l s t made
    by_op None at u h same kind = never_noted WrongKind s (ap (λ (x : Buffer). x.flaw) (same_ok (noted WrongKind s) u h ∙ same) ∙ clean)
    by_op (Some op) at u h same kind = record { op = op; put = sym same ∙ put_ok op s u h; made_is = sym kind; compares = at }

pub binary_clean : (operation : Binary) (left right : Made) (s t : Buffer) (made : Made) → binary_code operation left right s ≡ Ok (made, t) → Clean t → Clean s × Grown s t
unfolding binary_code
binary_clean binaries.Less l r s t made h clean = due_clean l r kinds.Int (ops.Compare comparisons.Lt) kinds.Bool s t made h clean
binary_clean binaries.AtMost l r s t made h clean = due_clean l r kinds.Int (ops.Compare comparisons.Le) kinds.Bool s t made h clean
binary_clean binaries.Min l r s t made h clean = due_clean l r kinds.Int (ops.Calculate calculations.Min) kinds.Int s t made h clean
binary_clean binaries.Max l r s t made h clean = due_clean l r kinds.Int (ops.Calculate calculations.Max) kinds.Int s t made h clean
binary_clean binaries.Interval l r s t made h clean = due_clean l r kinds.Int ops.MakeInterval kinds.Interval s t made h clean
binary_clean binaries.Equal (Some k) (Some l) s t made h clean = let c = compared k l s t made h clean in op_clean c.op s t c.put clean
binary_clean binaries.Equal (Some k) None s t made h clean = same_clean s t (pair_ok (Some kinds.Bool) made s t h).1 clean
binary_clean binaries.Equal None r s t made h clean = same_clean s t (pair_ok (Some kinds.Bool) made s t h).1 clean

pub operator_clean : (operator : Operator) (left right : Made) (s t : Buffer) (made : Made) → operator_code operator left right s ≡ Ok (made, t) → Clean t → Clean s × Grown s t
operator_clean operators.Or l r s t made h clean = due_clean l r kinds.Bool (ops.Combine logics.Or) kinds.Bool s t made h clean
operator_clean operators.And l r s t made h clean = due_clean l r kinds.Bool (ops.Combine logics.And) kinds.Bool s t made h clean
operator_clean operators.Plus l r s t made h clean = due_clean l r kinds.Int (ops.Calculate calculations.Add) kinds.Int s t made h clean
operator_clean operators.Minus l r s t made h clean = due_clean l r kinds.Int (ops.Calculate calculations.Sub) kinds.Int s t made h clean
operator_clean operators.Times l r s t made h clean = due_clean l r kinds.Int (ops.Calculate calculations.Mul) kinds.Int s t made h clean

module _ (schema : Schema) (sf : schemas.Fits schema) (part : Part) (code : Code) where
  -- a value more, and an op on both, which are of one kind
  due_turns : (op : Op) (wanted gives : Kind) (left right : Made) (space : ℕ) (s t u : Buffer) (made : Made) → Lays schema sf part code (space - 1) s t right → two_due left right wanted op gives t ≡ Ok (made, u) → Clean u
      → ((k l : Kind) → is_same_plain k wanted ≡ true → is_same_plain l wanted ≡ true → TwoGives schema sf part code op k l gives) → Turns schema sf part code space s u left made
  due_turns op wanted gives left right space s t u made more h clean does =
      let put = two_due_ok left right wanted op gives t u made h clean in
      two_turns schema sf part code space s t u op left right made more put.0
      (λ thought other left_is right_is.
      let both : two_due (Some thought) (Some other) wanted op gives t ≡ Ok (made, u) = ap (λ m. two_due m (Some other) wanted op gives t) (sym left_is) ∙ (ap (λ m. two_due left m wanted op gives t) (sym right_is) ∙ h) in
      let right_kinds = two_due_kinds thought other wanted op gives t u made both clean in
      (gives, put.1, does thought other right_kinds.0 right_kinds.1))

  equal_turns : (left right : Made) (space : ℕ) (s t u : Buffer) (made : Made) → Lays schema sf part code (space - 1) s t right → (equality_code left right t >>= as_truth) ≡ Ok (made, u) → Clean u → Turns schema sf part code space s u left made
  equal_turns (Some k) (Some l) space s t u made more h clean =
      let c = compared k l t u made h clean in
      two_turns schema sf part code space s t u c.op (Some k) (Some l) made more c.put
      (λ thought other left_is right_is.
      let one : k ≡ thought = cc in
      let two : l ≡ other = cc in
      (kinds.Bool, c.made_is, subst (λ x. TwoGives schema sf part code c.op x other kinds.Bool) one (subst (λ x. TwoGives schema sf part code c.op k x kinds.Bool) two (equals schema sf part code k l c.op c.compares))))
  equal_turns (Some k) None space s t u made more h clean = absurd (let no = more.made_is in cc)
  equal_turns None right space s t u made more h clean =
      subst (λ x. Turns schema sf part code space s x None made) (pair_ok (Some kinds.Bool) made t u h).1
      (record { grown = more.grown; clean = more.clean; same = more.same; turns = λ thought left_is. absurd (let no : None ≡ Some thought = left_is in cc) })

  pub binary_turns : (operation : Binary) (left right : Made) (space : ℕ) (s t u : Buffer) (made : Made) → Lays schema sf part code (space - 1) s t right → binary_code operation left right t ≡ Ok (made, u) → Clean u → Turns schema sf part code space s u left made
  unfolding binary_code
  binary_turns binaries.Less l r space s t u made more h clean = due_turns (ops.Compare comparisons.Lt) kinds.Int kinds.Bool l r space s t u made more h clean (compares schema sf part code comparisons.Lt)
  binary_turns binaries.AtMost l r space s t u made more h clean = due_turns (ops.Compare comparisons.Le) kinds.Int kinds.Bool l r space s t u made more h clean (compares schema sf part code comparisons.Le)
  binary_turns binaries.Equal l r space s t u made more h clean = equal_turns l r space s t u made more h clean
  binary_turns binaries.Min l r space s t u made more h clean = due_turns (ops.Calculate calculations.Min) kinds.Int kinds.Int l r space s t u made more h clean (calculates schema sf part code calculations.Min)
  binary_turns binaries.Max l r space s t u made more h clean = due_turns (ops.Calculate calculations.Max) kinds.Int kinds.Int l r space s t u made more h clean (calculates schema sf part code calculations.Max)
  binary_turns binaries.Interval l r space s t u made more h clean = due_turns ops.MakeInterval kinds.Int kinds.Interval l r space s t u made more h clean (intervals schema sf part code)

  pub operator_turns : (operator : Operator) (left right : Made) (space : ℕ) (s t u : Buffer) (made : Made) → Lays schema sf part code (space - 1) s t right → operator_code operator left right t ≡ Ok (made, u) → Clean u → Turns schema sf part code space s u left made
  operator_turns operators.Or l r space s t u made more h clean = due_turns (ops.Combine logics.Or) kinds.Bool kinds.Bool l r space s t u made more h clean (combine_gives schema sf part code logics.Or)
  operator_turns operators.And l r space s t u made more h clean = due_turns (ops.Combine logics.And) kinds.Bool kinds.Bool l r space s t u made more h clean (combine_gives schema sf part code logics.And)
  operator_turns operators.Plus l r space s t u made more h clean = due_turns (ops.Calculate calculations.Add) kinds.Int kinds.Int l r space s t u made more h clean (calculates schema sf part code calculations.Add)
  operator_turns operators.Minus l r space s t u made more h clean = due_turns (ops.Calculate calculations.Sub) kinds.Int kinds.Int l r space s t u made more h clean (calculates schema sf part code calculations.Sub)
  operator_turns operators.Times l r space s t u made more h clean = due_turns (ops.Calculate calculations.Mul) kinds.Int kinds.Int l r space s t u made more h clean (calculates schema sf part code calculations.Mul)

  -- an op on the newest value, which is of a kind
  one_due_turns : (op : Op) (wanted gives : Kind) (operand : Made) (space : ℕ) (was s t : Buffer) (made : Made) → (Clean was → was ≡ s) → one_due operand wanted op gives was ≡ Ok (made, t) → Clean t
      → ((k : Kind) → is_same_plain k wanted ≡ true → OneGives schema sf part code op k gives) → Turns schema sf part code space s t operand made
  one_due_turns op wanted gives operand space was s t made same h clean does =
      let put = one_due_ok operand wanted op gives was t made h clean in
      let free = clean_before op was t put.0 clean in
      let put_is : t ≡ with_op op s = put.0 ∙ ap (with_op op) (same free) in
      one_turns schema sf part code space s t op operand made (clean_before op s t put_is clean) put_is
      (λ thought left_is.
      let here : one_due (Some thought) wanted op gives was ≡ Ok (made, t) = ap (λ m. one_due m wanted op gives was) (sym left_is) ∙ h in
      (gives, put.1, does thought (one_due_kind thought wanted op gives was t made here clean)))

  pub unary_turns : (operation : Unary) (operand : Made) (space : ℕ) (s t : Buffer) (made : Made) → unary_code operation operand s ≡ Ok (made, t) → Clean t → Turns schema sf part code space s t operand made
  unary_turns unaries.Not operand space s t made h clean = one_due_turns ops.Not kinds.Bool kinds.Bool operand space s s t made (λ free. refl) h clean (negates schema sf part code)
  unary_turns unaries.Low operand space s t made h clean = one_due_turns (ops.BoundOf bounds.Low) kinds.Interval kinds.Int operand space s s t made (λ free. refl) h clean (ends_of schema sf part code bounds.Low)
  unary_turns unaries.High operand space s t made h clean = one_due_turns (ops.BoundOf bounds.High) kinds.Interval kinds.Int operand space s s t made (λ free. refl) h clean (ends_of schema sf part code bounds.High)

  pub division_turns : (d : Division) (by : ℤ) (left : Made) (space : ℕ) (s t : Buffer) (made : Made) → division_code d by left s ≡ Ok (made, t) → Clean t → Turns schema sf part code space s t left made
  unfolding division_code
  division_turns d by left space s t made h clean =
      one_due_turns (ops.Divide (division_op d) by) kinds.Int kinds.Int left space (divisor_noted by s) s t made (λ free. (not_failed (int_lt by (pos 1)) Limit s free).1) h clean (divides schema sf part code (division_op d) by)
