-- Operations of the text are what their ops do.
use Rattle.std.proofs.Common.{◌≡◌, Bool, true, false, cond, ◌&&◌, Option, Some, None, Result, Ok, refl, subst, sym, ap, ◌∙◌}
use Rattle.std.specs.Prelude.{ℤ, pos, int_lt, is_some}
use Rattle.std.specs.Int.{int_min, int_max}
use Rattle.bb_basis.specs.Results.{◌>>=◌}
use Rattle.bb_basis.proofs.ResultLemmas.{bind_ok, same_ok}
use Rattle.bb_code.specs.declared.op.Bound.TheVariants as bounds
use Rattle.bb_code.specs.declared.op.Calculation.{Calculation}
use Rattle.bb_code.specs.declared.op.Calculation.TheVariants as calculations
use Rattle.bb_code.specs.declared.op.Comparison.{Comparison}
use Rattle.bb_code.specs.declared.op.Comparison.TheVariants as comparisons
use Rattle.bb_code.specs.declared.op.Logic.{Logic}
use Rattle.bb_code.specs.declared.op.Logic.TheVariants as logics
use Rattle.bb_code.specs.Code.{Code}
use Rattle.bb_code.specs.declared.frame.Kind.{Kind}
use Rattle.bb_code.specs.declared.frame.Kind.TheVariants as kinds
use Rattle.bb_verify_effect.specs.Kinds.{is_same_plain}
use Rattle.bb_code.specs.declared.op.Op.{Op}
use Rattle.bb_code.specs.declared.op.Op.TheVariants as ops
use Rattle.bb_lang.specs.Unary.{Unary}
use Rattle.bb_lang.specs.Unary.TheVariants as unaries
use Rattle.bb_lang.specs.Binary.{Binary}
use Rattle.bb_lang.specs.Binary.TheVariants as binaries
use Rattle.bb_lang.specs.Operator.{Operator}
use Rattle.bb_lang.specs.Operator.TheVariants as operators
use Rattle.bb_lang.specs.Division.{Division}
use Rattle.bb_lang.specs.Division.TheVariants as divisions
use Rattle.bb_compile_scope.specs.declared.fault.CompileFault.{CompileFault}
use Rattle.bb_compile_scope.specs.declared.fault.TextFlaw.TheVariants.{Kind as WrongKind, Limit}
use Rattle.bb_compile_scope.specs.Kinds.{class_of, plain_equality, equality}
use Rattle.bb_compile_scope.specs.LocalKinds.{is_free}
use Rattle.bb_theorem_accepted.specs.Buffer.{Buffer}
use Rattle.bb_theorem_accepted.specs.Buffers.{noted, put}
use Rattle.bb_theorem_accepted.specs.Operations.{Made, unary_code, equality_by, binary_code, operator_code, division_op, divisor_noted, division_code}
use Rattle.bb_machine.specs.Arithmetic.{calculated, compared, combined, divided}
use Rattle.bb_machine.specs.Changing.{State}
use Rattle.bb_machine.specs.Machine.{with_stack}
use Rattle.bb_machine.specs.declared.value.Value.{Value}
use Rattle.bb_machine.specs.declared.value.Value.TheVariants.{Int, Bool as Truth, Interval}
use Rattle.bb_theorem_accepted.proofs.Laws.{Clean, Grown, Has, is_open, with_op, grown_op, grown_none, not_failed, never_noted, put_ok, IsPut, pair_ok, clean_before, one_due_ok, two_due_ok}
use Rattle.bb_theorem_meaning.specs.Meaning.{Meaning}
use Rattle.bb_theorem_meaning.specs.Values.{unary_value, of_numbers, of_truths, equal, binary_value, operator_value, division_value}
use Rattle.bb_theorem_meaning.proofs.ComeLemmas.{Leaves, done_on}
use Rattle.bb_theorem_meaning.proofs.OpLemmas.{Pushed, numbers_leave, truths_leave, number_leaves, not_leaves, low_leaves, high_leaves, equal_numbers, equal_texts, equal_units, equal_labels, calculate_on, compare_on, combine_on, make_interval_on, eq_text_on, eq_unit_on, eq_label_on, divide_on, negate_on, bound_on}
use Rattle.bb_theorem_meaning.proofs.MeansLemmas.{IsKind, IsMade, OneOp, TwoOp, Turns, one_turns}

module _ (code : Code) where
  -- an op is put that does with two operands what a meaning says
  pub record Puts (s t : Buffer) (made : Made) (f : Value → Value → Meaning Value) : Type 0 where
    pub op : Op
    pub is : t ≡ with_op op s
    pub closed : is_open op ≡ false
    pub some : IsMade made
    pub kind : IsKind made
    pub does : TwoOp code op f

  puts : (op : Op) (gives : Kind) (s t : Buffer) (made : Made) (f : Value → Value → Meaning Value) → is_free gives ≡ false → is_open op ≡ false → TwoOp code op f → IsPut op gives s t made → Puts s t made f
  puts op gives s t made f known closed does put = record { op = op; is = put.0; closed = closed; some = (gives, put.1); kind = subst IsKind (sym put.1) known; does = does }

  calculates : (c : Calculation) → TwoOp code (ops.Calculate c) (of_numbers (λ a b. Int (calculated c a b)))
  calculates c n base m b v w rest stack like =
      subst (λ r. Leaves (Pushed n base) (of_numbers (λ a b. Int (calculated c a b)) v w) (done_on b r)) (sym (calculate_on code m b rest v w stack c))
      (numbers_leave n base (with_stack rest m) b like (λ a b. Int (calculated c a b)) v w)

  compares : (c : Comparison) → TwoOp code (ops.Compare c) (of_numbers (λ a b. Truth (compared c a b)))
  compares c n base m b v w rest stack like =
      subst (λ r. Leaves (Pushed n base) (of_numbers (λ a b. Truth (compared c a b)) v w) (done_on b r)) (sym (compare_on code m b rest v w stack c))
      (numbers_leave n base (with_stack rest m) b like (λ a b. Truth (compared c a b)) v w)

  combines : (l : Logic) → TwoOp code (ops.Combine l) (of_truths (λ a b. combined l a b))
  combines l n base m b v w rest stack like =
      subst (λ r. Leaves (Pushed n base) (of_truths (λ a b. combined l a b) v w) (done_on b r)) (sym (combine_on code m b rest v w stack l))
      (truths_leave n base (with_stack rest m) b like (λ a b. combined l a b) v w)

  intervals : TwoOp code ops.MakeInterval (of_numbers (λ a b. Interval (int_min a b) (int_max a b)))
  intervals n base m b v w rest stack like =
      subst (λ r. Leaves (Pushed n base) (of_numbers (λ a b. Interval (int_min a b) (int_max a b)) v w) (done_on b r)) (sym (make_interval_on code m b rest v w stack))
      (numbers_leave n base (with_stack rest m) b like (λ a b. Interval (int_min a b) (int_max a b)) v w)

  -- ---- whether two values are equal

  numbers_equal : TwoOp code (ops.Compare comparisons.EqInt) equal
  numbers_equal n base m b v w rest stack like =
      subst (λ r. Leaves (Pushed n base) (equal v w) (done_on b r)) (sym (compare_on code m b rest v w stack comparisons.EqInt)) (equal_numbers n base (with_stack rest m) b like v w)

  texts_equal : TwoOp code ops.EqText equal
  texts_equal n base m b v w rest stack like =
      subst (λ r. Leaves (Pushed n base) (equal v w) (done_on b r)) (sym (eq_text_on code m b rest v w stack)) (equal_texts n base (with_stack rest m) b like v w)

  labels_equal : TwoOp code ops.EqLabel equal
  labels_equal n base m b v w rest stack like =
      subst (λ r. Leaves (Pushed n base) (equal v w) (done_on b r)) (sym (eq_label_on code m b rest v w stack)) (equal_labels n base (with_stack rest m) b like v w)

  units_equal : TwoOp code ops.EqUnit equal
  units_equal n base m b v w rest stack like =
      subst (λ r. Leaves (Pushed n base) (equal v w) (done_on b r)) (sym (eq_unit_on code m b rest v w stack)) (equal_units n base (with_stack rest m) b like v w)

  as_op : (o p : Op) → (let r : Option Op = Some o in r) ≡ Some p → TwoOp code o equal → TwoOp code p equal
  as_op o p h does = subst (λ q. TwoOp code q equal) (let e : o ≡ p = cc in e) does

  plain_equal : (k : Kind) (op : Op) → plain_equality k ≡ Some op → TwoOp code op equal
  plain_equal kinds.Int op h = as_op (ops.Compare comparisons.EqInt) op h numbers_equal
  plain_equal kinds.Text op h = as_op ops.EqText op h texts_equal
  plain_equal (kinds.Label set) op h = as_op ops.EqLabel op h labels_equal
  plain_equal kinds.Any op h = absurd cc
  plain_equal kinds.Bool op h = absurd cc
  plain_equal kinds.Interval op h = absurd cc
  plain_equal (kinds.Ref c) op h = absurd cc
  plain_equal (kinds.Old c) op h = absurd cc
  plain_equal (kinds.Seq c) op h = absurd cc

  equal_by : (k : Kind) (op : Op) (both same : Bool) → cond both (Some ops.EqUnit) (cond same (plain_equality k) None) ≡ Some op → TwoOp code op equal
  equal_by k op true same h = as_op ops.EqUnit op h units_equal
  equal_by k op false true h = plain_equal k op h
  equal_by k op false false h = absurd cc

  equal_does : (l r : Kind) (op : Op) → equality l r ≡ Some op → TwoOp code op equal
  unfolding equality
  equal_does l r op h = equal_by l op (is_some (class_of l) && is_some (class_of r)) (is_same_plain l r) h

  -- no op that compares goes anywhere
  plain_closed : (k : Kind) (op : Op) → plain_equality k ≡ Some op → is_open op ≡ false
  plain_closed kinds.Int op h = let e : ops.Compare comparisons.EqInt ≡ op = cc in ap is_open (sym e)
  plain_closed kinds.Text op h = let e : ops.EqText ≡ op = cc in ap is_open (sym e)
  plain_closed (kinds.Label set) op h = let e : ops.EqLabel ≡ op = cc in ap is_open (sym e)
  plain_closed kinds.Any op h = absurd cc
  plain_closed kinds.Bool op h = absurd cc
  plain_closed kinds.Interval op h = absurd cc
  plain_closed (kinds.Ref c) op h = absurd cc
  plain_closed (kinds.Old c) op h = absurd cc
  plain_closed (kinds.Seq c) op h = absurd cc

  closed_by : (k : Kind) (op : Op) (both same : Bool) → cond both (Some ops.EqUnit) (cond same (plain_equality k) None) ≡ Some op → is_open op ≡ false
  closed_by k op true same h = let e : ops.EqUnit ≡ op = cc in ap is_open (sym e)
  closed_by k op false true h = plain_closed k op h
  closed_by k op false false h = absurd cc

  equal_closed : (l r : Kind) (op : Op) → equality l r ≡ Some op → is_open op ≡ false
  unfolding equality
  equal_closed l r op h = closed_by l op (is_some (class_of l) && is_some (class_of r)) (is_same_plain l r) h

  abbrev as_truth : Buffer → Result (Made × Buffer) CompileFault
  as_truth u = Ok (Some kinds.Bool, u)

  equal_puts : (l r : Kind) (s t : Buffer) (made : Made) → (equality_by (equality l r) s >>= as_truth) ≡ Ok (made, t) → Clean t → Puts s t made equal
  equal_puts l r s t made h clean =
      let one = bind_ok (equality_by (equality l r) s) as_truth (made, t) h in
      let same = pair_ok (Some kinds.Bool) made one.0 t one.2 in
      by_op (equality l r) refl one.0 one.1 same.1 same.0
    where
      by_op : (o : Option Op) → equality l r ≡ o → (u : Buffer) → equality_by o s ≡ Ok u → u ≡ t → Some kinds.Bool ≡ made → Puts s t made equal
      by_op None is u h same kind = never_noted WrongKind s (ap (λ (x : Buffer). x.flaw) (same_ok (noted WrongKind s) u h ∙ same) ∙ clean)
      by_op (Some op) is u h same kind = puts op kinds.Bool s t made equal refl (equal_closed l r op is) (equal_does l r op is) (sym same ∙ put_ok op s u h, sym kind)

  -- ---- two operands

  -- a buffer has no flaw before an operation where it has none after it
  op_clean : (op : Op) (s t : Buffer) → t ≡ with_op op s → Clean t → Clean s × Grown s t
  op_clean op s t is clean = (clean_before op s t is clean, grown_op op s t is)

  same_clean : (s t : Buffer) → s ≡ t → Clean t → Clean s × Grown s t
  same_clean s t is clean = (ap (λ (x : Buffer). x.flaw) is ∙ clean, grown_none s t (ap (λ (x : Buffer). x.ops) (sym is)) (ap (λ (x : Buffer). x.texts) (sym is)) (ap (λ (x : Buffer). x.queries) (sym is)))

  pub binary_clean : (operation : Binary) (left right : Made) (s t : Buffer) (made : Made) → binary_code operation left right s ≡ Ok (made, t) → Clean t → Clean s × Grown s t
  unfolding binary_code
  binary_clean binaries.Less l r s t made h clean = op_clean (ops.Compare comparisons.Lt) s t (two_due_ok l r kinds.Int (ops.Compare comparisons.Lt) kinds.Bool s t made h clean).0 clean
  binary_clean binaries.AtMost l r s t made h clean = op_clean (ops.Compare comparisons.Le) s t (two_due_ok l r kinds.Int (ops.Compare comparisons.Le) kinds.Bool s t made h clean).0 clean
  binary_clean binaries.Min l r s t made h clean = op_clean (ops.Calculate calculations.Min) s t (two_due_ok l r kinds.Int (ops.Calculate calculations.Min) kinds.Int s t made h clean).0 clean
  binary_clean binaries.Max l r s t made h clean = op_clean (ops.Calculate calculations.Max) s t (two_due_ok l r kinds.Int (ops.Calculate calculations.Max) kinds.Int s t made h clean).0 clean
  binary_clean binaries.Interval l r s t made h clean = op_clean ops.MakeInterval s t (two_due_ok l r kinds.Int ops.MakeInterval kinds.Interval s t made h clean).0 clean
  binary_clean binaries.Equal (Some l) (Some r) s t made h clean = let p = equal_puts l r s t made h clean in op_clean p.op s t p.is clean
  binary_clean binaries.Equal (Some l) None s t made h clean = same_clean s t (pair_ok (Some kinds.Bool) made s t h).1 clean
  binary_clean binaries.Equal None r s t made h clean = same_clean s t (pair_ok (Some kinds.Bool) made s t h).1 clean

  pub binary_puts : (operation : Binary) (left right : Made) (s t : Buffer) (made : Made) → IsMade left → IsMade right → binary_code operation left right s ≡ Ok (made, t) → Clean t → Puts s t made (binary_value operation)
  unfolding binary_code binary_value
  binary_puts binaries.Less l r s t made k j h clean =
      puts (ops.Compare comparisons.Lt) kinds.Bool s t made (binary_value binaries.Less) refl refl (compares comparisons.Lt) (two_due_ok l r kinds.Int (ops.Compare comparisons.Lt) kinds.Bool s t made h clean)
  binary_puts binaries.AtMost l r s t made k j h clean =
      puts (ops.Compare comparisons.Le) kinds.Bool s t made (binary_value binaries.AtMost) refl refl (compares comparisons.Le) (two_due_ok l r kinds.Int (ops.Compare comparisons.Le) kinds.Bool s t made h clean)
  binary_puts binaries.Min l r s t made k j h clean =
      puts (ops.Calculate calculations.Min) kinds.Int s t made (binary_value binaries.Min) refl refl (calculates calculations.Min) (two_due_ok l r kinds.Int (ops.Calculate calculations.Min) kinds.Int s t made h clean)
  binary_puts binaries.Max l r s t made k j h clean =
      puts (ops.Calculate calculations.Max) kinds.Int s t made (binary_value binaries.Max) refl refl (calculates calculations.Max) (two_due_ok l r kinds.Int (ops.Calculate calculations.Max) kinds.Int s t made h clean)
  binary_puts binaries.Interval l r s t made k j h clean =
      puts ops.MakeInterval kinds.Interval s t made (binary_value binaries.Interval) refl refl intervals (two_due_ok l r kinds.Int ops.MakeInterval kinds.Interval s t made h clean)
  binary_puts binaries.Equal (Some l) (Some r) s t made k j h clean = equal_puts l r s t made h clean
  binary_puts binaries.Equal (Some l) None s t made k j h clean = absurd (let e = j.1 in cc)
  binary_puts binaries.Equal None r s t made k j h clean = absurd (let e = k.1 in cc)

  pub operator_puts : (operator : Operator) (left right : Made) (s t : Buffer) (made : Made) → operator_code operator left right s ≡ Ok (made, t) → Clean t → Puts s t made (operator_value operator)
  unfolding operator_value
  operator_puts operators.Or l r s t made h clean =
      puts (ops.Combine logics.Or) kinds.Bool s t made (operator_value operators.Or) refl refl (combines logics.Or) (two_due_ok l r kinds.Bool (ops.Combine logics.Or) kinds.Bool s t made h clean)
  operator_puts operators.And l r s t made h clean =
      puts (ops.Combine logics.And) kinds.Bool s t made (operator_value operators.And) refl refl (combines logics.And) (two_due_ok l r kinds.Bool (ops.Combine logics.And) kinds.Bool s t made h clean)
  operator_puts operators.Plus l r s t made h clean =
      puts (ops.Calculate calculations.Add) kinds.Int s t made (operator_value operators.Plus) refl refl (calculates calculations.Add) (two_due_ok l r kinds.Int (ops.Calculate calculations.Add) kinds.Int s t made h clean)
  operator_puts operators.Minus l r s t made h clean =
      puts (ops.Calculate calculations.Sub) kinds.Int s t made (operator_value operators.Minus) refl refl (calculates calculations.Sub) (two_due_ok l r kinds.Int (ops.Calculate calculations.Sub) kinds.Int s t made h clean)
  operator_puts operators.Times l r s t made h clean =
      puts (ops.Calculate calculations.Mul) kinds.Int s t made (operator_value operators.Times) refl refl (calculates calculations.Mul) (two_due_ok l r kinds.Int (ops.Calculate calculations.Mul) kinds.Int s t made h clean)

  -- ---- one operand

  negates : OneOp code ops.Not (λ b v. unary_value unaries.Not v)
  negates n base m b v rest stack like =
      subst (λ r. Leaves (Pushed n base) (unary_value unaries.Not v) (done_on b r)) (sym (negate_on code m b rest v stack)) (not_leaves n base (with_stack rest m) b like v)

  lows : OneOp code (ops.BoundOf bounds.Low) (λ b v. unary_value unaries.Low v)
  lows n base m b v rest stack like =
      subst (λ r. Leaves (Pushed n base) (unary_value unaries.Low v) (done_on b r)) (sym (bound_on code m b rest v stack bounds.Low)) (low_leaves n base (with_stack rest m) b like v)

  highs : OneOp code (ops.BoundOf bounds.High) (λ b v. unary_value unaries.High v)
  highs n base m b v rest stack like =
      subst (λ r. Leaves (Pushed n base) (unary_value unaries.High v) (done_on b r)) (sym (bound_on code m b rest v stack bounds.High)) (high_leaves n base (with_stack rest m) b like v)

  divides : (d : Division) (by : ℤ) → OneOp code (ops.Divide (division_op d) by) (λ b v. division_value d by v)
  unfolding division_value
  divides divisions.Quotient by n base m b v rest stack like =
      subst (λ r. Leaves (Pushed n base) (division_value divisions.Quotient by v) (done_on b r)) (sym (divide_on code m b rest v stack (division_op divisions.Quotient) by))
      (number_leaves n base (with_stack rest m) b like (λ x. Int (divided (division_op divisions.Quotient) x by)) v)
  divides divisions.Remainder by n base m b v rest stack like =
      subst (λ r. Leaves (Pushed n base) (division_value divisions.Remainder by v) (done_on b r)) (sym (divide_on code m b rest v stack (division_op divisions.Remainder) by))
      (number_leaves n base (with_stack rest m) b like (λ x. Int (divided (division_op divisions.Remainder) x by)) v)

  module _ (start : State) where
    turned : (op : Op) (gives : Kind) (s t : Buffer) (made : Made) (f : Value → Meaning Value) → is_free gives ≡ false → is_open op ≡ false → Clean t → Has code t → OneOp code op (λ b v. f v) → IsPut op gives s t made
        → Turns code start s t made (λ b names v. f v)
    turned op gives s t made f known closed clean has does put =
        one_turns code start s t op made (λ b v. f v) (clean_before op s t put.0 clean) put.0 closed has (gives, put.1) (subst IsKind (sym put.1) known) does

    pub unary_turns : (operation : Unary) (operand : Made) (s t : Buffer) (made : Made) → unary_code operation operand s ≡ Ok (made, t) → Clean t → Has code t → Turns code start s t made (λ b names v. unary_value operation v)
    unary_turns unaries.Not operand s t made h clean has =
        turned ops.Not kinds.Bool s t made (unary_value unaries.Not) refl refl clean has negates (one_due_ok operand kinds.Bool ops.Not kinds.Bool s t made h clean)
    unary_turns unaries.Low operand s t made h clean has =
        turned (ops.BoundOf bounds.Low) kinds.Int s t made (unary_value unaries.Low) refl refl clean has lows (one_due_ok operand kinds.Interval (ops.BoundOf bounds.Low) kinds.Int s t made h clean)
    unary_turns unaries.High operand s t made h clean has =
        turned (ops.BoundOf bounds.High) kinds.Int s t made (unary_value unaries.High) refl refl clean has highs (one_due_ok operand kinds.Interval (ops.BoundOf bounds.High) kinds.Int s t made h clean)

    pub division_turns : (d : Division) (by : ℤ) (left : Made) (s t : Buffer) (made : Made) → division_code d by left s ≡ Ok (made, t) → Clean t → Has code t → Turns code start s t made (λ b names v. division_value d by v)
    unfolding division_code
    division_turns d by left s t made h clean has =
        let put = one_due_ok left kinds.Int (ops.Divide (division_op d) by) kinds.Int (divisor_noted by s) t made h clean in
        let free = not_failed (int_lt by (pos 1)) Limit s (clean_before (ops.Divide (division_op d) by) (divisor_noted by s) t put.0 clean) in
        turned (ops.Divide (division_op d) by) kinds.Int s t made (division_value d by) refl refl clean has (divides d by) (put.0 ∙ ap (with_op (ops.Divide (division_op d) by)) free.1, put.1)
