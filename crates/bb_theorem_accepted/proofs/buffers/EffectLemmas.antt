-- What each op that the compiler lays out does to the frame of its place.
use Rattle.std.proofs.Common.{◌≡◌, ℕ, ◌<◌, Bool, true, false, cond, ◌&&◌, List, ◌∷◌, length, Option, Some, None, Result, Ok, refl, subst, sym, ap, ◌∙◌}
use Rattle.std.specs.Prelude.{ℤ, is_some}
use Rattle.std.proofs.lemmas.Bool.{lt-leb, eq-eqb}
use Rattle.bb_basis.specs.Results.{◌>>=◌}
use Rattle.bb_code.specs.declared.op.Bound.{Bound}
use Rattle.bb_code.specs.declared.op.Calculation.{Calculation}
use Rattle.bb_code.specs.declared.op.Comparison.{Comparison}
use Rattle.bb_code.specs.declared.op.Comparison.TheVariants as comparisons
use Rattle.bb_code.specs.declared.op.Division.{Division}
use Rattle.bb_code.specs.declared.op.Logic.{Logic}
use Rattle.bb_code.specs.declared.parts.TheConstants.{STACK_LIMIT}
use Rattle.bb_schema.specs.Schema.{Schema}
use Rattle.bb_schema.specs.Fits as schemas
use Rattle.bb_code.specs.Code.{Code}
use Rattle.bb_code.specs.declared.flaw.Flaw.{Flaw}
use Rattle.bb_code.specs.declared.frame.Kind.{Kind}
use Rattle.bb_code.specs.declared.frame.Kind.TheVariants as kinds
use Rattle.bb_verify_effect.specs.Kinds.{is_same_plain}
use Rattle.bb_code.specs.declared.op.Op.{Op}
use Rattle.bb_code.specs.declared.op.Op.TheVariants as ops
use Rattle.bb_compile_scope.specs.Kinds.{class_of, plain_equality, equality}
use Rattle.bb_verify_effect.specs.declared.part.Part.{Part}
use Rattle.bb_verify_effect.specs.declared.frame.Frame.{Frame}
use Rattle.bb_verify_effect.specs.Frame.{with_stack, pop, pop_two, room, push}
use Rattle.bb_verify_effect.specs.Due as due
use Rattle.bb_verify_effect.specs.Effect.{effect, on, turn, combine, eq_label, eq_unit}
use Rattle.bb_verify.specs.nesting.Jumps.{target_of}
use Rattle.bb_verify.specs.Tables.{in_tables}
use Rattle.bb_theorem_accepted.proofs.buffers.StraightLemmas.{Gives}
use Rattle.bb_theorem_accepted.proofs.kinds.UnderLemmas.{IsUnder, is_due, same_plain, under_class}

module _ (s : Schema) (sf : schemas.Fits s) (part : Part) (code : Code) where
  -- the stack has room
  pub push_on : (k : Kind) (f : Frame) → length f.stack < STACK_LIMIT → push k f ≡ Ok (with_stack (k ∷ f.stack) f)
  unfolding push room
  push_on k f lt = rw (lt-leb STACK_LIMIT (length f.stack) lt) refl

  pub push_gives : (op : Op) (k : Kind) (f : Frame) → target_of op ≡ None → in_tables s code op ≡ Ok tt → effect s part code op f ≡ on (push k f) → length f.stack < STACK_LIMIT
      → Gives s part code op f (with_stack (k ∷ f.stack) f)
  push_gives op k f straight tables same lt = record { straight = straight; tables = tables; gives = same ∙ ap on (push_on k f lt) }

  -- ---- an op on the newest entry, and one on the two newest

  abbrev pub OneGives : Op → (thought gives : Kind) → Type 0
  OneGives op t gives = (b : Frame) (rest : List Kind) (k : Kind) → IsUnder s sf k t → length rest < STACK_LIMIT
      → (g : Kind) × IsUnder s sf g gives × Gives s part code op (with_stack (k ∷ rest) b) (with_stack (g ∷ rest) b)

  abbrev pub TwoGives : Op → (thought other gives : Kind) → Type 0
  TwoGives op t u gives = (b : Frame) (rest : List Kind) (k l : Kind) → IsUnder s sf k t → IsUnder s sf l u → length rest < STACK_LIMIT
      → (g : Kind) × IsUnder s sf g gives × Gives s part code op (with_stack (l ∷ k ∷ rest) b) (with_stack (g ∷ rest) b)

  turn_on : (from to k : Kind) (b : Frame) (rest : List Kind) → due.due from k ≡ Ok tt → length rest < STACK_LIMIT → turn from to (with_stack (k ∷ rest) b) ≡ Ok (with_stack (to ∷ rest) b)
  unfolding turn pop
  turn_on from to k b rest right lt = ap (λ (r : Result (Unit {0}) Flaw). r >>= λ _. push to (with_stack rest b)) right ∙ push_on to (with_stack rest b) lt

  pub turns : (op : Op) (from to t : Kind) → target_of op ≡ None → in_tables s code op ≡ Ok tt → ((f : Frame) → effect s part code op f ≡ on (turn from to f)) → is_same_plain t from ≡ true → IsUnder s sf to to → OneGives op t to
  turns op from to t straight tables same right known b rest k u lt =
      (to, known, record { straight = straight; tables = tables; gives = same (with_stack (k ∷ rest) b) ∙ ap on (turn_on from to k b rest (is_due s sf k t from u right) lt) })

  combine_on : (from to k l : Kind) (b : Frame) (rest : List Kind) → due.due from k ≡ Ok tt → due.due from l ≡ Ok tt → length rest < STACK_LIMIT → combine from to (with_stack (l ∷ k ∷ rest) b) ≡ Ok (with_stack (to ∷ rest) b)
  unfolding combine pop_two pop
  combine_on from to k l b rest one two lt =
      ap (λ (r : Result (Unit {0}) Flaw). r >>= λ _. due.due from l >>= λ _. push to (with_stack rest b)) one
      ∙ (ap (λ (r : Result (Unit {0}) Flaw). r >>= λ _. push to (with_stack rest b)) two ∙ push_on to (with_stack rest b) lt)

  pub combines : (op : Op) (from to t u : Kind) → target_of op ≡ None → in_tables s code op ≡ Ok tt → ((f : Frame) → effect s part code op f ≡ on (combine from to f)) → is_same_plain t from ≡ true → is_same_plain u from ≡ true → IsUnder s sf to to
      → TwoGives op t u to
  combines op from to t u straight tables same one two known b rest k l under other lt = (
    to,
    known,
    record {
      straight = straight;
      tables = tables;
      gives = same (with_stack (l ∷ k ∷ rest) b) ∙ ap on (combine_on from to k l b rest (is_due s sf k t from under one) (is_due s sf l u from other two) lt);
    },
  )

  -- ---- operations of texts

  pub calculates : (c : Calculation) (t u : Kind) → is_same_plain t kinds.Int ≡ true → is_same_plain u kinds.Int ≡ true → TwoGives (ops.Calculate c) t u kinds.Int
  unfolding effect in_tables
  calculates c t u one two = combines (ops.Calculate c) kinds.Int kinds.Int t u refl refl (λ f. refl) one two refl

  pub compares : (c : Comparison) (t u : Kind) → is_same_plain t kinds.Int ≡ true → is_same_plain u kinds.Int ≡ true → TwoGives (ops.Compare c) t u kinds.Bool
  unfolding effect in_tables
  compares c t u one two = combines (ops.Compare c) kinds.Int kinds.Bool t u refl refl (λ f. refl) one two refl

  pub combine_gives : (l : Logic) (t u : Kind) → is_same_plain t kinds.Bool ≡ true → is_same_plain u kinds.Bool ≡ true → TwoGives (ops.Combine l) t u kinds.Bool
  unfolding effect in_tables
  combine_gives l t u one two = combines (ops.Combine l) kinds.Bool kinds.Bool t u refl refl (λ f. refl) one two refl

  pub intervals : (t u : Kind) → is_same_plain t kinds.Int ≡ true → is_same_plain u kinds.Int ≡ true → TwoGives ops.MakeInterval t u kinds.Interval
  unfolding effect in_tables
  intervals t u one two = combines ops.MakeInterval kinds.Int kinds.Interval t u refl refl (λ f. refl) one two refl

  pub negates : (t : Kind) → is_same_plain t kinds.Bool ≡ true → OneGives ops.Not t kinds.Bool
  unfolding effect in_tables
  negates t right = turns ops.Not kinds.Bool kinds.Bool t refl refl (λ f. refl) right refl

  pub ends_of : (e : Bound) (t : Kind) → is_same_plain t kinds.Interval ≡ true → OneGives (ops.BoundOf e) t kinds.Int
  unfolding effect in_tables
  ends_of e t right = turns (ops.BoundOf e) kinds.Interval kinds.Int t refl refl (λ f. refl) right refl

  pub divides : (d : Division) (by : ℤ) (t : Kind) → is_same_plain t kinds.Int ≡ true → OneGives (ops.Divide d by) t kinds.Int
  unfolding effect in_tables
  divides d by t right = turns (ops.Divide d by) kinds.Int kinds.Int t refl refl (λ f. refl) right refl

  -- ---- whether two values are equal

  texts_equal : (t u : Kind) → is_same_plain t kinds.Text ≡ true → is_same_plain u kinds.Text ≡ true → TwoGives ops.EqText t u kinds.Bool
  unfolding effect in_tables
  texts_equal t u one two = combines ops.EqText kinds.Text kinds.Bool t u refl refl (λ f. refl) one two refl

  labels_on : (set : ℕ) (b : Frame) (rest : List Kind) → length rest < STACK_LIMIT → eq_label (with_stack (kinds.Label set ∷ kinds.Label set ∷ rest) b) ≡ Ok (with_stack (kinds.Bool ∷ rest) b)
  unfolding eq_label pop_two pop
  labels_on set b rest lt = rw (eq-eqb set set refl) (push_on kinds.Bool (with_stack rest b) lt)

  labels_equal : (set : ℕ) (u : Kind) → is_same_plain (kinds.Label set) u ≡ true → TwoGives ops.EqLabel (kinds.Label set) u kinds.Bool
  unfolding effect in_tables
  labels_equal set u same b rest k l under other lt =
      let right : u ≡ kinds.Label set = sym (same_plain (kinds.Label set) u same) in
      let l_is : l ≡ kinds.Label set = subst (λ x. IsUnder s sf l x) right other in
      (kinds.Bool, refl, record { straight = refl; tables = refl; gives = rw (under, l_is) (ap on (labels_on set b rest lt)) })

  units_on : (k l : Kind) (c d : ℕ) (b : Frame) (rest : List Kind) → due.class_of k ≡ Ok c → due.class_of l ≡ Ok d → length rest < STACK_LIMIT → eq_unit (with_stack (l ∷ k ∷ rest) b) ≡ Ok (with_stack (kinds.Bool ∷ rest) b)
  unfolding eq_unit pop_two pop
  units_on k l c d b rest one two lt =
      ap (λ (r : Result ℕ Flaw). r >>= λ _. due.class_of l >>= λ _. push kinds.Bool (with_stack rest b)) one
      ∙ (ap (λ (r : Result ℕ Flaw). r >>= λ _. push kinds.Bool (with_stack rest b)) two ∙ push_on kinds.Bool (with_stack rest b) lt)

  units_equal : (t u : Kind) (c d : ℕ) → class_of t ≡ Some c → class_of u ≡ Some d → TwoGives ops.EqUnit t u kinds.Bool
  unfolding effect in_tables
  units_equal t u c d one two b rest k l under other lt =
      let first = under_class s sf k t c under one in
      let second = under_class s sf l u d other two in
      (kinds.Bool, refl, record { straight = refl; tables = refl; gives = ap on (units_on k l first.0 second.0 b rest first.1 second.1 lt) })

  plain_equal : (t u : Kind) (op : Op) → is_same_plain t u ≡ true → plain_equality t ≡ Some op → TwoGives op t u kinds.Bool
  plain_equal kinds.Int u op same h = subst (λ o. TwoGives o kinds.Int u kinds.Bool) (let e : ops.Compare comparisons.EqInt ≡ op = cc in e) (compares comparisons.EqInt kinds.Int u refl (ap (λ x. is_same_plain x kinds.Int) (sym (same_plain kinds.Int u same))))
  plain_equal kinds.Text u op same h = subst (λ o. TwoGives o kinds.Text u kinds.Bool) (let e : ops.EqText ≡ op = cc in e) (texts_equal kinds.Text u refl (ap (λ x. is_same_plain x kinds.Text) (sym (same_plain kinds.Text u same))))
  plain_equal (kinds.Label set) u op same h = subst (λ o. TwoGives o (kinds.Label set) u kinds.Bool) (let e : ops.EqLabel ≡ op = cc in e) (labels_equal set u same)
  plain_equal kinds.Any u op same h = absurd cc
  plain_equal kinds.Bool u op same h = absurd cc
  plain_equal kinds.Interval u op same h = absurd cc
  plain_equal (kinds.Ref c) u op same h = absurd cc
  plain_equal (kinds.Old c) u op same h = absurd cc
  plain_equal (kinds.Seq c) u op same h = absurd cc

  pub equals : (t u : Kind) (op : Op) → equality t u ≡ Some op → TwoGives op t u kinds.Bool
  unfolding equality
  equals t u op h = by_units (class_of t) (class_of u) refl refl h
    where
      by_plain : (b : Bool) → is_same_plain t u ≡ b → cond b (plain_equality t) None ≡ Some op → TwoGives op t u kinds.Bool
      by_plain true same h = plain_equal t u op same h
      by_plain false same h = absurd cc

      by_units : (o p : Option ℕ) → class_of t ≡ o → class_of u ≡ p → cond (is_some o && is_some p) (Some ops.EqUnit) (cond (is_same_plain t u) (plain_equality t) None) ≡ Some op → TwoGives op t u kinds.Bool
      by_units (Some c) (Some d) one two h = subst (λ x. TwoGives x t u kinds.Bool) (let e : ops.EqUnit ≡ op = cc in e) (units_equal t u c d one two)
      by_units (Some c) None one two h = by_plain (is_same_plain t u) refl h
      by_units None p one two h = by_plain (is_same_plain t u) refl h
