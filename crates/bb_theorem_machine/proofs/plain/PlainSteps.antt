-- Ops on plain values and on locals are safe.
use Rattle.std.proofs.Common.{◌≡◌, ℕ, ℤ, Bool, false, true, List, length, Option, Some, None, Ok, refl}
use Rattle.std.specs.Prelude.{nat_le, is_some, slice_get}
use Rattle.bb_schema_classes.specs.declared.value.TheConstants.{TEXT_LIMIT}
use Rattle.bb_schema.specs.Schema.{name_of_label}
use Rattle.bb_board.specs.Board.{Board}
use Rattle.bb_board.specs.Fits.{Fits}
use Rattle.bb_code.specs.Code.{Code}
use Rattle.bb_code.specs.declared.frame.Kind.TheVariants as kinds
use Rattle.bb_code.specs.declared.op.Bound.{Bound}
use Rattle.bb_code.specs.declared.op.Calculation.{Calculation}
use Rattle.bb_code.specs.declared.op.Comparison.{Comparison}
use Rattle.bb_code.specs.declared.op.Division.{Division}
use Rattle.bb_code.specs.declared.op.Logic.{Logic}
use Rattle.bb_code.specs.declared.op.Op.{Op}
use Rattle.bb_code.specs.declared.op.Op.TheVariants as ops
use Rattle.bb_verify.specs.FrameType.{Frame}
use Rattle.bb_verify.specs.PartType.{Part}
use Rattle.bb_verify.specs.Effect as effects
use Rattle.bb_verify.specs.Effect.{effect}
use Rattle.bb_verify.specs.Frame as frames
use Rattle.bb_verify.proofs.Laws.{push_ok}
use Rattle.bb_machine.specs.declared.value.Value.TheVariants as values
use Rattle.bb_machine.specs.Machine.{Machine, push}
use Rattle.bb_machine.specs.Arithmetic.{calculate, divide, compare, eq_text, negate, combine, make_interval, bound}
use Rattle.bb_machine.specs.Reading.{push_text, push_label, load, store_local, drop_one}
use Rattle.bb_machine.specs.Step.{step}
use Rattle.bb_theorem_machine.specs.Kinds.{Suits}
use Rattle.bb_theorem_machine.specs.Safe.{edges_of, IsSafe}
use Rattle.bb_theorem_machine.proofs.MoveLemmas.{pushes, makes_as}
use Rattle.bb_theorem_machine.proofs.plain.PlainLemmas.{calculate_makes, divide_makes, compare_makes, eq_text_makes, negate_makes, combine_makes, make_interval_makes, bound_makes}
use Rattle.bb_theorem_machine.proofs.plain.LocalLemmas.{load_makes, drop_makes, store_makes}
use Rattle.bb_theorem_machine.proofs.EdgeLemmas.{leads_by}
use Rattle.std.specs.Prelude.{FitsSigned}
use Rattle.std.specs.Int.{w64}
use Rattle.bb_schema_classes.proofs.Laws.{fits_i64}
use Rattle.bb_code.specs.Code.{IsDivisor}

label_by : (name : Option (List ℕ)) → is_some name ≡ true → (x : List ℕ) × (name ≡ Some x)
label_by None is = absurd cc
label_by (Some x) is = (x, refl)

push_text_on : (code : Code) (i : ℕ) (m : Machine) (text : List ℕ) → slice_get code.texts i ≡ Some text → push_text code i m ≡ push (values.Text text) m
unfolding push_text
push_text_on code i m text is = rw is refl

push_label_on : (b : Board) (set label : ℕ) (m : Machine) (name : List ℕ) → name_of_label b.schema set label ≡ Some name → push_label b set label m ≡ push (values.Label set label) m
unfolding push_label
push_label_on b set label m name is = rw is refl

module _ (part : Part) (code : Code) (b : Board) (fits : Fits b.schema b.world) (m : Machine) (f : Frame) (suits : Suits b.schema b.world m f) (e : Option Frame × Option Frame) where
  -- an op that is safe at the state
  abbrev pub Safe : Op → Type 0
  Safe op = edges_of b.schema part code op f ≡ Ok e → IsSafe b.schema m.place op e (step code op (m, b))

  pub push_int_safe : (n : ℤ) → FitsSigned w64 n → Safe (ops.PushInt n)
  unfolding step effect
  push_int_safe n small h = leads_by b fits m (ops.PushInt n) e (frames.push kinds.Int f) (push (values.Int n) m) h
      (λ g is. pushes b.schema b.world m f g (values.Int n) kinds.Int (push_ok kinds.Int f g is) suits (n, refl, fits_i64 n small))

  pub push_bool_safe : (truth : Bool) → Safe (ops.PushBool truth)
  unfolding step effect
  push_bool_safe truth h = leads_by b fits m (ops.PushBool truth) e (frames.push kinds.Bool f) (push (values.Bool truth) m) h
      (λ g is. pushes b.schema b.world m f g (values.Bool truth) kinds.Bool (push_ok kinds.Bool f g is) suits (truth, refl))

  pub push_text_safe : (i : ℕ) (text : List ℕ) → slice_get code.texts i ≡ Some text → nat_le (length text) TEXT_LIMIT ≡ true → Safe (ops.PushText i)
  unfolding step effect
  push_text_safe i text at long h = leads_by b fits m (ops.PushText i) e (frames.push kinds.Text f) (push_text code i m) h
      (λ g is. makes_as b.schema b.world m m g (push (values.Text text) m) (push_text code i m) (push_text_on code i m text at) refl (pushes b.schema b.world m f g (values.Text text) kinds.Text (push_ok kinds.Text f g is) suits (text, refl, long)))

  pub push_label_safe : (set label : ℕ) → is_some (name_of_label b.schema set label) ≡ true → Safe (ops.PushLabel set label)
  unfolding step effect
  push_label_safe set label there h =
      let name = label_by (name_of_label b.schema set label) there in
      leads_by b fits m (ops.PushLabel set label) e (frames.push (kinds.Label set) f) (push_label b set label m) h
      (λ g is. makes_as b.schema b.world m m g (push (values.Label set label) m) (push_label b set label m) (push_label_on b set label m name.0 name.1) refl (pushes b.schema b.world m f g (values.Label set label) (kinds.Label set) (push_ok (kinds.Label set) f g is) suits (label, refl, there)))

  pub load_safe : (l : ℕ) → Safe (ops.Load l)
  unfolding step effect
  load_safe l h = leads_by b fits m (ops.Load l) e (effects.load l f) (load l m) h (λ g is. load_makes b.schema b.world m f g suits l is)

  pub store_safe : (l : ℕ) → nat_le (length m.locals) l ≡ false → Safe (ops.Store l)
  unfolding step effect
  store_safe l there h = leads_by b fits m (ops.Store l) e (effects.store_local l f) (store_local l m) h (λ g is. store_makes b.schema b.world m f g suits l there is)

  pub pop_safe : Safe ops.Pop
  unfolding step effect
  pop_safe h = leads_by b fits m ops.Pop e (effects.drop_one f) (drop_one m) h (λ g is. drop_makes b.schema b.world m f g suits is)

  pub calculate_safe : (c : Calculation) → Safe (ops.Calculate c)
  unfolding step effect
  calculate_safe c h = leads_by b fits m (ops.Calculate c) e (effects.combine kinds.Int kinds.Int f) (calculate c m) h (λ g is. calculate_makes b.schema b.world m f g suits c is)

  pub divide_safe : (d : Division) (n : ℤ) → IsDivisor n → Safe (ops.Divide d n)
  unfolding step effect
  divide_safe d n divisor h = leads_by b fits m (ops.Divide d n) e (effects.turn kinds.Int kinds.Int f) (divide d n m) h (λ g is. divide_makes b.schema b.world m f g suits d n divisor is)

  pub compare_safe : (c : Comparison) → Safe (ops.Compare c)
  unfolding step effect
  compare_safe c h = leads_by b fits m (ops.Compare c) e (effects.combine kinds.Int kinds.Bool f) (compare c m) h (λ g is. compare_makes b.schema b.world m f g suits c is)

  pub eq_text_safe : Safe ops.EqText
  unfolding step effect
  eq_text_safe h = leads_by b fits m ops.EqText e (effects.combine kinds.Text kinds.Bool f) (eq_text m) h (λ g is. eq_text_makes b.schema b.world m f g suits is)

  pub not_safe : Safe ops.Not
  unfolding step effect
  not_safe h = leads_by b fits m ops.Not e (effects.turn kinds.Bool kinds.Bool f) (negate m) h (λ g is. negate_makes b.schema b.world m f g suits is)

  pub combine_safe : (l : Logic) → Safe (ops.Combine l)
  unfolding step effect
  combine_safe l h = leads_by b fits m (ops.Combine l) e (effects.combine kinds.Bool kinds.Bool f) (combine l m) h (λ g is. combine_makes b.schema b.world m f g suits l is)

  pub make_interval_safe : Safe ops.MakeInterval
  unfolding step effect
  make_interval_safe h = leads_by b fits m ops.MakeInterval e (effects.combine kinds.Int kinds.Interval f) (make_interval m) h (λ g is. make_interval_makes b.schema b.world m f g suits is)

  pub bound_safe : (end : Bound) → Safe (ops.BoundOf end)
  unfolding step effect
  bound_safe end h = leads_by b fits m (ops.BoundOf end) e (effects.turn kinds.Interval kinds.Int f) (bound end m) h (λ g is. bound_makes b.schema b.world m f g suits end is)
