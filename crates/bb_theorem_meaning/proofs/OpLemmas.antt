-- What ops on values make is what values become by the text.
use Rattle.std.proofs.Common.{◌≡◌, ℕ, Bool, true, false, cond, List, ◌∷◌, length, Result, Ok, refl, ap}
use Rattle.std.specs.Prelude.{ℤ, nat_le, not, ◌==◌}
use Rattle.std.specs.Int.{int_min, int_max}
use Rattle.std.specs.Str.{bytes_eq}
use Rattle.bb_basis.specs.Results.{◌>>=◌}
use Rattle.bb_code.specs.declared.op.Bound.{Bound}
use Rattle.bb_code.specs.declared.op.Bound.TheVariants as bounds
use Rattle.bb_code.specs.declared.op.Calculation.{Calculation}
use Rattle.bb_code.specs.declared.op.Comparison.{Comparison}
use Rattle.bb_code.specs.declared.op.Comparison.TheVariants as comparisons
use Rattle.bb_code.specs.declared.op.Division.{Division as OpDivision}
use Rattle.bb_code.specs.declared.op.Logic.{Logic}
use Rattle.bb_code.specs.declared.parts.TheConstants.{STACK_LIMIT}
use Rattle.bb_code.specs.Code.{Code}
use Rattle.bb_code.specs.declared.op.Op.TheVariants as ops
use Rattle.bb_board.specs.Board.{Board}
use Rattle.bb_machine.specs.Arithmetic.{calculated, divided, compared, combined, bound_of, calculate, divide, compare, eq_text, eq_label, eq_unit, negate, combine, make_interval, bound}
use Rattle.bb_machine.specs.Changing.{State}
use Rattle.bb_machine.specs.declared.halt.Halt.{Halt}
use Rattle.bb_machine.specs.Machine.{Machine, with_stack, pop, pop_two, room, push}
use Rattle.bb_machine.specs.Step.{step, keeps}
use Rattle.bb_machine.specs.declared.outcome.Stuck.TheVariants as reasons
use Rattle.bb_machine.specs.Value.{stuck, int_of, text_of, bool_of, label_of, interval_of, unit_of}
use Rattle.bb_machine.specs.declared.value.Value.{Value}
use Rattle.bb_machine.specs.declared.value.Value.TheVariants.{Int, Text, Bool as Truth, Label, Interval, Unit as One}
use Rattle.bb_lang.specs.Unary.TheVariants as unaries
use Rattle.bb_theorem_meaning.specs.Meaning.{Meaning, nothing}
use Rattle.bb_theorem_meaning.specs.Values.{unary_value, of_numbers, of_truths, equal, number}
use Rattle.bb_theorem_meaning.proofs.ComeLemmas.{Leaves, done_on}

-- a value more on the stack than in another state, and nothing else
pub record Pushed (n : ℕ) (base : State) (v : Value) (next : State) : Type 0 where
  pub place : next.0.place ≡ n
  pub locals : next.0.locals ≡ base.0.locals
  pub stack : next.0.stack ≡ v ∷ base.0.stack
  pub board : next.1 ≡ base.1

-- a machine and its blackboard are as in another state, but for the place
pub record Like (n : ℕ) (base : State) (m : Machine) (b : Board) : Type 0 where
  pub place : m.place ≡ n
  pub locals : m.locals ≡ base.0.locals
  pub stack : m.stack ≡ base.0.stack
  pub board : b ≡ base.1

module _ (n : ℕ) (base : State) (m : Machine) (b : Board) (like : Like n base m b) where
  room_by : (v : Value) (no_room : Bool) → Leaves (Pushed n base) (Ok v) (done_on b (keeps b ((let r : Result (Unit {0}) Halt = cond no_room (stuck reasons.Outside) (Ok tt) in r) >>= λ _. Ok (with_stack (v ∷ m.stack) m))))
  room_by v true = tt
  room_by v false = (v, refl, record { place = like.place; locals = like.locals; stack = ap (λ vs. v ∷ vs) like.stack; board = like.board })

  pub push_leaves : (v : Value) → Leaves (Pushed n base) (Ok v) (done_on b (keeps b (push v m)))
  unfolding push room
  push_leaves v = room_by v (nat_le STACK_LIMIT (length m.stack))

  pub numbers_leave : (f : ℤ → ℤ → Value) (v w : Value) → Leaves (Pushed n base) (of_numbers f v w) (done_on b (keeps b (int_of v >>= λ x. int_of w >>= λ y. push (f x y) m)))
  unfolding of_numbers
  numbers_leave f (Int x) (Int y) = push_leaves (f x y)
  numbers_leave f (Int x) _ = tt
  numbers_leave f _ w = tt

  pub truths_leave : (f : Bool → Bool → Bool) (v w : Value) → Leaves (Pushed n base) (of_truths f v w) (done_on b (keeps b (bool_of v >>= λ x. bool_of w >>= λ y. push (Truth (f x y)) m)))
  unfolding of_truths
  truths_leave f (Truth x) (Truth y) = push_leaves (Truth (f x y))
  truths_leave f (Truth x) _ = tt
  truths_leave f _ w = tt

  pub number_leaves : (f : ℤ → Value) (v : Value) → Leaves (Pushed n base) (number v >>= λ x. Ok (f x)) (done_on b (keeps b (int_of v >>= λ x. push (f x) m)))
  number_leaves f (Int x) = push_leaves (f x)
  number_leaves f _ = tt

  pub not_leaves : (v : Value) → Leaves (Pushed n base) (unary_value unaries.Not v) (done_on b (keeps b (bool_of v >>= λ x. push (Truth (not x)) m)))
  unfolding unary_value
  not_leaves (Truth x) = push_leaves (Truth (not x))
  not_leaves _ = tt

  pub low_leaves : (v : Value) → Leaves (Pushed n base) (unary_value unaries.Low v) (done_on b (keeps b (interval_of v >>= λ i. push (Int (bound_of bounds.Low i)) m)))
  unfolding unary_value
  low_leaves (Interval low high) = push_leaves (Int low)
  low_leaves _ = tt

  pub high_leaves : (v : Value) → Leaves (Pushed n base) (unary_value unaries.High v) (done_on b (keeps b (interval_of v >>= λ i. push (Int (bound_of bounds.High i)) m)))
  unfolding unary_value
  high_leaves (Interval low high) = push_leaves (Int high)
  high_leaves _ = tt

  -- whether two values are equal
  pub equal_numbers : (v w : Value) → Leaves (Pushed n base) (equal v w) (done_on b (keeps b (int_of v >>= λ x. int_of w >>= λ y. push (Truth (compared comparisons.EqInt x y)) m)))
  equal_numbers (Int x) (Int y) = push_leaves (Truth (compared comparisons.EqInt x y))
  equal_numbers (Int x) _ = tt
  equal_numbers _ w = tt

  pub equal_texts : (v w : Value) → Leaves (Pushed n base) (equal v w) (done_on b (keeps b (text_of v >>= λ x. text_of w >>= λ y. push (Truth (bytes_eq x y)) m)))
  equal_texts (Text x) (Text y) = push_leaves (Truth (bytes_eq x y))
  equal_texts (Text x) _ = tt
  equal_texts _ w = tt

  pub equal_units : (v w : Value) → Leaves (Pushed n base) (equal v w) (done_on b (keeps b (unit_of v >>= λ x. unit_of w >>= λ y. push (Truth (x == y)) m)))
  equal_units (One x) (One y) = push_leaves (Truth (x == y))
  equal_units (One x) _ = tt
  equal_units _ w = tt

  labels_by : (same : Bool) (x y : ℕ) → Leaves (Pushed n base) (let r : Meaning Value = cond same (Ok (Truth (x == y))) nothing in r) (done_on b (keeps b (cond same (push (Truth (x == y)) m) (stuck reasons.Kind))))
  labels_by true x y = push_leaves (Truth (x == y))
  labels_by false x y = tt

  pub equal_labels : (v w : Value) → Leaves (Pushed n base) (equal v w) (done_on b (keeps b (label_of v >>= λ x. label_of w >>= λ y. cond (x.0 == y.0) (push (Truth (x.1 == y.1)) m) (stuck reasons.Kind))))
  equal_labels (Label set x) (Label of y) = labels_by (set == of) x y
  equal_labels (Label set x) _ = tt
  equal_labels _ w = tt

-- ---- what each op does with the newest entries

module _ (code : Code) (m : Machine) (b : Board) (rest : List Value) where
  abbrev left : Machine
  left = with_stack rest m

  module _ (v w : Value) (is : m.stack ≡ w ∷ v ∷ rest) where
    pub calculate_on : (c : Calculation) → step code (ops.Calculate c) (m, b) ≡ keeps b (int_of v >>= λ x. int_of w >>= λ y. push (Int (calculated c x y)) left)
    unfolding step calculate pop_two pop
    calculate_on c = rw is refl

    pub compare_on : (c : Comparison) → step code (ops.Compare c) (m, b) ≡ keeps b (int_of v >>= λ x. int_of w >>= λ y. push (Truth (compared c x y)) left)
    unfolding step compare pop_two pop
    compare_on c = rw is refl

    pub combine_on : (l : Logic) → step code (ops.Combine l) (m, b) ≡ keeps b (bool_of v >>= λ x. bool_of w >>= λ y. push (Truth (combined l x y)) left)
    unfolding step combine pop_two pop
    combine_on l = rw is refl

    pub make_interval_on : step code ops.MakeInterval (m, b) ≡ keeps b (int_of v >>= λ x. int_of w >>= λ y. push (Interval (int_min x y) (int_max x y)) left)
    unfolding step make_interval pop_two pop
    make_interval_on = rw is refl

    pub eq_text_on : step code ops.EqText (m, b) ≡ keeps b (text_of v >>= λ x. text_of w >>= λ y. push (Truth (bytes_eq x y)) left)
    unfolding step eq_text pop_two pop
    eq_text_on = rw is refl

    pub eq_unit_on : step code ops.EqUnit (m, b) ≡ keeps b (unit_of v >>= λ x. unit_of w >>= λ y. push (Truth (x == y)) left)
    unfolding step eq_unit pop_two pop
    eq_unit_on = rw is refl

    pub eq_label_on : step code ops.EqLabel (m, b) ≡ keeps b (label_of v >>= λ x. label_of w >>= λ y. cond (x.0 == y.0) (push (Truth (x.1 == y.1)) left) (stuck reasons.Kind))
    unfolding step eq_label pop_two pop
    eq_label_on = rw is refl

  module _ (v : Value) (is : m.stack ≡ v ∷ rest) where
    pub divide_on : (d : OpDivision) (by : ℤ) → step code (ops.Divide d by) (m, b) ≡ keeps b (int_of v >>= λ x. push (Int (divided d x by)) left)
    unfolding step divide pop
    divide_on d by = rw is refl

    pub negate_on : step code ops.Not (m, b) ≡ keeps b (bool_of v >>= λ x. push (Truth (not x)) left)
    unfolding step negate pop
    negate_on = rw is refl

    pub bound_on : (e : Bound) → step code (ops.BoundOf e) (m, b) ≡ keeps b (interval_of v >>= λ i. push (Int (bound_of e i)) left)
    unfolding step bound pop
    bound_on e = rw is refl
