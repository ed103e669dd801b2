-- The ops on numbers, truth values, texts and intervals make what the verifier says.
use Rattle.std.proofs.Common.{arith, ◌≡◌, ℕ, ℤ, Bool, true, false, cond, List, ◌∷◌, Ok, refl, ap, ◌∙◌}
use Rattle.std.specs.Prelude.{int_le, int_lt, not}
use Rattle.std.proofs.lemmas.Int.{ints}
use Rattle.std.specs.Str.{bytes_eq}
use Rattle.std.specs.Int.{int_min, int_max}
use Rattle.bb_schema.specs.Schema.{Schema}
use Rattle.bb_board.specs.State.{World}
use Rattle.bb_code.specs.declared.frame.Kind.TheVariants as kinds
use Rattle.bb_code.specs.declared.op.Bound.{Bound}
use Rattle.bb_code.specs.declared.op.Calculation.{Calculation}
use Rattle.bb_code.specs.declared.op.Comparison.{Comparison}
use Rattle.bb_code.specs.declared.op.Division.{Division}
use Rattle.bb_code.specs.declared.op.Logic.{Logic}
use Rattle.bb_verify.specs.FrameType.{Frame}
use Rattle.bb_verify.specs.Effect as effects
use Rattle.bb_verify.proofs.Laws.{turn_ok, combine_ok}
use Rattle.bb_machine.specs.declared.value.Value.{Value}
use Rattle.bb_machine.specs.declared.value.Value.TheVariants.{Int, Text, Bool as Truth, Interval}
use Rattle.bb_machine.specs.Machine.{Machine, with_stack, pop, pop_two, push}
use Rattle.bb_machine.specs.Arithmetic.{calculated, divided, compared, combined, bound_of, calculate, divide, compare, eq_text, negate, combine, make_interval, bound}
use Rattle.bb_theorem_machine.specs.Kinds.{Suits}
use Rattle.bb_theorem_machine.specs.proving.Moves.{Makes}
use Rattle.bb_theorem_machine.proofs.MoveLemmas.{turns, combines}
use Rattle.bb_code.specs.Code.{IsDivisor}
use Rattle.bb_theorem_machine.proofs.plain.RangeLemmas.{calculated_i64, divided_i64, ordered_i64, bound_i64}

-- ---- what each op makes of a stack

calculate_on : (c : Calculation) (m : Machine) (a b : ℤ) (rest : List Value) → m.stack ≡ Int b ∷ Int a ∷ rest → calculate c m ≡ push (Int (calculated c a b)) (with_stack rest m)
unfolding calculate pop_two pop
calculate_on c m a b rest is = rw is refl

divide_on : (d : Division) (n : ℤ) (m : Machine) (a : ℤ) (rest : List Value) → m.stack ≡ Int a ∷ rest → divide d n m ≡ push (Int (divided d a n)) (with_stack rest m)
unfolding divide pop
divide_on d n m a rest is = rw is refl

compare_on : (c : Comparison) (m : Machine) (a b : ℤ) (rest : List Value) → m.stack ≡ Int b ∷ Int a ∷ rest → compare c m ≡ push (Truth (compared c a b)) (with_stack rest m)
unfolding compare pop_two pop
compare_on c m a b rest is = rw is refl

eq_text_on : (m : Machine) (a b : List ℕ) (rest : List Value) → m.stack ≡ Text b ∷ Text a ∷ rest → eq_text m ≡ push (Truth (bytes_eq a b)) (with_stack rest m)
unfolding eq_text pop_two pop
eq_text_on m a b rest is = rw is refl

negate_on : (m : Machine) (b : Bool) (rest : List Value) → m.stack ≡ Truth b ∷ rest → negate m ≡ push (Truth (not b)) (with_stack rest m)
unfolding negate pop
negate_on m b rest is = rw is refl

combine_on : (l : Logic) (m : Machine) (a b : Bool) (rest : List Value) → m.stack ≡ Truth b ∷ Truth a ∷ rest → combine l m ≡ push (Truth (combined l a b)) (with_stack rest m)
unfolding combine pop_two pop
combine_on l m a b rest is = rw is refl

make_interval_on : (m : Machine) (a b : ℤ) (rest : List Value) → m.stack ≡ Int b ∷ Int a ∷ rest → make_interval m ≡ push (Interval (int_min a b) (int_max a b)) (with_stack rest m)
unfolding make_interval pop_two pop
make_interval_on m a b rest is = rw is refl

bound_on : (e : Bound) (m : Machine) (low high : ℤ) (rest : List Value) → m.stack ≡ Interval low high ∷ rest → bound e m ≡ push (Int (bound_of e (low, high))) (with_stack rest m)
unfolding bound pop
bound_on e m low high rest is = rw is refl

in_order_by : (a b : ℤ) (less : Bool) → int_lt b a ≡ less → int_le (cond less b a) (cond less a b) ≡ true
in_order_by a b true is = grind (arith, ints)
in_order_by a b false is = grind (arith, ints)

check_order : (a b : ℤ) → int_le (int_min a b) (int_max a b) ≡ true
check_order a b = in_order_by a b (int_lt b a) refl

-- two equations of entries in one of the stack
stack_of_two : (m : Machine) (v1 v2 a b : Value) (rest : List Value) → m.stack ≡ v2 ∷ v1 ∷ rest → v1 ≡ a → v2 ≡ b → m.stack ≡ b ∷ a ∷ rest
stack_of_two m v1 v2 a b rest is one other = is ∙ (ap (λ (v : Value). v ∷ v1 ∷ rest) other ∙ ap (λ (v : Value). b ∷ v ∷ rest) one)

alone : (m : Machine) (v a : Value) (rest : List Value) → m.stack ≡ v ∷ rest → v ≡ a → m.stack ≡ a ∷ rest
alone m v a rest is one = is ∙ ap (λ (u : Value). u ∷ rest) one

-- ---- the ops

module _ (s : Schema) (w : World) (m : Machine) (f g : Frame) (suits : Suits s w m f) where
  pub calculate_makes : (c : Calculation) → effects.combine kinds.Int kinds.Int f ≡ Ok g → Makes s w m g (calculate c m)
  calculate_makes c h = combines s w m f g kinds.Int kinds.Int kinds.Int (calculate c m) (combine_ok kinds.Int kinds.Int f g h) suits
      (λ v1 v2 rest is one other. (Int (calculated c one.0 other.0), (calculated c one.0 other.0, refl, calculated_i64 c one.0 other.0 one.2 other.2), calculate_on c m one.0 other.0 rest (stack_of_two m v1 v2 (Int one.0) (Int other.0) rest is one.1 other.1)))

  pub divide_makes : (d : Division) (n : ℤ) → IsDivisor n → effects.turn kinds.Int kinds.Int f ≡ Ok g → Makes s w m g (divide d n m)
  divide_makes d n divisor h = turns s w m f g kinds.Int kinds.Int (divide d n m) (turn_ok kinds.Int kinds.Int f g h) suits
      (λ v rest is one. (Int (divided d one.0 n), (divided d one.0 n, refl, divided_i64 d one.0 n divisor one.2), divide_on d n m one.0 rest (alone m v (Int one.0) rest is one.1)))

  pub compare_makes : (c : Comparison) → effects.combine kinds.Int kinds.Bool f ≡ Ok g → Makes s w m g (compare c m)
  compare_makes c h = combines s w m f g kinds.Int kinds.Int kinds.Bool (compare c m) (combine_ok kinds.Int kinds.Bool f g h) suits
      (λ v1 v2 rest is one other. (Truth (compared c one.0 other.0), (compared c one.0 other.0, refl), compare_on c m one.0 other.0 rest (stack_of_two m v1 v2 (Int one.0) (Int other.0) rest is one.1 other.1)))

  pub eq_text_makes : effects.combine kinds.Text kinds.Bool f ≡ Ok g → Makes s w m g (eq_text m)
  eq_text_makes h = combines s w m f g kinds.Text kinds.Text kinds.Bool (eq_text m) (combine_ok kinds.Text kinds.Bool f g h) suits
      (λ v1 v2 rest is one other. (Truth (bytes_eq one.0 other.0), (bytes_eq one.0 other.0, refl), eq_text_on m one.0 other.0 rest (stack_of_two m v1 v2 (Text one.0) (Text other.0) rest is one.1 other.1)))

  pub negate_makes : effects.turn kinds.Bool kinds.Bool f ≡ Ok g → Makes s w m g (negate m)
  negate_makes h = turns s w m f g kinds.Bool kinds.Bool (negate m) (turn_ok kinds.Bool kinds.Bool f g h) suits
      (λ v rest is one. (Truth (not one.0), (not one.0, refl), negate_on m one.0 rest (alone m v (Truth one.0) rest is one.1)))

  pub combine_makes : (l : Logic) → effects.combine kinds.Bool kinds.Bool f ≡ Ok g → Makes s w m g (combine l m)
  combine_makes l h = combines s w m f g kinds.Bool kinds.Bool kinds.Bool (combine l m) (combine_ok kinds.Bool kinds.Bool f g h) suits
      (λ v1 v2 rest is one other. (Truth (combined l one.0 other.0), (combined l one.0 other.0, refl), combine_on l m one.0 other.0 rest (stack_of_two m v1 v2 (Truth one.0) (Truth other.0) rest is one.1 other.1)))

  pub make_interval_makes : effects.combine kinds.Int kinds.Interval f ≡ Ok g → Makes s w m g (make_interval m)
  make_interval_makes h = combines s w m f g kinds.Int kinds.Int kinds.Interval (make_interval m) (combine_ok kinds.Int kinds.Interval f g h) suits
      (λ v1 v2 rest is one other. (Interval (int_min one.0 other.0) (int_max one.0 other.0), (int_min one.0 other.0, int_max one.0 other.0, refl, ordered_i64 one.0 other.0 one.2 other.2 (check_order one.0 other.0)), make_interval_on m one.0 other.0 rest (stack_of_two m v1 v2 (Int one.0) (Int other.0) rest is one.1 other.1)))

  pub bound_makes : (e : Bound) → effects.turn kinds.Interval kinds.Int f ≡ Ok g → Makes s w m g (bound e m)
  bound_makes e h = turns s w m f g kinds.Interval kinds.Int (bound e m) (turn_ok kinds.Interval kinds.Int f g h) suits
      (λ v rest is one. (Int (bound_of e (one.0, one.1)), (bound_of e (one.0, one.1), refl, bound_i64 e one.0 one.1 one.3), bound_on e m one.0 one.1 rest (alone m v (Interval one.0 one.1) rest is one.2)))
