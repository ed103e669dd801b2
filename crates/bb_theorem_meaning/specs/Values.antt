-- Operations on values.
use Rattle.std.specs.Prelude.{ℕ, ℤ, ◌+ℤ◌, ◌-ℤ◌, ◌*ℤ◌, int_le, int_lt, Bool, not, ◌&&◌, ◌||◌, ◌==◌, Ok, if◌then◌else◌}
use Rattle.std.specs.Int.{w64, saturate_signed, int_min, int_max, int_div_euclid, int_rem_euclid}
use Rattle.std.specs.Ordering.{int_eq}
use Rattle.std.specs.Str.{bytes_eq}
use Rattle.bb_basis.specs.Results.{◌>>=◌}
use Rattle.bb_lang.specs.Unary.{Unary}
use Rattle.bb_lang.specs.Unary.TheVariants.{Not, Low, High}
use Rattle.bb_lang.specs.Binary.{Binary}
use Rattle.bb_lang.specs.Binary.TheVariants as binaries
use Rattle.bb_lang.specs.Operator.{Operator}
use Rattle.bb_lang.specs.Operator.TheVariants.{Or, And, Plus, Minus, Times}
use Rattle.bb_lang.specs.Division.{Division}
use Rattle.bb_lang.specs.Division.TheVariants.{Quotient, Remainder}
use Rattle.bb_machine.specs.declared.value.Value.{Value}
use Rattle.bb_machine.specs.declared.value.Value.TheVariants.{Int, Text, Bool as Truth, Label, Interval, Unit as One}
use Rattle.bb_theorem_meaning.specs.Meaning.{Meaning, nothing}

-- ---- values of the kind that is needed

abbrev pub number : Value → Meaning ℤ
number (Int n) = Ok n
number _ = nothing

abbrev pub truth : Value → Meaning Bool
truth (Truth b) = Ok b
truth _ = nothing

-- the lower end and the higher one
abbrev pub interval : Value → Meaning (ℤ × ℤ)
interval (Interval low high) = Ok (low, high)
interval _ = nothing

abbrev pub unit : Value → Meaning ℕ
unit (One n) = Ok n
unit _ = nothing

-- ---- one operand

unfoldable pub unary_value : Unary → Value → Meaning Value
unary_value Not v = truth v >>= λ b. Ok (Truth (not b))
unary_value Low v = interval v >>= λ i. Ok (Int i.0)
unary_value High v = interval v >>= λ i. Ok (Int i.1)

-- ---- two operands

-- two numbers, or two truth values
unfoldable pub of_numbers : (ℤ → ℤ → Value) → (left right : Value) → Meaning Value
of_numbers f left right = do
  a ← number left
  b ← number right
  Ok (f a b)

unfoldable pub of_truths : (Bool → Bool → Bool) → (left right : Value) → Meaning Value
of_truths f left right = do
  a ← truth left
  b ← truth right
  Ok (Truth (f a b))

-- results saturate at the ends of 64 bits
abbrev pub cut_off : ℤ → Value
cut_off n = Int (saturate_signed w64 n)

-- two numbers, two texts, two labels of one set, or two units, which may have been deleted
abbrev pub equal : (left right : Value) → Meaning Value
equal (Int a) (Int b) = Ok (Truth (int_eq a b))
equal (Text a) (Text b) = Ok (Truth (bytes_eq a b))
equal (Label set a) (Label of b) = if set == of then Ok (Truth (a == b)) else nothing
equal (One a) (One b) = Ok (Truth (a == b))
equal _ _ = nothing

unfoldable pub binary_value : Binary → (left right : Value) → Meaning Value
binary_value binaries.Less = of_numbers (λ a b. Truth (int_lt a b))
binary_value binaries.AtMost = of_numbers (λ a b. Truth (int_le a b))
binary_value binaries.Equal = equal
binary_value binaries.Min = of_numbers (λ a b. Int (int_min a b))
binary_value binaries.Max = of_numbers (λ a b. Int (int_max a b))
binary_value binaries.Interval = of_numbers (λ a b. Interval (int_min a b) (int_max a b))

-- ---- an operator of a chain

unfoldable pub operator_value : Operator → (left right : Value) → Meaning Value
operator_value Or = of_truths (λ a b. a || b)
operator_value And = of_truths (λ a b. a && b)
operator_value Plus = of_numbers (λ a b. cut_off (a +ℤ b))
operator_value Minus = of_numbers (λ a b. cut_off (a -ℤ b))
operator_value Times = of_numbers (λ a b. cut_off (a *ℤ b))

-- a division by a number greater than 0: quotients are rounded down
unfoldable pub division_value : Division → (divisor : ℤ) → Value → Meaning Value
division_value Quotient divisor v = number v >>= λ a. Ok (Int (int_div_euclid a divisor))
division_value Remainder divisor v = number v >>= λ a. Ok (Int (int_rem_euclid a divisor))
