-- Operations, after their operands.
use Rattle.std.specs.Prelude.{ℕ, ℤ, pos, int_lt, Option, Some, None, Ok, if◌then◌else◌}
use Rattle.bb_basis.specs.Results.{◌>>=◌}
use Rattle.bb_code.specs.declared.frame.Kind.{Kind}
use Rattle.bb_code.specs.declared.frame.Kind.TheVariants as kinds
use Rattle.bb_code.specs.declared.op.Op.{Op}
use Rattle.bb_code.specs.declared.op.Op.TheVariants as ops
use Rattle.bb_code.specs.declared.op.Bound.TheVariants as bounds
use Rattle.bb_code.specs.declared.op.Calculation.TheVariants as calculations
use Rattle.bb_code.specs.declared.op.Comparison.TheVariants as comparisons
use Rattle.bb_code.specs.declared.op.Division.{Division as OpDivision}
use Rattle.bb_code.specs.declared.op.Division.TheVariants as op_divisions
use Rattle.bb_code.specs.declared.op.Logic.TheVariants as logics
use Rattle.bb_lang.specs.Unary.{Unary}
use Rattle.bb_lang.specs.Unary.TheVariants as unaries
use Rattle.bb_lang.specs.Binary.{Binary}
use Rattle.bb_lang.specs.Binary.TheVariants as binaries
use Rattle.bb_lang.specs.Operator.{Operator}
use Rattle.bb_lang.specs.Operator.TheVariants as operators
use Rattle.bb_lang.specs.Division.{Division}
use Rattle.bb_lang.specs.Division.TheVariants as divisions
use Rattle.bb_compile_scope.specs.declared.fault.TextFlaw.TheVariants.{Kind as WrongKind, Limit}
use Rattle.bb_compile_scope.specs.Kinds.{equality}
use Rattle.bb_compile_buffer.specs.declared.buffer.Buffer.{Buffer}
use Rattle.bb_compile_buffer.specs.Buffers.{Step, Change, noted, due, put}

-- the kind of a value, if it is known
abbrev pub Made : Type 0
Made = Option Kind

-- an op on one operand of a kind
unfoldable pub one_due : Made → (wanted : Kind) → Op → (gives : Kind) → Step Made
one_due operand wanted op gives s = do
  t ← put op (due operand wanted s)
  Ok (Some gives, t)

-- an op on two operands of a kind
unfoldable pub two_due : (left right : Made) → (wanted : Kind) → Op → (gives : Kind) → Step Made
two_due left right wanted op gives s = do
  t ← put op (due right wanted (due left wanted s))
  Ok (Some gives, t)

-- not, low, high
abbrev pub unary_code : Unary → Made → Step Made
unary_code unaries.Not operand = one_due operand kinds.Bool ops.Not kinds.Bool
unary_code unaries.Low operand = one_due operand kinds.Interval (ops.BoundOf bounds.Low) kinds.Int
unary_code unaries.High operand = one_due operand kinds.Interval (ops.BoundOf bounds.High) kinds.Int

abbrev pub equality_by : Option Op → Change
equality_by None s = Ok (noted WrongKind s)
equality_by (Some op) s = put op s

-- whether two operands are equal
abbrev pub equality_code : (left right : Made) → Change
equality_code (Some l) (Some r) s = equality_by (equality l r) s
equality_code _ _ s = Ok s

-- <, <=, =, min, max, [,]
unfoldable pub binary_code : Binary → (left right : Made) → Step Made
binary_code binaries.Less l r s = two_due l r kinds.Int (ops.Compare comparisons.Lt) kinds.Bool s
binary_code binaries.AtMost l r s = two_due l r kinds.Int (ops.Compare comparisons.Le) kinds.Bool s
binary_code binaries.Equal l r s = equality_code l r s >>= λ t. Ok (Some kinds.Bool, t)
binary_code binaries.Min l r s = two_due l r kinds.Int (ops.Calculate calculations.Min) kinds.Int s
binary_code binaries.Max l r s = two_due l r kinds.Int (ops.Calculate calculations.Max) kinds.Int s
binary_code binaries.Interval l r s = two_due l r kinds.Int ops.MakeInterval kinds.Interval s

-- or, and, +, -, *
abbrev pub operator_code : Operator → (left right : Made) → Step Made
operator_code operators.Or l r = two_due l r kinds.Bool (ops.Combine logics.Or) kinds.Bool
operator_code operators.And l r = two_due l r kinds.Bool (ops.Combine logics.And) kinds.Bool
operator_code operators.Plus l r = two_due l r kinds.Int (ops.Calculate calculations.Add) kinds.Int
operator_code operators.Minus l r = two_due l r kinds.Int (ops.Calculate calculations.Sub) kinds.Int
operator_code operators.Times l r = two_due l r kinds.Int (ops.Calculate calculations.Mul) kinds.Int

abbrev pub division_op : Division → OpDivision
division_op divisions.Quotient = op_divisions.DivBy
division_op divisions.Remainder = op_divisions.ModBy

-- a divisor less than 1 is a flaw
abbrev pub divisor_noted : (divisor : ℤ) → Buffer → Buffer
divisor_noted divisor s = if int_lt divisor (pos 1) then noted Limit s else s

-- /, %: by a number that must be at least 1
unfoldable pub division_code : Division → (divisor : ℤ) → (left : Made) → Step Made
division_code division divisor left s =
    one_due left kinds.Int (ops.Divide (division_op division) divisor) kinds.Int (divisor_noted divisor s)
