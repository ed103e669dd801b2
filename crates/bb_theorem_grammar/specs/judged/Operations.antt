-- Operations: the kind of their results, and the flaws of their operands.
use Rattle.std.specs.Prelude.{ℤ, pos, int_lt, List, [], ◌++◌, Option, Some, is_some}
use Rattle.bb_code.specs.declared.frame.Kind.{Kind}
use Rattle.bb_code.specs.declared.frame.Kind.TheVariants as kinds
use Rattle.bb_lang.specs.Unary.{Unary}
use Rattle.bb_lang.specs.Unary.TheVariants as unaries
use Rattle.bb_lang.specs.Binary.{Binary}
use Rattle.bb_lang.specs.Binary.TheVariants as binaries
use Rattle.bb_lang.specs.Operator.{Operator}
use Rattle.bb_lang.specs.Operator.TheVariants as operators
use Rattle.bb_compile_scope.specs.declared.fault.TextFlaw.{TextFlaw}
use Rattle.bb_compile_scope.specs.declared.fault.TextFlaw.TheVariants.{Kind as WrongKind, Limit}
use Rattle.bb_compile_scope.specs.Kinds.{equality}
use Rattle.bb_theorem_grammar.specs.judged.Flaws.{unless, if_so, if_other}

-- not, low, high: the kind of the operand, and of the result
abbrev pub unary_wants : Unary → Kind
unary_wants unaries.Not = kinds.Bool
unary_wants unaries.Low = kinds.Interval
unary_wants unaries.High = kinds.Interval

abbrev pub unary_gives : Unary → Kind
unary_gives unaries.Not = kinds.Bool
unary_gives unaries.Low = kinds.Int
unary_gives unaries.High = kinds.Int

-- two operands of one kind
abbrev pub if_either_other : (left right : Option Kind) → (wanted : Kind) → List TextFlaw
if_either_other left right wanted = if_other left wanted ++ if_other right wanted

-- two values that cannot be compared are a flaw
abbrev pub if_unequal : (left right : Option Kind) → List TextFlaw
if_unequal (Some left) (Some right) = unless (is_some (equality left right)) WrongKind
if_unequal _ _ = []

-- <, <=, =, min, max, [,]
abbrev pub binary_flaws : Binary → (left right : Option Kind) → List TextFlaw
binary_flaws binaries.Less left right = if_either_other left right kinds.Int
binary_flaws binaries.AtMost left right = if_either_other left right kinds.Int
binary_flaws binaries.Equal left right = if_unequal left right
binary_flaws binaries.Min left right = if_either_other left right kinds.Int
binary_flaws binaries.Max left right = if_either_other left right kinds.Int
binary_flaws binaries.Interval left right = if_either_other left right kinds.Int

abbrev pub binary_gives : Binary → Kind
binary_gives binaries.Less = kinds.Bool
binary_gives binaries.AtMost = kinds.Bool
binary_gives binaries.Equal = kinds.Bool
binary_gives binaries.Min = kinds.Int
binary_gives binaries.Max = kinds.Int
binary_gives binaries.Interval = kinds.Interval

-- or, and, +, -, *: the kind of the operands and of the result
abbrev pub operator_kind : Operator → Kind
operator_kind operators.Or = kinds.Bool
operator_kind operators.And = kinds.Bool
operator_kind operators.Plus = kinds.Int
operator_kind operators.Minus = kinds.Int
operator_kind operators.Times = kinds.Int

-- /, %: by a number that must be at least 1
abbrev pub division_flaws : (divisor : ℤ) → (left : Option Kind) → List TextFlaw
division_flaws divisor left = if_so (int_lt divisor (pos 1)) Limit ++ if_other left kinds.Int
