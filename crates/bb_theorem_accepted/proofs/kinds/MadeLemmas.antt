-- What operations make has whatever numbers, truths and intervals have.
use Rattle.std.proofs.Common.{ℕ, ◌-◌, Some, Result, Ok, Err}
use Rattle.bb_basis.specs.Results.{◌>>=◌}
use Rattle.bb_schema.specs.Schema.{Schema}
use Rattle.bb_code.specs.declared.frame.Kind.{Kind}
use Rattle.bb_code.specs.declared.frame.Kind.TheVariants as kinds
use Rattle.bb_code.specs.declared.op.Op.{Op}
use Rattle.bb_code.specs.declared.op.Op.TheVariants as ops
use Rattle.bb_lang.specs.Binary.{Binary}
use Rattle.bb_lang.specs.Binary.TheVariants as binaries
use Rattle.bb_lang.specs.Operator.{Operator}
use Rattle.bb_lang.specs.Operator.TheVariants as operators
use Rattle.bb_lang.specs.Trees.{Steps, no_step, apply, divide}
use Rattle.bb_lang.specs.Unary.{Unary}
use Rattle.bb_lang.specs.Unary.TheVariants as unaries
use Rattle.bb_compile_scope.specs.declared.fault.CompileFault.{CompileFault}
use Rattle.bb_compile_buffer.specs.declared.buffer.Buffer.{Buffer}
use Rattle.bb_compile_buffer.specs.Buffers.{put, put_value}
use Rattle.bb_compile_buffer.specs.Operations.{Made, one_due, two_due, unary_code, equality_code, binary_code, operator_code, division_code}
use Rattle.bb_compile_buffer.specs.Atoms.{pushed}
use Rattle.bb_compile.specs.Expressions.{expr_code, steps_code}

module _ (P : Made → Type 0) where
  -- it holds of what an answer makes
  abbrev pub Makes : Result (Made × Buffer) CompileFault → Type 0
  Makes (Ok p) = P p.0
  Makes (Err e) = Unit {0}

  pub makes_then : {X : Type 0} (r : Result X CompileFault) (f : X → Result (Made × Buffer) CompileFault) → ((x : X) → Makes (f x)) → Makes (r >>= f)
  makes_then (Ok x) f each = each x
  makes_then (Err e) f each = tt

  pub makes_on : (r : Result (Made × Buffer) CompileFault) (f : Made × Buffer → Result (Made × Buffer) CompileFault) → Makes r → ((p : Made × Buffer) → P p.0 → Makes (f p)) → Makes (r >>= f)
  makes_on (Ok p) f own each = each p own
  makes_on (Err e) f own each = tt

  pub pushed_makes : (op : Op) (k : Kind) (room : ℕ) (t : Buffer) → P (Some k) → Makes (pushed op k room t)
  unfolding pushed
  pushed_makes op k room t own = makes_then (put_value op room t) (λ u. Ok (Some k, u)) (λ u. own)

  one_makes : (operand : Made) (wanted : Kind) (op : Op) (k : Kind) (t : Buffer) → P (Some k) → Makes (one_due operand wanted op k t)
  unfolding one_due
  one_makes operand wanted op k t own = makes_then (put op _) (λ u. Ok (Some k, u)) (λ u. own)

  two_make : (l r : Made) (wanted : Kind) (op : Op) (k : Kind) (t : Buffer) → P (Some k) → Makes (two_due l r wanted op k t)
  unfolding two_due
  two_make l r wanted op k t own = makes_then (put op _) (λ u. Ok (Some k, u)) (λ u. own)

  module _ (int : P (Some kinds.Int)) (truth : P (Some kinds.Bool)) (interval : P (Some kinds.Interval)) where
    pub unary_makes : (operation : Unary) (operand : Made) (t : Buffer) → Makes (unary_code operation operand t)
    unary_makes unaries.Not operand t = one_makes operand kinds.Bool ops.Not kinds.Bool t truth
    unary_makes unaries.Low operand t = one_makes operand kinds.Interval _ kinds.Int t int
    unary_makes unaries.High operand t = one_makes operand kinds.Interval _ kinds.Int t int

    pub binary_makes : (operation : Binary) (l r : Made) (t : Buffer) → Makes (binary_code operation l r t)
    unfolding binary_code
    binary_makes binaries.Less l r t = two_make l r kinds.Int _ kinds.Bool t truth
    binary_makes binaries.AtMost l r t = two_make l r kinds.Int _ kinds.Bool t truth
    binary_makes binaries.Equal l r t = makes_then (equality_code l r t) (λ u. Ok (Some kinds.Bool, u)) (λ u. truth)
    binary_makes binaries.Min l r t = two_make l r kinds.Int _ kinds.Int t int
    binary_makes binaries.Max l r t = two_make l r kinds.Int _ kinds.Int t int
    binary_makes binaries.Interval l r t = two_make l r kinds.Int ops.MakeInterval kinds.Interval t interval

    operator_makes : (operator : Operator) (l r : Made) (t : Buffer) → Makes (operator_code operator l r t)
    operator_makes operators.Or l r t = two_make l r kinds.Bool _ kinds.Bool t truth
    operator_makes operators.And l r t = two_make l r kinds.Bool _ kinds.Bool t truth
    operator_makes operators.Plus l r t = two_make l r kinds.Int _ kinds.Int t int
    operator_makes operators.Minus l r t = two_make l r kinds.Int _ kinds.Int t int
    operator_makes operators.Times l r t = two_make l r kinds.Int _ kinds.Int t int

    -- what is asked before steps: nothing where there is one
    abbrev pub Needs : Steps → Made → Type 0
    Needs no_step left = P left
    Needs (apply operator e steps) left = Unit {0}
    Needs (divide division divisor steps) left = Unit {0}

    pub needed : (steps : Steps) (left : Made) → P left → Needs steps left
    needed no_step left own = own
    needed (apply operator e steps) left own = tt
    needed (divide division divisor steps) left own = tt

    module _ (s : Schema) where
      pub steps_make : (steps : Steps) (room : ℕ) (left : Made) (t : Buffer) → Needs steps left → Makes (steps_code s room left steps t)
      unfolding steps_code division_code
      steps_make no_step room left t own = own
      steps_make (apply operator e steps) room left t own =
          makes_then (expr_code s (room - 1) e t) (λ p. operator_code operator left p.0 p.1 >>= λ q. steps_code s room q.0 steps q.1)
          (λ p. makes_on (operator_code operator left p.0 p.1) (λ q. steps_code s room q.0 steps q.1) (operator_makes operator left p.0 p.1) (λ q made. steps_make steps room q.0 q.1 (needed steps q.0 made)))
      steps_make (divide division divisor steps) room left t own =
          makes_on (division_code division divisor left t) (λ p. steps_code s room p.0 steps p.1) (one_makes left kinds.Int _ kinds.Int _ int) (λ p made. steps_make steps room p.0 p.1 (needed steps p.0 made))
