-- Which readers call which without opening a bracket: each has a higher rank than the readers it calls.
use Rattle.std.specs.Prelude.{ℕ}
use Rattle.bb_lang.specs.declared.level.Level.{Level}
use Rattle.bb_lang.specs.declared.level.Level.TheVariants.{Or, And, Sum, Term}

-- the rank of the operands of a level
abbrev pub rank : Level → ℕ
rank Term = 4
rank Sum = 8
rank And = 13
rank Or = 17
