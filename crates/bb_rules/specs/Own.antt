-- Questions whose first ops show that the answer is no for every pending activation whose unit is not the event's. The
-- notion is this project's own.
use Rattle.std.specs.Prelude.{ℕ, Bool, true, false, not, ◌&&◌, ◌||◌, ◌+◌, ◌==◌, nat_le, nat_lt, Option, Some, slice_get}
use Rattle.bb_code.specs.Code.{Code}
use Rattle.bb_code.specs.declared.op.Op.{Op}
use Rattle.bb_code.specs.declared.op.Op.TheVariants as ops

-- the local of the activation's unit
abbrev pub IT : ℕ
IT = 0

-- the local of the event's unit
abbrev pub EV : ℕ
EV = 1

-- the op pushes the value of this local
abbrev pub loads : ℕ → Option Op → Bool
loads local (Some (ops.Load l)) = l == local
loads local _ = false

-- the op compares two units
abbrev pub compares_units : Option Op → Bool
compares_units (Some ops.EqUnit) = true
compares_units _ = false

-- the op ends with a truth value as the answer
abbrev pub answers : Option Op → Bool
answers (Some ops.Answer) = true
answers _ = false

-- this op at a place, with the next one, makes the answer no
abbrev pub says_no : Code → ℕ → Option Op → Bool
says_no code place (Some ops.Decline) = true
says_no code place (Some (ops.PushBool truth)) = not truth && answers (slice_get code.ops (place + 1))
says_no code place _ = false

-- this op, after a comparison in the first three, makes the answer no if the comparison was false
abbrev pub refuses : Code → Option Op → Bool
refuses code (Some ops.Answer) = true
refuses code (Some (ops.Unless place)) = nat_lt 3 place && says_no code place (slice_get code.ops place)
refuses code _ = false

-- the first three ops compare the activation's unit with the event's
abbrev pub begins_with_own : Code → Bool
begins_with_own code =
    (loads IT (slice_get code.ops 0) && loads EV (slice_get code.ops 1)
    || loads EV (slice_get code.ops 0) && loads IT (slice_get code.ops 1))
    && compares_units (slice_get code.ops 2)

-- the code begins with that comparison, and its answer is no if the units differ
abbrev pub asks_own : Code → Bool
asks_own code = nat_le 2 code.locals && begins_with_own code && refuses code (slice_get code.ops 3)
