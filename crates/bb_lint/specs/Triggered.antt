-- Sources that are triggered without end, or never.
use Rattle.std.specs.Prelude.{ℤ, Bool, true, false, not, ◌&&◌, int_lt, is_some}
use Rattle.std.specs.List.{list_any}
use Rattle.std.specs.Option.{option_map_or}
use Rattle.bb_code.specs.declared.op.Op.{Op}
use Rattle.bb_code.specs.declared.op.Op.TheVariants as ops
use Rattle.bb_verify.specs.Accepted.{Checked}
use Rattle.bb_rules.specs.declared.clause.Clause.{Clause}
use Rattle.bb_rules.specs.declared.clause.Clause.TheVariants as clauses
use Rattle.bb_rules.specs.Parts.{Source}

-- the clause names quiescence
abbrev pub is_quiescence : Clause → Bool
is_quiescence clauses.Quiescence = true
is_quiescence (clauses.Change kind class) = false

-- a clause that triggers the source names quiescence
abbrev pub at_quiescence : Source → Bool
at_quiescence s = list_any is_quiescence s.triggers

-- each quiescence gives the source an activation with its rate, which is not below the floor
abbrev pub is_restless : (floor : ℤ) → Source → Bool
is_restless floor s =
    not (is_some s.require) && not (is_some s.retrigger) && not (int_lt s.rate floor) && at_quiescence s

-- the op ends with a rating
abbrev pub is_rating : Op → Bool
is_rating ops.Rate = true
is_rating _ = false

abbrev pub rates : Checked → Bool
rates c = list_any is_rating c.code.ops

-- the source has a `require` without a rating, so that no event triggers it
abbrev pub never_rates : Source → Bool
never_rates s = option_map_or (λ c. not (rates c)) s.require false
