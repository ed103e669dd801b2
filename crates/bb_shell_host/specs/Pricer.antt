-- What the pricer sees, and what it asks.
use Rattle.std.specs.Prelude.{ℕ, ℤ, pos, ◌*ℤ◌, codes, option_and_then}
use Rattle.std.specs.Option.{option_map_or}
use Rattle.std.specs.Int.{saturate_signed, w64}
use Rattle.bb_schema.specs.Schema.{slot_named}
use Rattle.bb_units.specs.Units.{class_of, value_of}
use Rattle.bb_shell.specs.Sight.{Sight}
use Rattle.bb_shell.specs.Value.{Value}
use Rattle.bb_shell.specs.Value.TheVariants as values

abbrev pub number_in : Value → ℤ
number_in (values.Int n) = n
number_in _ = pos 0

-- the number in the slot `weight` of a unit that is live and has one; otherwise 0
abbrev pub weight_of : Sight → (unit : ℕ) → ℤ
weight_of seen unit = option_map_or number_in
    (option_and_then (λ class. option_and_then (λ slot. value_of seen.world.units unit slot)
    (slot_named seen.schema class (codes "weight"))) (class_of seen.world.units unit)) (pos 0)

abbrev pub price_of : (weight : ℤ) → ℤ
price_of weight = saturate_signed w64 (weight *ℤ pos 3)
