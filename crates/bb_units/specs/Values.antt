-- The values of a unit, each under the number of its slot.
use Rattle.std.specs.Prelude.{ℕ, List, [], ◌∷◌, Option, ◌==◌, position}
use Rattle.std.specs.Map.{lookup, set_value}
use Rattle.bb_schema_classes.specs.declared.value.Value.{Value}

-- the value of a slot
abbrev pub value_at : List (ℕ × Value) → ℕ → Option Value
value_at values slot = lookup (λ s. s == slot) values

-- the values with another value for one slot
abbrev pub with_value : List (ℕ × Value) → ℕ → Value → List (ℕ × Value)
with_value values slot value = set_value (λ s. s == slot) values value

abbrev pub place_of : ℕ → List (ℕ × Value) → Option ℕ
place_of slot values = position (λ e. e.0 == slot) values

-- values in the slots of some entries, in their order
abbrev pub in_slots : List (ℕ × Value) → List Value → List (ℕ × Value)
in_slots [] values = []
in_slots (e ∷ es) [] = []
in_slots (e ∷ es) (v ∷ vs) = (e.0, v) ∷ in_slots es vs
