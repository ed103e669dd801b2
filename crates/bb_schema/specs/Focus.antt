-- The slots of the built-in class, which are the first slots of every schema.
use Rattle.std.specs.Prelude.{pos, true, List, [], ◌∷◌, codes}
use Rattle.bb_schema_classes.specs.declared.value.Value.TheVariants.{Int, Text, Bool as Truth}
use Rattle.bb_schema.specs.declared.slot.Slot.{Slot}
use Rattle.bb_schema.specs.declared.slot.Content.TheVariants.{Default}

-- two texts, a number and a truth value
abbrev pub focus_slots : List Slot
focus_slots = record { name = codes "source"; owner = 0; content = Default (Text []) }
    ∷ record { name = codes "area"; owner = 0; content = Default (Text []) }
    ∷ record { name = codes "weight"; owner = 0; content = Default (Int (pos 0)) }
    ∷ record { name = codes "active"; owner = 0; content = Default (Truth true) } ∷ []
