-- The built-in class and its slots, which are the first class and the first slots in every result of a walk.
use Rattle.std.specs.Prelude.{pos, true, List, [], ◌∷◌, None, codes}
use Rattle.bb_schema_classes.specs.declared.class.Class.{Class}
use Rattle.bb_schema_classes.specs.declared.value.Value.TheVariants.{Int, Text, Bool as Truth}
use Rattle.bb_schema_classes.specs.declared.draft.Draft.{Draft}
use Rattle.bb_schema_classes.specs.declared.draft.DraftContent.TheVariants.{Default}

-- `focus` has no parent, and the slots 0 to 3
abbrev pub focus_class : Class
focus_class = record { name = codes "focus"; parent = None; slots = 0 ∷ 1 ∷ 2 ∷ 3 ∷ [] }

-- the slots of `focus` are two texts, a number and a truth value
abbrev pub focus_drafts : List Draft
focus_drafts = record { name = codes "source"; owner = 0; content = Default (Text []) }
    ∷ record { name = codes "area"; owner = 0; content = Default (Text []) }
    ∷ record { name = codes "weight"; owner = 0; content = Default (Int (pos 0)) }
    ∷ record { name = codes "active"; owner = 0; content = Default (Truth true) } ∷ []
