-- What the layout keeps for each class: its ordinary slots with their defaults.
use Rattle.std.specs.Prelude.{◌≡◌, ℕ, List, map, Option}
use Rattle.std.specs.Global.{Vec}
use Rattle.bb_schema_classes.specs.declared.value.Value.{Value}
use Rattle.bb_units.specs.Layout.{defaults_of}

-- by class, its ordinary slots with their defaults, given all its slots
abbrev pub AreBlocks : List (Vec ℕ) → List (Option Value) → List (List (ℕ × Value)) → Type 0
AreBlocks lists defaults blocks = blocks ≡ map (λ v. defaults_of defaults v.items) lists
