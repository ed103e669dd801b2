-- For each space, a list of the classes that it admits.
use Rattle.std.specs.Prelude.{◌≡◌, ℕ, Some, List, slice_get}
use Rattle.std.specs.Global.{Vec}
use Rattle.bb_schema.specs.Schema.{Schema}
use Rattle.bb_lint.specs.Finds.{admitted_classes}

-- every list has the classes admitted by the space with its number
abbrev pub AreAdmitted : Schema → List (Vec ℕ) → Type 0
AreAdmitted s lists =
    (space : ℕ) (list : Vec ℕ) → slice_get lists space ≡ Some list → list.items ≡ admitted_classes s space
