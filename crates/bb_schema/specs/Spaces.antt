-- Which units a space admits.
use Rattle.std.specs.Prelude.{ℕ, Bool, List, [], slice_get}
use Rattle.std.specs.List.{list_any, Any}
use Rattle.std.specs.Option.{option_map_or}
use Rattle.bb_schema_classes.specs.Inheritance.{Descends, descends_in}
use Rattle.bb_schema.specs.Schema.{Schema}

-- the classes that a space lists
abbrev pub classes_in : Schema → ℕ → List ℕ
classes_in s w = option_map_or (λ p. p.classes) (slice_get s.spaces w) []

-- whether the class descends from a class that the space lists
abbrev pub allowed : Schema → ℕ → ℕ → Bool
allowed s w c = list_any (λ d. descends_in s.classes c d) (classes_in s w)

-- the class descends from a class that the space lists
abbrev pub IsAllowed : Schema → ℕ → ℕ → Type 0
IsAllowed s w c = Any (Descends s.classes c) (classes_in s w)
