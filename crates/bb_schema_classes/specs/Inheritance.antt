-- The inheritance of classes, and their slots (GBBopen Reference Manual, unit classes).
use Rattle.std.specs.Prelude.{◌≡◌, ◌<◌, ℕ, zero, suc, Bool, false, ◌||◌, ◌==◌, List, [], slice_get, Option, Some, option_and_then}
use Rattle.std.specs.List.{list_any}
use Rattle.std.specs.Option.{option_map_or}
use Rattle.bb_schema_classes.specs.declared.class.Class.{Class}

-- the parent of a class
abbrev pub parent_of : List Class → ℕ → Option ℕ
parent_of classes c = option_and_then (λ k. k.parent) (slice_get classes c)

-- a parent is declared before its children
abbrev pub ParentsAreEarlier : List Class → Type 0
ParentsAreEarlier classes = (c p : ℕ) → parent_of classes c ≡ Some p → p < c

-- c descends from d: it is d, or its parent descends from d
pub data Descends (classes : List Class) : ℕ → ℕ → Type 0 where
  itself : (c : ℕ) → Descends classes c c
  through_parent : (c p d : ℕ) → parent_of classes c ≡ Some p → Descends classes p d → Descends classes c d

-- whether at most n steps up from c reach d
unfoldable pub climbs : ℕ → List Class → ℕ → ℕ → Bool
climbs zero classes c d = c == d
climbs (suc n) classes c d = (c == d) || option_map_or (λ p. climbs n classes p d) (parent_of classes c) false

-- whether c descends from d; parents have lower numbers, so c steps suffice
abbrev pub descends_in : List Class → ℕ → ℕ → Bool
descends_in classes c d = climbs c classes c d

-- all slots of a class, in class order
abbrev pub slots_in : List Class → ℕ → List ℕ
slots_in classes c = option_map_or (λ k. k.slots) (slice_get classes c) []

-- whether the number is in the list
unfoldable pub is_among : List ℕ → ℕ → Bool
is_among listed c = list_any (λ d. d == c) listed
