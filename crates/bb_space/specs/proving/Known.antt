-- The recorded results of consecutive units: whether each passes some tests, or nothing.
use Rattle.std.specs.Prelude.{◌≡◌, ℕ, ◌+◌, Bool, List, Option, Some, slice_get}
use Rattle.bb_space.specs.declared.index.leaf.Leaf.{Leaf}
use Rattle.bb_space.specs.Passing.{passes}
use Rattle.bb_space.specs.Spaces.{Membership}

-- every recorded result is true
abbrev pub AreKnown : Membership → List Leaf → ℕ → List (Option Bool) → Type 0
AreKnown m tests first table =
    (k : ℕ) (b : Bool) → slice_get table k ≡ Some (Some b) → passes m tests (first + k) ≡ b
