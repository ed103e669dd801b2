-- What a change leaves of earlier units.
use Rattle.std.specs.Prelude.{◌≡◌, ◌≤◌, ◌<◌, ℕ, Some}
use Rattle.bb_units.specs.Units.{Units, class_of}

-- units before a change, and after it
pub record Outlives (old new : Units) : Type 0 where
  -- a number given out stays given out
  pub next : old.next ≤ new.next
  -- a live unit with such a number was live before, in the same class: deleted units do not come back
  pub classes : (n class : ℕ) → n < old.next → class_of new n ≡ Some class → class_of old n ≡ Some class
