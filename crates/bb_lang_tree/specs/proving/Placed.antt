-- The invariant of places.
use Rattle.std.specs.Prelude.{ℕ, ◌+◌, ◌<◌, ◌^◌}
use Rattle.bb_lang_tree.specs.declared.place.Place.{Place}

-- every line and column in the `left` bytes from a place on fits in 64 bits
pub record IsPlaced (place : Place) (left : ℕ) : Type 0 where
  pub line : place.line + left < 2 ^ 64
  pub column : place.column + left < 2 ^ 64
