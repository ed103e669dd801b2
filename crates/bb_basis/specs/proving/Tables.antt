-- The invariant of tables: how the parts of a table agree.
use Rattle.std.specs.Prelude.{◌≡◌, ◌≤◌, ℕ, List, map, length}
use Rattle.bb_basis.specs.declared.table.TheConstants.{ITEM_LIMIT}

pub record IsTable {X : Type 0} (name_of : X → List ℕ) (items : List X) (names : List (List ℕ)) : Type 0 where
  -- the names are those of the items, in order
  pub named : names ≡ map name_of items
  pub few : length items ≤ ITEM_LIMIT
