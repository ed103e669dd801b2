-- Units that are found one after another, each once, and the parts of a unit in the order in which they are found.
use Rattle.std.specs.Prelude.{◌≡◌, ℕ, List, [], ◌∷◌, ◌++◌, nat_eq, if◌then◌else◌}
use Rattle.std.specs.List.{IsDistinct, flat_map}
use Rattle.std.specs.Ordering.{nat_cmp}
use Rattle.std.specs.BTreeSet.{BTreeSet, contains}
use Rattle.bb_schema.specs.Schema.{Schema, slots_of}
use Rattle.bb_links.specs.Links.{ends}
use Rattle.bb_schema.specs.Ownership.{owns}
use Rattle.bb_board.specs.State.{World}
use Rattle.bb_board.specs.World.{class_at}
use Rattle.bb_board.specs.proving.Deleted.{is_of}

-- one unit more, unless it was found before
abbrev pub found_more : List ℕ → ℕ → List ℕ
found_more found n = if is_of found n then found else found ++ n ∷ []

-- distinct units, and the set of them
pub record AreFound (found : List ℕ) (known : BTreeSet ℕ) : Type 0 where
  pub same : (n : ℕ) → contains nat_cmp known n ≡ is_of found n
  pub distinct : IsDistinct nat_eq found

-- the parts that a unit has by a slot
abbrev pub parts_by : Schema → World → (unit slot : ℕ) → List ℕ
parts_by s w n slot = if owns s slot then ends w.links n slot else []

-- the parts of a unit
abbrev pub parts_of : Schema → World → (unit : ℕ) → List ℕ
parts_of s w n = flat_map (parts_by s w n) (slots_of s (class_at w n))
