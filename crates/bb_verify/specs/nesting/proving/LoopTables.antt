-- Tables of the loops of a code, indexed by place.
use Rattle.std.specs.Prelude.{◌≡◌, ℕ, ◌+◌, ◌<◌, ◌≤◌, Bool, ◌==◌, ◌&&◌, nat_le, nat_lt, List, length, Some, slice_get, slice_index}
use Rattle.std.specs.List.{list_any}
use Rattle.bb_code.specs.Code.{Code}
use Rattle.bb_code.specs.declared.frame.Loop.{Loop}
use Rattle.bb_verify.specs.declared.nesting.loop_tables.LoopTables.{LoopTables}
use Rattle.bb_verify.specs.nesting.Loops.{holds, is_end}

-- a loop with this head ends after the place
abbrev pub reaches : (head place : ℕ) → Loop → Bool
reaches head place l = (l.head == head) && nat_lt place l.end

-- a loop holds the place and has its head at `low` or after
abbrev pub holds_from : (low place : ℕ) → Loop → Bool
holds_from low place l = holds place l && nat_le low l.head

-- for each place, whether a loop ends there
pub record HasEnds (count : ℕ) (loops : List Loop) (ends : List Bool) : Type 0 where
  pub len : length ends ≡ count
  pub each : (place : ℕ) → place < count → slice_get ends place ≡ Some (list_any (is_end place) loops)

-- for each place, the maximum end of the loops with their heads there, or 0
pub record HasReach (count : ℕ) (loops : List Loop) (reach : List ℕ) : Type 0 where
  pub len : length reach ≡ count
  pub each : (head : ℕ) → head < count → (place : ℕ) → list_any (reaches head place) loops ≡ nat_lt place (slice_index reach head)

-- `found` is 1 plus the maximum head from which a loop extends past the place, or 0
pub record IsDeepest (reach : List ℕ) (place found : ℕ) : Type 0 where
  pub low : found ≤ place + 1
  pub none : (head : ℕ) → found ≤ head → head ≤ place → slice_index reach head ≤ place
  pub some : (head : ℕ) → head + 1 ≡ found → place < slice_index reach head

-- at index place + 1: 1 plus the maximum head from which a loop extends past the place, or 0; at index 0: 0
pub record HasDeepest (count : ℕ) (reach deepest : List ℕ) : Type 0 where
  pub len : length deepest ≡ count + 1
  pub first : slice_index deepest 0 ≡ 0
  pub each : (place : ℕ) → place < count → IsDeepest reach place (slice_index deepest (place + 1))

-- at index place + 1: 1 plus the maximum head of the loops that hold the place, or 0; for the loops 1-5 and 2-4 of 6
-- ops: 0 0 2 3 3 2 0
pub record HasHeads (count : ℕ) (loops : List Loop) (deepest : List ℕ) : Type 0 where
  pub len : length deepest ≡ count + 1
  pub each : (place : ℕ) → place < count → (low : ℕ) → list_any (holds_from low place) loops ≡ nat_lt low (slice_index deepest (place + 1))

-- the tables of a code
pub record HasTables (code : Code) (tables : LoopTables) : Type 0 where
  pub ends : HasEnds (length code.ops + 1) code.loops tables.ends
  pub heads : HasHeads (length code.ops) code.loops tables.deepest
