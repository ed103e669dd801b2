-- Queries of a code that no op names.
use Rattle.std.specs.Prelude.{◌≡◌, ◌<◌, ◌==◌, ℕ, Bool, true, false, not, List, [], ◌∷◌, Some}
use Rattle.std.specs.Prelude.{length, slice_get, slice_set}
use Rattle.std.specs.List.{list_any}
use Rattle.bb_code.specs.Code.{Code}
use Rattle.bb_code.specs.declared.op.Op.{Op}
use Rattle.bb_code.specs.declared.op.Op.TheVariants as ops

-- the op names the query with this index
abbrev pub names : ℕ → Op → Bool
names number (ops.Find query) = query == number
names number _ = false

-- one of the ops names the query with this index
abbrev pub is_named : List Op → ℕ → Bool
is_named ops number = list_any (names number) ops

-- no op of the code names the query with this index
abbrev pub is_unused : Code → ℕ → Bool
is_unused code number = not (is_named code.ops number)

-- the table tells, for every index below `count`, whether one of the ops names that query
pub record IsTold (ops : List Op) (count : ℕ) (table : List Bool) : Type 0 where
  pub size : length table ≡ count
  pub each : (number : ℕ) → number < count → slice_get table number ≡ Some (is_named ops number)

-- a table after the query that an op names is marked
abbrev pub with_named : List Bool → Op → List Bool
with_named table (ops.Find query) = slice_set table query true
with_named table _ = table

-- a table after the queries that ops name are marked
abbrev pub all_named : List Bool → List Op → List Bool
all_named table [] = table
all_named table (op ∷ ops) = all_named (with_named table op) ops
