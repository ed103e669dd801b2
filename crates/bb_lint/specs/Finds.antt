-- Searches that find nothing.
use Rattle.std.specs.Prelude.{ℕ, Bool, false, not, List, filter, length, slice_get}
use Rattle.std.specs.List.{list_any, range_with_len}
use Rattle.std.specs.Option.{option_map_or}
use Rattle.bb_schema.specs.Schema.{Schema, descends}
use Rattle.bb_schema.specs.Spaces.{allowed}
use Rattle.bb_code.specs.Code.{Code}
use Rattle.bb_code.specs.Query.{Query}
use Rattle.bb_code.specs.declared.op.Op.{Op}
use Rattle.bb_code.specs.declared.op.Op.TheVariants as ops

-- the classes that a space admits, in ascending order
abbrev pub admitted_classes : Schema → (space : ℕ) → List ℕ
admitted_classes s space = filter (allowed s space) (range_with_len 0 (length s.classes))

-- neither the query's class nor any class below it is admitted by the query's space
abbrev pub is_barren : Schema → Query → Bool
is_barren s q = not (list_any (λ c. descends s c q.class) (admitted_classes s q.space))

-- the op's query finds nothing
abbrev pub finds_nothing : Schema → Code → Op → Bool
finds_nothing s code (ops.Find query) = option_map_or (is_barren s) (slice_get code.queries query) false
finds_nothing s code _ = false
