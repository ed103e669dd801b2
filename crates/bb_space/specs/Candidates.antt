-- The members that are candidates for a test, judged by the low end of an interval or by the label.
use Rattle.std.specs.Prelude.{ℕ, Bool, false, List, filter, slice_get}
use Rattle.std.specs.Option.{option_map_or}
use Rattle.std.specs.FinMap as fin
use Rattle.bb_space.specs.declared.index.leaf.Leaf.{Leaf}
use Rattle.bb_space.specs.index.Candidates.{may_pass, dim_of}
use Rattle.bb_space.specs.Spaces.{Membership}

-- whether the unit is a member whose value on the dimension can pass
abbrev pub is_candidate : Membership → Leaf → ℕ → Bool
is_candidate m leaf n =
    option_map_or (λ told. option_map_or (may_pass leaf) (slice_get told (dim_of leaf)) false) (fin.get m n) false

-- the members whose value on the dimension can pass, ascending
abbrev pub candidates_of : Membership → Leaf → List ℕ
candidates_of m leaf = filter (is_candidate m leaf) (fin.keys m)
