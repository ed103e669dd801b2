-- The units that remain after marking.
use Rattle.std.specs.Prelude.{◌≡◌, ℕ, ◌-◌, Bool, true, nat_lt, List, Some, filter, slice_get, if◌then◌else◌}
use Rattle.std.specs.Option.{option_map_or}
use Rattle.std.specs.BTreeSet.{BTreeSet}
use Rattle.bb_space.specs.declared.index.leaf.Leaf.{Leaf}
use Rattle.bb_space.specs.declared.index.place.Place.{Place}
use Rattle.bb_space.specs.declared.index.thin.Marks.{Marks}
use Rattle.bb_space.specs.index.proving.Stretches.{is_near}

-- whether the unit is marked or has no mark; the marks belong to consecutive units, beginning with the first
abbrev pub is_kept : ℕ → List Bool → ℕ → Bool
is_kept first marks n = if nat_lt n first then true else option_map_or (λ mark. mark) (slice_get marks (n - first)) true

abbrev pub is_left : Marks → ℕ → Bool
is_left marks n = is_kept marks.first marks.marks.items n

-- the list keeps every unit that passes a test at least as strict
abbrev pub LeavesNear : (ℕ → Bool) → List ℕ → List ℕ → Type 0
LeavesNear near among list =
    (passes : ℕ → Bool) → ((n : ℕ) → passes n ≡ true → near n ≡ true) → filter passes list ≡ filter passes among

-- the list keeps every unit that passes a test at least as strict as each of several
abbrev pub LeavesAllNear : List Leaf → BTreeSet Place → List ℕ → List ℕ → Type 0
LeavesAllNear tests places among list =
    (passes : ℕ → Bool) → ((k : ℕ) (test : Leaf) → slice_get tests k ≡ Some test
    → (n : ℕ) → passes n ≡ true → is_near test places n ≡ true) → filter passes list ≡ filter passes among
