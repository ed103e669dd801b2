-- A blackboard with the numbers that its units have after its document is loaded: numbers of deleted units are reused,
-- and the order of the units is unchanged.
use Rattle.std.specs.Prelude.{◌≡◌, ℕ, ◌+◌, nat_lt, [], map, filter, length}
use Rattle.std.specs.Ordering.{nat_cmp}
use Rattle.std.specs.FinMap as fin
use Rattle.bb_units.specs.Units.{live_units}
use Rattle.bb_links.specs.Layout.{slot_ends}
use Rattle.bb_links.specs.Couples.{Couple, with_pairs}
use Rattle.bb_board.specs.State.{World}
use Rattle.bb_native.specs.Sight.{Sight}

-- the new number of a unit: one more than the count of live units with lower numbers
abbrev pub renamed : World → (unit : ℕ) → ℕ
renamed w n = length (filter (λ m. nat_lt m n) (live_units w.units)) + 1

-- a map with units as keys, under their new numbers
abbrev pub with_new_keys : {X : Type 0} → World → fin.FinMap nat_cmp X → fin.FinMap nat_cmp X
with_new_keys w m = fin.from_entries (map (λ e. (renamed w e.0, e.1)) (fin.entries m))

-- a couple with the new numbers in its pairs, in the same order
abbrev pub with_new_pairs : World → Couple → Couple
with_new_pairs w k = with_pairs k (map (λ p. (renamed w p.0, renamed w p.1)) k.pairs)

-- the units, their links and the members of spaces under the new numbers, with no notes left to take. The ends of the
-- couples are those of the schema, as on every blackboard that fits it.
abbrev pub renumbered : Sight → World
renumbered seen = let w = seen.world in record {
  units = record { next = fin.len w.units.units + 1; units = with_new_keys w w.units.units; layout = w.units.layout };
  links = record { couples = map (with_new_pairs w) w.links.couples; ends = slot_ends seen.schema };
  spaces = record { spaces = map (with_new_keys w) w.spaces.spaces };
  notes = [];
}

-- no number below the next one is missing, for example because no unit was deleted
abbrev pub HasNoGap : World → Type 0
HasNoGap w = w.units.next ≡ fin.len w.units.units + 1

-- the units, their links and the members of spaces under their present numbers, with no notes left to take
abbrev pub with_same_numbers : Sight → World
with_same_numbers seen = let w = seen.world in record {
  units = w.units;
  links = record { couples = w.links.couples; ends = slot_ends seen.schema };
  spaces = w.spaces;
  notes = [];
}
