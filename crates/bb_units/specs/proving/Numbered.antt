-- The live units by their numbers: a list gives each number a key, and a slab stores the unit under that key. No public
-- clause cites it.
use Rattle.std.specs.Prelude.{◌≡◌, ℕ, ◌+◌, ◌<◌, ◌==◌, List, map as list_map, Option, Some, option_map, option_and_then}
use Rattle.std.specs.Prelude.{slice_get, position}
use Rattle.std.specs.List.{AllByRecursion, filter_map}
use Rattle.std.specs.List.Sorted.{IsStrictlySortedBy}
use Rattle.std.specs.Option.{option_map_or}
use Rattle.std.specs.Map.{keys_of, lookup, set_value}
use Rattle.std.specs.Ordering.{nat_cmp}
use Rattle.std.specs.FinMap as map
use Rattle.slab.specs.Slab.{Slab, get, ContainsKey, slab_len, with_value}
use Rattle.bb_schema_classes.specs.declared.value.Value.{Value}
use Rattle.bb_units.specs.declared.unit.Unit.{Unit}
use Rattle.bb_units.specs.Units.{units_of, with_slot, with_value_of}

pub record Given : Type 0 where
  -- the number that the next unit gets
  pub next : ℕ
  -- each live unit under its number
  pub units : map.FinMap nat_cmp Unit

abbrev pub none_given : Given
none_given = record { next = 1; units = map.empty }

-- the live units with a new one, under the next number
abbrev pub one_given : Given → Unit → Given
one_given g x = record { next = g.next + 1; units = map.insert g.units g.next x }

-- the live units without one
abbrev pub one_gone : Given → ℕ → Given
one_gone g n = record { next = g.next; units = map.remove g.units n }

-- the live units with another value in a slot of one
abbrev pub one_set : Given → ℕ → ℕ → Value → Given
one_set g n slot value = record { next = g.next; units = with_value_of g.units n slot value }

-- the slab that stores the units
abbrev pub UnitSlab : Type 0
UnitSlab = Slab Unit

-- each number with its contents, without the gaps
abbrev pub held : {X : Type 0} → List (ℕ × Option X) → List (ℕ × X)
held entries = filter_map (λ e. option_map (λ x. (e.0, x)) e.1) entries

-- each number with the unit under its key in the slab
abbrev pub stored : UnitSlab → List (ℕ × Option ℕ) → List (ℕ × Option Unit)
stored s entries = list_map (λ e. (e.0, option_and_then (get s) e.1)) entries

-- each live unit under its number
abbrev pub units_in : UnitSlab → List (ℕ × Option ℕ) → map.FinMap nat_cmp Unit
units_in s entries = units_of (held (stored s entries))

-- the number of an entry, if it has a key
abbrev pub number_if_used : {X : Type 0} → ℕ × Option X → Option ℕ
number_if_used e = option_map (λ _. e.0) e.1

-- the slab with another value in a slot of the unit under a key
abbrev pub slab_set : UnitSlab → ℕ → ℕ → Value → UnitSlab
slab_set s key slot value = option_map_or (λ x. with_value s key (with_slot x slot value)) (get s key) s

-- the numbers rise along the entries
abbrev pub Rise : {X : Type 0} → List (ℕ × Option X) → Type 0
Rise entries = IsStrictlySortedBy nat_cmp (keys_of entries)

-- the entry at the place has the number
abbrev pub IsAt : List (ℕ × Option ℕ) → ℕ → ℕ → Type 0
IsAt entries place n = option_map (λ e. e.0) (slice_get entries place) ≡ Some n

abbrev pub place_in : ℕ → List (ℕ × Option ℕ) → Option ℕ
place_in n entries = position (λ e. n == e.0) entries

-- the key of a number, if its unit is live
abbrev pub key_in : ℕ → List (ℕ × Option ℕ) → Option ℕ
key_in n entries = option_and_then (λ key. key) (lookup (λ k. n == k) entries)

-- entries with another key, or none, for a number
abbrev pub with_entry : ℕ → List (ℕ × Option ℕ) → Option ℕ → List (ℕ × Option ℕ)
with_entry n entries key = set_value (λ k. n == k) entries key

-- each key belongs to one number, and the slab has a unit under it
pub record AreKept (entries : List (ℕ × Option ℕ)) (s : UnitSlab) : Type 0 where
  pub owner : ℕ → ℕ
  pub owned : (n key : ℕ) → key_in n entries ≡ Some key → owner key ≡ n
  pub there : (n key : ℕ) → key_in n entries ≡ Some key → ContainsKey s key

-- the invariant of the entries and the units that the code keeps
pub record AreNumbered (next : ℕ) (entries : List (ℕ × Option ℕ)) (s : UnitSlab) : Type 0 where
  pub rise : Rise entries
  pub below : AllByRecursion (λ n. n < next) (keys_of entries)
  pub kept : AreKept entries s
  -- the slab has no other units
  pub counted : map.len (units_in s entries) ≡ slab_len s

-- whenever the old entries are valid, the new ones are too, and give each number the same unit
abbrev pub HaveSame : List (ℕ × Option ℕ) → List (ℕ × Option ℕ) → Type 0
HaveSame old new =
    (next : ℕ) (s : UnitSlab) → AreNumbered next old s → AreNumbered next new s × (units_in s new ≡ units_in s old)
