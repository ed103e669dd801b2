-- The blackboard after an ask is applied, or the first reason why it is not applied. Names are looked up here.
use Rattle.std.specs.Prelude.{◌≡◌, ◌⊎◌, ℕ, List, [], ◌∷◌, length, nat_le, Result, Ok, Err, if◌then◌else◌}
use Rattle.bb_basis.specs.Results.{◌>>=◌, ok_or, map_err}
use Rattle.bb_schema_classes.specs.declared.value.Value.{Value}
use Rattle.bb_schema_classes.specs.declared.value.Value.TheVariants as values
use Rattle.bb_schema_classes.specs.declared.value.TheConstants.{TEXT_LIMIT}
use Rattle.bb_schema.specs.Schema.{class_named, slot_named, space_named}
use Rattle.bb_units.specs.Units.{is_live, next_number}
use Rattle.bb_board.specs.declared.note.Said.TheVariants as saids
use Rattle.bb_board.specs.World.{class_at, after_create, after_set, after_say}
use Rattle.bb_board.specs.Links.{after_link, after_unlink}
use Rattle.bb_board.specs.Deletion.{after_delete}
use Rattle.bb_board.specs.Spaces.{may_enter, after_enter, after_leave}
use Rattle.bb_board.specs.May.{may_set, may_link}
use Rattle.bb_board.specs.Board.{Board, with_world, when_refused}
use Rattle.bb_native.specs.declared.ask.Ask.{Ask}
use Rattle.bb_native.specs.declared.ask.Ask.TheVariants as asks
use Rattle.bb_native.specs.declared.refusal.Refusal.TheVariants.{Deleted, Slot, Kind, Space, Class}
use Rattle.bb_native.specs.declared.denial.Denial.{Denial}
use Rattle.bb_native.specs.declared.denial.Denial.TheVariants.{Refused, Full, Memory}
use Rattle.bb_native.specs.Refusals.{denial_of, denial_of_create}

-- refuses a unit that is not live
unfoldable pub live : Board → (unit : ℕ) → Result (Unit {0}) Denial
live b n = if is_live b.world.units n then Ok tt else Err (Refused Deleted)

-- the slot with this name in a unit's class
unfoldable pub slot_due : Board → (unit : ℕ) → (name : List ℕ) → Result ℕ Denial
slot_due b n name = ok_or (slot_named b.schema (class_at b.world n) name) (Refused Slot)

-- the space with this name
unfoldable pub space_due : Board → (name : List ℕ) → Result ℕ Denial
space_due b name = ok_or (space_named b.schema name) (Refused Space)

-- the class with this name
unfoldable pub class_due : Board → (name : List ℕ) → Result ℕ Denial
class_due b name = ok_or (class_named b.schema name) (Refused Class)

unfoldable pub set : Board → (unit : ℕ) → (slot : List ℕ) → Value → Result Board Denial
set b n name value = do
  _ ← live b n
  slot ← slot_due b n name
  _ ← map_err denial_of (may_set b.world n slot value)
  Ok (with_world b (after_set b.schema b.world n slot value))

-- the slot with this name, by which two live units may be linked
unfoldable pub link_due : Board → (unit : ℕ) → (slot : List ℕ) → (other : ℕ) → Result ℕ Denial
link_due b n name m = do
  _ ← live b n
  _ ← live b m
  slot ← slot_due b n name
  _ ← map_err denial_of (may_link b.schema b.world n slot m)
  Ok slot

unfoldable pub link : Board → (unit : ℕ) → (slot : List ℕ) → (other : ℕ) → Result Board Denial
link b n name m = do
  slot ← link_due b n name m
  Ok (with_world b (after_link b.schema b.world n slot m))

unfoldable pub unlink : Board → (unit : ℕ) → (slot : List ℕ) → (other : ℕ) → Result Board Denial
unlink b n name m = do
  slot ← link_due b n name m
  Ok (with_world b (after_unlink b.schema b.world n slot m))

unfoldable pub enter : Board → (unit : ℕ) → (space : List ℕ) → Result Board Denial
enter b n name = do
  _ ← live b n
  space ← space_due b name
  _ ← map_err denial_of (may_enter b.schema b.world n space)
  Ok (with_world b (after_enter b.schema b.world n space))

unfoldable pub leave : Board → (unit : ℕ) → (space : List ℕ) → Result Board Denial
leave b n name = do
  _ ← live b n
  space ← space_due b name
  Ok (with_world b (after_leave b.world n space))

unfoldable pub create : Board → (class : List ℕ) → Result Board Denial
create b name = do
  class ← class_due b name
  _ ← map_err denial_of_create (next_number b.world.units)
  Ok (with_world b (after_create b.world class))

unfoldable pub delete : Board → (unit : ℕ) → Result Board Denial
delete b n = do
  _ ← live b n
  Ok (with_world b (after_delete b.schema b.world n))

-- says a text, if it is not too long
unfoldable pub say : Board → (text : List ℕ) → Result Board Denial
say b text =
    if nat_le (length text) TEXT_LIMIT then Ok (with_world b (after_say b.world (saids.Value (values.Text text) ∷ [])))
    else Err (Refused Kind)

-- the blackboard after an ask, or why the ask is not applied
abbrev pub applied : Ask → Board → Result Board Denial
applied (asks.Set n slot value) b = set b n slot value
applied (asks.Link n slot m) b = link b n slot m
applied (asks.Unlink n slot m) b = unlink b n slot m
applied (asks.Enter n space) b = enter b n space
applied (asks.Leave n space) b = leave b n space
applied (asks.New class) b = create b class
applied (asks.Delete n) b = delete b n
applied (asks.Say text) b = say b text

-- the blackboard after an ask that was not applied: unchanged, or, if memory ran out, unchanged except that it may
-- accept no more changes
abbrev pub Leaves : Denial → (old new : Board) → Type 0
Leaves (Refused refusal) old new = new ≡ old
Leaves Full old new = new ≡ old
Leaves Memory old new = (new ≡ old) ⊎ (new ≡ when_refused old)
