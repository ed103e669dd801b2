-- The document of initial units for the contents of a blackboard: an entry for each live unit, for each link, and for
-- each space that a unit is in. Notes and the numbers themselves are not in the document.
use Rattle.std.specs.Prelude.{ℕ, List, [], ◌∷◌, map, Option, option_and_then, unwrap_or, codes, decimal}
use Rattle.std.specs.Option.{option_map_or}
use Rattle.std.specs.List.{flat_map, fold}
use Rattle.serde_json.specs.Data.{Data, string, object, Members, no_members, member, put}
use Rattle.serde_json.specs.Written.{compact_text}
use Rattle.bb_schema_classes.specs.declared.value.Value.{Value}
use Rattle.bb_schema.specs.Schema.{default_of, slots_of, name_of_class, name_of_slot, name_of_space}
use Rattle.bb_schema.specs.Couples.{couples}
use Rattle.bb_units.specs.Units.{live_units, value_of}
use Rattle.bb_links.specs.Links.{pairs_by}
use Rattle.bb_space.specs.Spaces.{spaces_of}
use Rattle.bb_board.specs.World.{class_at}
use Rattle.bb_native.specs.Sight.{Sight}
use Rattle.bb_board_document.specs.Renumbered.{renamed}
use Rattle.bb_board_document.specs.Values.{unless_same, list_data, name_data, value_data}

-- the name of a unit: its new number, in decimal
abbrev pub name_of : Sight → (unit : ℕ) → List ℕ
name_of seen n = decimal (renamed seen.world n)

-- the value of a unit's ordinary slot, if it isn't the default
abbrev pub changed_value : Sight → (unit slot : ℕ) → Option Value
changed_value seen n slot =
    option_and_then (λ default. option_and_then (unless_same default) (value_of seen.world.units n slot))
    (default_of seen.schema slot)

-- the members of an object, with a slot's value added under the slot's name if it isn't the default
abbrev pub with_given : Sight → (unit : ℕ) → Members → (slot : ℕ) → Members
with_given seen n members slot =
    option_map_or
    (λ value. put (unwrap_or (name_of_slot seen.schema slot) []) (value_data seen.schema value) members)
    (changed_value seen n slot) members

-- the values of a unit of a class that aren't defaults, each under the name of its slot
abbrev pub given_data : Sight → (unit class : ℕ) → Data
given_data seen n class = object (fold (with_given seen n) no_members (slots_of seen.schema class))

-- the entry of a unit: its class, its name, and its values that aren't defaults
abbrev pub unit_data : Sight → (unit : ℕ) → Data
unit_data seen n = let class = class_at seen.world n in
    object (member (codes "class") (name_data (name_of_class seen.schema class))
    (member (codes "name") (string (name_of seen n)) (member (codes "slots") (given_data seen n class) no_members)))

-- the entry of a link: the unit at side A of a couple, its slot, and the unit that the link leads to
abbrev pub link_data : Sight → (slot : ℕ) → (pair : ℕ × ℕ) → Data
link_data seen slot p =
    list_data (string (name_of seen p.0) ∷ name_data (name_of_slot seen.schema slot) ∷ string (name_of seen p.1) ∷ [])

-- the entries of the links of a couple, given by its slot at side A, in the order of linking
abbrev pub links_by : Sight → (slot : ℕ) → List Data
links_by seen slot = map (link_data seen slot) (pairs_by seen.world.links slot)

-- the entry of a unit in a space
abbrev pub member_data : Sight → (unit space : ℕ) → Data
member_data seen n space = list_data (string (name_of seen n) ∷ name_data (name_of_space seen.schema space) ∷ [])

-- the entries of a unit in its spaces, ascending
abbrev pub members_of : Sight → (unit : ℕ) → List Data
members_of seen n = map (member_data seen n) (spaces_of seen.world.spaces n)

-- the whole document: links couple by couple, units in spaces and units in ascending order
abbrev pub units_data : Sight → Data
units_data seen = let live = live_units seen.world.units in
    object (member (codes "links") (list_data (flat_map (links_by seen) (couples seen.schema)))
    (member (codes "spaces") (list_data (flat_map (members_of seen) live))
    (member (codes "units") (list_data (map (unit_data seen) live)) no_members)))

-- the text of the document
abbrev pub units_text : Sight → List ℕ
units_text seen = compact_text (units_data seen)
