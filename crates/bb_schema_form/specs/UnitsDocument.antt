-- The document of initial units: what it declares, and its form.
use Rattle.std.specs.Prelude.{ℕ, ℤ, Bool, List, [], ◌∷◌, map, Option, None, Some, option_map, Result, Ok, Err, codes, string_bytes, if◌then◌else◌}
use Rattle.std.specs.Option.{option_map_or}
use Rattle.serde_json.specs.Data.{Data, null, boolean, number, string, array, object, Members, no_members, member}
use Rattle.serde_json.specs.Find.{get, as_i64, as_object}
use Rattle.serde_json.specs.Read.{read}
use Rattle.bb_basis.specs.Results.{◌>>=◌, ok_or, try_map_at}
use Rattle.bb_schema_form.specs.declared.document.FirstLinkEntry.{FirstLinkEntry}
use Rattle.bb_schema_form.specs.declared.document.GivenEntry.{GivenEntry}
use Rattle.bb_schema_form.specs.declared.document.GivenValue.{GivenValue}
use Rattle.bb_schema_form.specs.declared.document.GivenValue.TheVariants.{Int, Text, Bool as Truth, Interval, Other}
use Rattle.bb_schema_form.specs.declared.document.MemberEntry.{MemberEntry}
use Rattle.bb_schema_form.specs.declared.document.UnitEntry.{UnitEntry}
use Rattle.bb_schema_form.specs.declared.document.UnitsDocument.{UnitsDocument}
use Rattle.bb_schema_form.specs.declared.fault.DocumentFault.{DocumentFault}
use Rattle.bb_schema_form.specs.declared.fault.DocumentFault.TheVariants.{Json}
use Rattle.bb_schema_form.specs.Faults.{misshapen, inside}
use Rattle.bb_schema_form.specs.declared.place.ListKey.TheVariants as lists
use Rattle.bb_schema_form.specs.Shapes.{list_of, is_object_with, as_list, text_at, list_at}
use Rattle.bb_schema_form.specs.Form.{text_of, ends_of}

-- a value that an initial unit gives for a slot; a label is given as its text, and other_value fits no slot
pub data ValueDeclaration : Type 0 where
  int_value : ℤ → ValueDeclaration
  text_value : List ℕ → ValueDeclaration
  bool_value : Bool → ValueDeclaration
  interval_value : ℤ → ℤ → ValueDeclaration
  other_value : ValueDeclaration

-- a slot's name, and the value given for it
pub record GivenDeclaration : Type 0 where
  pub slot : List ℕ
  pub value : ValueDeclaration

-- an initial unit: its name, by which its document refers to it, its class, and its values for slots
pub record UnitDeclaration : Type 0 where
  pub name : List ℕ
  pub class : List ℕ
  pub slots : List GivenDeclaration

-- a link between initial units: a unit, its link slot, and the unit that it leads to, by their names
pub record FirstLinkDeclaration : Type 0 where
  pub from : List ℕ
  pub slot : List ℕ
  pub to : List ℕ

-- an initial unit that is a member of a space, by their names
pub record MemberDeclaration : Type 0 where
  pub unit : List ℕ
  pub space : List ℕ

-- a whole document
pub record UnitsDeclaration : Type 0 where
  pub units : List UnitDeclaration
  pub links : List FirstLinkDeclaration
  pub spaces : List MemberDeclaration

-- what each entry declares
abbrev pub value_declaration : GivenValue → ValueDeclaration
value_declaration (Int z) = int_value z
value_declaration (Text s) = text_value (string_bytes s)
value_declaration (Truth b) = bool_value b
value_declaration (Interval lo hi) = interval_value lo hi
value_declaration Other = other_value

abbrev pub given_declaration : GivenEntry → GivenDeclaration
given_declaration e = record { slot = string_bytes e.slot; value = value_declaration e.value }

abbrev pub unit_declaration : UnitEntry → UnitDeclaration
unit_declaration e = record {
  name = string_bytes e.name;
  class = string_bytes e.class;
  slots = map given_declaration e.slots.items;
}

abbrev pub first_link_declaration : FirstLinkEntry → FirstLinkDeclaration
first_link_declaration e = record { from = string_bytes e.from; slot = string_bytes e.slot; to = string_bytes e.to }

abbrev pub member_declaration : MemberEntry → MemberDeclaration
member_declaration e = record { unit = string_bytes e.unit; space = string_bytes e.space }

abbrev pub units_declaration : UnitsDocument → UnitsDeclaration
units_declaration d = record {
  units = map unit_declaration d.units.items;
  links = map first_link_declaration d.links.items;
  spaces = map member_declaration d.spaces.items;
}

-- the value that JSON gives: an i64, a text, a truth value, two such numbers in order, or any other
abbrev pub given_value_of : Data → ValueDeclaration
given_value_of null = other_value
given_value_of (boolean b) = bool_value b
given_value_of (number n) = option_map_or int_value (as_i64 n) other_value
given_value_of (string s) = text_value s
given_value_of (array ds) = option_map_or (λ ends. interval_value ends.0 ends.1) (ends_of (list_of ds)) other_value
given_value_of (object ms) = other_value

-- the values that the members of an object give, in order
abbrev pub givens_of : Members → List GivenDeclaration
givens_of no_members = []
givens_of (member k d ms) = record { slot = k; value = given_value_of d } ∷ givens_of ms

-- the values of a unit for slots: an object with any keys and values; an absent object is empty
unfoldable pub given_slots_of : Option Data → Result (List GivenDeclaration) DocumentFault
given_slots_of None = Ok []
given_slots_of (Some d) = ok_or (option_map givens_of (as_object d)) misshapen

-- an initial unit: an object with a name, a class, optional slots, and nothing else
unfoldable pub unit_of : Data → Result UnitDeclaration DocumentFault
unit_of d = if is_object_with (codes "name" ∷ codes "class" ∷ codes "slots" ∷ []) d then (do
  name ← ok_or (text_at (codes "name") d) misshapen
  class ← ok_or (text_at (codes "class") d) misshapen
  slots ← given_slots_of (get (codes "slots") d)
  Ok (record { name = name; class = class; slots = slots })) else Err misshapen

-- a link from exactly three names
unfoldable pub first_link_of_names : List Data → Result FirstLinkDeclaration DocumentFault
first_link_of_names [] = Err misshapen
first_link_of_names (a ∷ []) = Err misshapen
first_link_of_names (a ∷ b ∷ []) = Err misshapen
first_link_of_names (a ∷ b ∷ c ∷ []) = do
  from ← text_of a
  slot ← text_of b
  to ← text_of c
  Ok (record { from = from; slot = slot; to = to })
first_link_of_names (a ∷ b ∷ c ∷ d ∷ ds) = Err misshapen

-- a link: an array of three texts
unfoldable pub first_link_of : Data → Result FirstLinkDeclaration DocumentFault
first_link_of d = do
  names ← ok_or (as_list d) misshapen
  first_link_of_names names

-- a member from exactly two names, its own and its space's
unfoldable pub member_of_names : List Data → Result MemberDeclaration DocumentFault
member_of_names [] = Err misshapen
member_of_names (a ∷ []) = Err misshapen
member_of_names (a ∷ b ∷ []) = do
  unit ← text_of a
  space ← text_of b
  Ok (record { unit = unit; space = space })
member_of_names (a ∷ b ∷ c ∷ ds) = Err misshapen

-- a member: an array of two texts
unfoldable pub member_of : Data → Result MemberDeclaration DocumentFault
member_of d = do
  names ← ok_or (as_list d) misshapen
  member_of_names names

-- the whole document: lists of units, of links and of members; an absent list is empty
unfoldable pub units_declaration_of : Data → Result UnitsDeclaration DocumentFault
units_declaration_of d = if is_object_with (codes "units" ∷ codes "links" ∷ codes "spaces" ∷ []) d then (do
  given_units ← ok_or (list_at (codes "units") d) misshapen
  units ← try_map_at (inside lists.Units) unit_of 0 given_units
  given_links ← ok_or (list_at (codes "links") d) misshapen
  links ← try_map_at (inside lists.Links) first_link_of 0 given_links
  given_spaces ← ok_or (list_at (codes "spaces") d) misshapen
  spaces ← try_map_at (inside lists.Spaces) member_of 0 given_spaces
  Ok (record { units = units; links = links; spaces = spaces })) else Err misshapen

-- what a text declares: first the JSON is read, then its form
unfoldable pub units_document_of : List ℕ → Result UnitsDeclaration DocumentFault
units_document_of text = do
  json ← ok_or (read text) Json
  units_declaration_of json
