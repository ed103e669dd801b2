-- The fast reader of initial units: what JSON declares, through the values that `serde_json` makes of it.
use Rattle.std.specs.Prelude.{ℕ, List, [], ◌∷◌, Option, Some, Result, Ok, codes, if◌then◌else◌}
use Rattle.std.specs.Str.{bytes_eq}
use Rattle.std.specs.declared.alloc.Global.{Global}
use Rattle.json.specs.Json.{Json, Members, no_members, member}
use Rattle.json.specs.Value.{value_view}
use Rattle.json.specs.declared.value.Value.{Value as Borrowed}
use Rattle.serde_json.specs.Data.{Data}
use Rattle.serde_json.specs.Read.{of_json}
use Rattle.serde_json.specs.View.{view}
use Rattle.serde_json.specs.declared.value.Value.{Value}
use Rattle.bb_basis.specs.Results.{◌>>=◌, ok_or, try_map_at}
use Rattle.bb_schema_form.specs.declared.fault.DocumentFault.{DocumentFault}
use Rattle.bb_schema_form.specs.declared.fault.DocumentFault.TheVariants as faults
use Rattle.bb_schema_form.specs.declared.place.ListKey.{ListKey}
use Rattle.bb_schema_form.specs.Faults.{misshapen, inside}
use Rattle.bb_schema_form.specs.Shapes.{as_list}
use Rattle.bb_schema_form.specs.UnitsDocument.{UnitsDeclaration, units_declaration_of}

-- the value that serde_json makes of a value over borrowed text, if it makes any
abbrev pub read_of : Borrowed Global → Option Data
read_of v = of_json (value_view v)

abbrev pub seen : Value → Option Data
seen v = Some (view v)

-- what JSON declares, read by a form
abbrev pub declared_by : {X : Type 0} → (Data → Result X DocumentFault) → Json → Result X DocumentFault
declared_by form j = ok_or (of_json j) faults.Json >>= form

abbrev pub entry_of : {X : Type 0} → (Data → Result X DocumentFault) → Borrowed Global → Result X DocumentFault
entry_of form v = declared_by form (value_view v)

-- the entries of an array
abbrev pub entries_of : {X : Type 0} → ListKey → (Data → Result X DocumentFault) → Json → Result (List X) DocumentFault
entries_of list form j = do
  d ← ok_or (of_json j) faults.Json
  ds ← ok_or (as_list d) misshapen
  try_map_at (inside list) form 0 ds

-- what the last member under a key gives, or found if the key is absent, or the first fault of a member under the key
unfoldable pub listed : {X : Type 0} → List ℕ → (Json → Result X DocumentFault) → X → Members → Result X DocumentFault
listed key gives found no_members = Ok found
listed key gives found (member k j ms) = do
  next ← if bytes_eq k key then gives j else Ok found
  listed key gives next ms

-- the keys of the document
abbrev pub list_keys : List (List ℕ)
list_keys = codes "units" ∷ codes "links" ∷ codes "spaces" ∷ []

-- what JSON declares as a document
abbrev pub document_of : Json → Result UnitsDeclaration DocumentFault
document_of j = declared_by units_declaration_of j
