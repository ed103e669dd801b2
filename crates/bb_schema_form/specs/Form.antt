-- The form of a schema's document: which JSON has it and what that declares, before any name in it is looked up.
use Rattle.std.specs.Prelude.{ℕ, ℤ, pos, Bool, false, List, [], ◌∷◌, Option, Some, None, option_map, option_and_then}
use Rattle.std.specs.Prelude.{Result, Ok, Err, codes, int_le, if◌then◌else◌}
use Rattle.std.specs.Option.{option_map_or}
use Rattle.std.specs.Str.{bytes_eq}
use Rattle.serde_json.specs.Data.{Data}
use Rattle.serde_json.specs.Find.{get, as_bool, as_str}
use Rattle.serde_json.specs.Read.{read}
use Rattle.bb_schema_form.specs.declared.fault.DocumentFault.{DocumentFault}
use Rattle.bb_schema_form.specs.declared.fault.DocumentFault.TheVariants.{Json}
use Rattle.bb_schema_form.specs.Faults.{misshapen, inside}
use Rattle.bb_schema_form.specs.declared.place.ListKey.TheVariants as lists
use Rattle.bb_basis.specs.Results.{◌>>=◌, ok_or, try_map_at}
use Rattle.bb_schema_form.specs.Shapes.{is_object_with, as_whole, as_list, text_at, bool_at, required_list_at, list_at}
use Rattle.bb_schema_form.specs.Shapes.{optional_text_at, optional_bool_at}
use Rattle.bb_schema_form.specs.Document.{Declarations, LabelSetDeclaration, ClassDeclaration, SlotDeclaration}
use Rattle.bb_schema_form.specs.Document.{DefaultDeclaration, int_default, text_default, bool_default, label_default}
use Rattle.bb_schema_form.specs.Document.{interval_default, LinkDeclaration, SpaceDeclaration, DimDeclaration}

-- a text in a list
unfoldable pub text_of : Data → Result (List ℕ) DocumentFault
text_of d = ok_or (as_str d) misshapen

-- the label set with these texts, of which there must be at least one
unfoldable pub label_set_of_texts : List ℕ → List (List ℕ) → Result LabelSetDeclaration DocumentFault
label_set_of_texts name [] = Err misshapen
label_set_of_texts name (t ∷ ts) = Ok (record { name = name; values = t ∷ ts })

-- a label set: a name and at least one value
unfoldable pub label_set_of : Data → Result LabelSetDeclaration DocumentFault
label_set_of d = if is_object_with (codes "name" ∷ codes "values" ∷ []) d then (do
  name ← ok_or (text_at (codes "name") d) misshapen
  found ← ok_or (required_list_at (codes "values") d) misshapen
  values ← try_map_at (inside lists.Values) text_of 0 found
  label_set_of_texts name values) else Err misshapen

-- the two numbers of an array of exactly two, the first not greater than the second
abbrev pub ends_of : List Data → Option (ℤ × ℤ)
ends_of [] = None
ends_of (a ∷ []) = None
ends_of (a ∷ b ∷ []) =
    option_and_then (λ lo. option_and_then (λ hi. if int_le lo hi then Some (lo, hi) else None) (as_whole b))
    (as_whole a)
ends_of (a ∷ b ∷ c ∷ ds) = None

abbrev pub as_interval : Data → Option (ℤ × ℤ)
as_interval d = option_and_then ends_of (as_list d)

-- the default of a slot whose kind is not label: the given one, or the kind's own if none is given
unfoldable pub plain_default_of : List ℕ → Option Data → Result DefaultDeclaration DocumentFault
plain_default_of kind given =
    let number = option_map_or as_whole given (Some (pos 0)) in
    let text = option_map_or as_str given (Some []) in
    let truth = option_map_or as_bool given (Some false) in
    let interval = option_map_or as_interval given (Some (pos 0, pos 0)) in
    if bytes_eq kind (codes "int") then ok_or (option_map int_default number) misshapen
    else if bytes_eq kind (codes "text") then ok_or (option_map text_default text) misshapen
    else if bytes_eq kind (codes "bool") then ok_or (option_map bool_default truth) misshapen
    else if bytes_eq kind (codes "interval") then ok_or (option_map (λ z. interval_default z.0 z.1) interval) misshapen
    else Err misshapen

-- the default of a label slot; none given is the first label of its set
unfoldable pub label_default_of : List ℕ → Option Data → Result DefaultDeclaration DocumentFault
label_default_of set given =
    let default = option_map_or (λ d. option_map (λ t. Some t) (as_str d)) given (Some None) in
    ok_or (option_map (label_default set) default) misshapen

-- the default of a slot: kind label needs a label set, and no other kind may have one
unfoldable pub default_of : List ℕ → Option (List ℕ) → Option Data → Result DefaultDeclaration DocumentFault
default_of kind None given = plain_default_of kind given
default_of kind (Some set) given = if bytes_eq kind (codes "label") then label_default_of set given else Err misshapen

-- an ordinary slot
unfoldable pub slot_of : Data → Result SlotDeclaration DocumentFault
slot_of d = if is_object_with (codes "name" ∷ codes "kind" ∷ codes "of" ∷ codes "default" ∷ []) d then (do
  name ← ok_or (text_at (codes "name") d) misshapen
  kind ← ok_or (text_at (codes "kind") d) misshapen
  set ← ok_or (optional_text_at (codes "of") d) misshapen
  default ← default_of kind set (get (codes "default") d)
  Ok (record { name = name; default = default })) else Err misshapen

-- the keys of a link slot
abbrev pub link_keys : List (List ℕ)
link_keys = codes "name" ∷ codes "to" ∷ codes "many" ∷ codes "inverse" ∷ codes "owns" ∷ []

-- a link slot
unfoldable pub link_of : Data → Result LinkDeclaration DocumentFault
link_of d = if is_object_with link_keys d then (do
  name ← ok_or (text_at (codes "name") d) misshapen
  to ← ok_or (text_at (codes "to") d) misshapen
  many ← ok_or (bool_at (codes "many") d) misshapen
  inverse ← ok_or (text_at (codes "inverse") d) misshapen
  owns ← ok_or (optional_bool_at (codes "owns") d) misshapen
  Ok (record { name = name; to = to; many = many; inverse = inverse; owns = owns })) else Err misshapen

-- a class
unfoldable pub class_of : Data → Result ClassDeclaration DocumentFault
class_of d = if is_object_with (codes "name" ∷ codes "parent" ∷ codes "slots" ∷ codes "links" ∷ []) d then (do
  name ← ok_or (text_at (codes "name") d) misshapen
  parent ← ok_or (optional_text_at (codes "parent") d) misshapen
  given_slots ← ok_or (list_at (codes "slots") d) misshapen
  slots ← try_map_at (inside lists.Slots) slot_of 0 given_slots
  given_links ← ok_or (list_at (codes "links") d) misshapen
  links ← try_map_at (inside lists.Links) link_of 0 given_links
  Ok (record { name = name; parent = parent; slots = slots; links = links })) else Err misshapen

-- whether the kind of a dimension fits its label set, or the lack of one
abbrev pub is_dim_kind : List ℕ → Option (List ℕ) → Bool
is_dim_kind kind None = bytes_eq kind (codes "ordered")
is_dim_kind kind (Some set) = bytes_eq kind (codes "label")

-- a dimension
unfoldable pub dim_of : Data → Result DimDeclaration DocumentFault
dim_of d = if is_object_with (codes "name" ∷ codes "kind" ∷ codes "of" ∷ []) d then (do
  name ← ok_or (text_at (codes "name") d) misshapen
  kind ← ok_or (text_at (codes "kind") d) misshapen
  set ← ok_or (optional_text_at (codes "of") d) misshapen
  if is_dim_kind kind set then Ok (record { name = name; of = set }) else Err misshapen) else Err misshapen

-- a space: its classes and its dimensions are required
unfoldable pub space_of : Data → Result SpaceDeclaration DocumentFault
space_of d = if is_object_with (codes "name" ∷ codes "classes" ∷ codes "dims" ∷ []) d then (do
  name ← ok_or (text_at (codes "name") d) misshapen
  given_classes ← ok_or (required_list_at (codes "classes") d) misshapen
  classes ← try_map_at (inside lists.Classes) text_of 0 given_classes
  given_dims ← ok_or (required_list_at (codes "dims") d) misshapen
  dims ← try_map_at (inside lists.Dims) dim_of 0 given_dims
  Ok (record { name = name; classes = classes; dims = dims })) else Err misshapen

-- the whole document: three lists; an absent list is empty
unfoldable pub declarations_of : Data → Result Declarations DocumentFault
declarations_of d = if is_object_with (codes "labels" ∷ codes "classes" ∷ codes "spaces" ∷ []) d then (do
  given_sets ← ok_or (list_at (codes "labels") d) misshapen
  label_sets ← try_map_at (inside lists.Labels) label_set_of 0 given_sets
  given_classes ← ok_or (list_at (codes "classes") d) misshapen
  classes ← try_map_at (inside lists.Classes) class_of 0 given_classes
  given_spaces ← ok_or (list_at (codes "spaces") d) misshapen
  spaces ← try_map_at (inside lists.Spaces) space_of 0 given_spaces
  Ok (record { label_sets = label_sets; classes = classes; spaces = spaces })) else Err misshapen

-- what a text declares: first the JSON is read, then its form
unfoldable pub document_of : List ℕ → Result Declarations DocumentFault
document_of text = do
  json ← ok_or (read text) Json
  declarations_of json
