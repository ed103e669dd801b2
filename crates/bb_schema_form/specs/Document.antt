-- What a document declares, as plain lists: where they are in memory is left out.
use Rattle.std.specs.Prelude.{ℕ, ℤ, Bool, List, map, Option, option_map, string_bytes}
use Rattle.bb_schema_form.specs.declared.document.LabelSetEntry.{LabelSetEntry}
use Rattle.bb_schema_form.specs.declared.document.ClassEntry.{ClassEntry}
use Rattle.bb_schema_form.specs.declared.document.SlotEntry.{SlotEntry}
use Rattle.bb_schema_form.specs.declared.document.DefaultEntry.{DefaultEntry}
use Rattle.bb_schema_form.specs.declared.document.DefaultEntry.TheVariants.{Int, Text, Bool as Truth, Label, Interval}
use Rattle.bb_schema_form.specs.declared.document.LinkEntry.{LinkEntry}
use Rattle.bb_schema_form.specs.declared.document.SpaceEntry.{SpaceEntry}
use Rattle.bb_schema_form.specs.declared.document.DimEntry.{DimEntry}
use Rattle.bb_schema_form.specs.declared.document.Document.{Document}

-- a set of labels
pub record LabelSetDeclaration : Type 0 where
  pub name : List ℕ
  pub values : List (List ℕ)

-- a default, which implies the kind of its slot; a label belongs to a set, and none given is the set's first
pub data DefaultDeclaration : Type 0 where
  int_default : ℤ → DefaultDeclaration
  text_default : List ℕ → DefaultDeclaration
  bool_default : Bool → DefaultDeclaration
  label_default : List ℕ → Option (List ℕ) → DefaultDeclaration
  interval_default : ℤ → ℤ → DefaultDeclaration

-- an ordinary slot
pub record SlotDeclaration : Type 0 where
  pub name : List ℕ
  pub default : DefaultDeclaration

-- a link slot: its target class, whether it holds many units, its inverse slot, and whether a unit owns the units in
-- the slot
pub record LinkDeclaration : Type 0 where
  pub name : List ℕ
  pub to : List ℕ
  pub many : Bool
  pub inverse : List ℕ
  pub owns : Bool

-- a class, with the slots that it adds
pub record ClassDeclaration : Type 0 where
  pub name : List ℕ
  pub parent : Option (List ℕ)
  pub slots : List SlotDeclaration
  pub links : List LinkDeclaration

-- a dimension: an enumerated one has a label set, an ordered one has none
pub record DimDeclaration : Type 0 where
  pub name : List ℕ
  pub of : Option (List ℕ)

-- a space, with the classes that it admits
pub record SpaceDeclaration : Type 0 where
  pub name : List ℕ
  pub classes : List (List ℕ)
  pub dims : List DimDeclaration

-- a whole document
pub record Declarations : Type 0 where
  pub label_sets : List LabelSetDeclaration
  pub classes : List ClassDeclaration
  pub spaces : List SpaceDeclaration

-- what each entry declares
abbrev pub label_set_declaration : LabelSetEntry → LabelSetDeclaration
label_set_declaration e = record { name = string_bytes e.name; values = map string_bytes e.values.items }

abbrev pub default_declaration : DefaultEntry → DefaultDeclaration
default_declaration (Int z) = int_default z
default_declaration (Text s) = text_default (string_bytes s)
default_declaration (Truth b) = bool_default b
default_declaration (Label of default) = label_default (string_bytes of) (option_map string_bytes default)
default_declaration (Interval lo hi) = interval_default lo hi

abbrev pub slot_declaration : SlotEntry → SlotDeclaration
slot_declaration e = record { name = string_bytes e.name; default = default_declaration e.default }

abbrev pub link_declaration : LinkEntry → LinkDeclaration
link_declaration e = record {
  name = string_bytes e.name;
  to = string_bytes e.to;
  many = e.many;
  inverse = string_bytes e.inverse;
  owns = e.owns;
}

abbrev pub class_declaration : ClassEntry → ClassDeclaration
class_declaration e = record {
  name = string_bytes e.name;
  parent = option_map string_bytes e.parent;
  slots = map slot_declaration e.slots.items;
  links = map link_declaration e.links.items;
}

abbrev pub dim_declaration : DimEntry → DimDeclaration
dim_declaration e = record { name = string_bytes e.name; of = option_map string_bytes e.of }

abbrev pub space_declaration : SpaceEntry → SpaceDeclaration
space_declaration e = record {
  name = string_bytes e.name;
  classes = map string_bytes e.classes.items;
  dims = map dim_declaration e.dims.items;
}

abbrev pub declarations : Document → Declarations
declarations d = record {
  label_sets = map label_set_declaration d.label_sets.items;
  classes = map class_declaration d.classes.items;
  spaces = map space_declaration d.spaces.items;
}
