-- The classes that a document's entries declare, one after another.
use Rattle.std.specs.Prelude.{ℕ, not, ◌∷◌, [], ◌++◌, nat_le, List, map, length, position, Option, Some, None, Result, Ok, Err, pos, codes, true, if◌then◌else◌}
use Rattle.std.specs.List.{list_any}
use Rattle.std.specs.Str.{bytes_eq}
use Rattle.bb_basis.specs.Results.{◌>>=◌, ok_or, try_fold_at}
use Rattle.bb_schema_form.specs.declared.place.ListKey.TheVariants as lists
use Rattle.bb_schema_form.specs.Document.{ClassDeclaration, text_default, int_default, bool_default}
use Rattle.bb_schema_classes.specs.declared.read.classes.TheConstants.{CLASS_LIMIT}
use Rattle.bb_schema_classes.specs.declared.fault.SchemaFault.{SchemaFault}
use Rattle.bb_schema_classes.specs.Faults.{here, inside, inside_class}
use Rattle.bb_schema_classes.specs.declared.fault.SchemaFlaw.TheVariants.{Name, Twice, Unknown, Limit}
use Rattle.bb_schema_classes.specs.declared.label_set.LabelSet.{LabelSet}
use Rattle.bb_schema_classes.specs.declared.class.Class.{Class}
use Rattle.bb_basis.specs.Names.{is_name}
use Rattle.bb_schema_classes.specs.Inheritance.{slots_in}
use Rattle.bb_schema_classes.specs.Drafts.{SchemaDraft, ClassDraft}
use Rattle.bb_schema_classes.specs.SlotReading.{slot_after}
use Rattle.bb_schema_classes.specs.LinkReading.{link_after}

-- the built-in class, as a document would declare it before all others
abbrev pub focus : ClassDeclaration
focus = record {
  name = codes "focus";
  parent = None;
  slots = record { name = codes "source"; default = text_default [] }
      ∷ record { name = codes "area"; default = text_default [] }
      ∷ record { name = codes "weight"; default = int_default (pos 0) }
      ∷ record { name = codes "active"; default = bool_default true } ∷ [];
  links = [];
}

-- the number of the parent, which is an earlier class
abbrev pub parent_number : List Class → Option (List ℕ) → Result (Option ℕ) SchemaFault
parent_number classes None = Ok None
parent_number classes (Some name) =
    ok_or (position (bytes_eq name) (map (λ k. k.name) classes)) (here Unknown) >>= λ p. Ok (Some p)

-- the slots that a class inherits from its parent
abbrev pub inherited_slots : List Class → Option ℕ → List ℕ
inherited_slots classes None = []
inherited_slots classes (Some p) = slots_in classes p

-- a class begins with the slots of its parent
abbrev pub begun_class : SchemaDraft → Option ℕ → ClassDraft
begun_class s parent = record { slots = s.slots; class_slots = inherited_slots s.classes parent }

-- the classes with another one, whose slots were all read
abbrev pub with_class : SchemaDraft → List ℕ → Option ℕ → ClassDraft → SchemaDraft
with_class s name parent own = record {
  classes = s.classes ++ record { name = name; parent = parent; slots = own.class_slots } ∷ [];
  slots = own.slots;
}

-- the classes with the entry's class added, or the entry's fault
unfoldable pub class_after : List LabelSet → List ClassDeclaration → SchemaDraft → ClassDeclaration
    → Result SchemaDraft SchemaFault
class_after sets all s entry =
    if not (is_name entry.name) then Err (here Name)
    else if list_any (bytes_eq entry.name) (map (λ k. k.name) s.classes) then Err (here Twice)
    else parent_number s.classes entry.parent >>= λ parent.
    if nat_le CLASS_LIMIT (length s.classes) then Err (here Limit)
    else try_fold_at (inside lists.Slots) (slot_after sets (length s.classes)) 0 (begun_class s parent) entry.slots >>= λ ordinary.
    try_fold_at (inside lists.Links) (link_after all entry.name (length s.classes)) 0 ordinary entry.links >>= λ own.
    Ok (with_class s entry.name parent own)

-- the classes of these entries of all, `focus` the first of them, and their slots, or the first fault
abbrev pub draft_of : List LabelSet → List ClassDeclaration → List ClassDeclaration → Result SchemaDraft SchemaFault
draft_of sets all entries =
    try_fold_at inside_class (class_after sets all) 0 (record { classes = []; slots = [] }) entries
