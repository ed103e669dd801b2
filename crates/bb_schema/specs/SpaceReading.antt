-- The spaces that a document's entries declare, one after another, for a schema that has no spaces yet.
use Rattle.std.specs.Prelude.{ℕ, Bool, true, false, not, ◌==◌, ◌∷◌, [], ◌++◌, nat_le, List, map, length, Option, Some, None, Result, Ok, Err, if◌then◌else◌}
use Rattle.std.specs.List.{list_any, list_all}
use Rattle.std.specs.Option.{option_map_or}
use Rattle.std.specs.Str.{bytes_eq}
use Rattle.bb_basis.specs.Results.{◌>>=◌, ok_or, try_fold_at}
use Rattle.bb_schema_form.specs.Document.{SpaceDeclaration, DimDeclaration}
use Rattle.bb_schema.specs.declared.read.spaces.TheConstants.{DIM_LIMIT, SPACE_LIMIT}
use Rattle.bb_schema_classes.specs.declared.fault.SchemaFault.{SchemaFault}
use Rattle.bb_schema_classes.specs.declared.fault.SchemaFlaw.TheVariants as flaws
use Rattle.bb_schema_classes.specs.Faults.{here, inside}
use Rattle.bb_schema_form.specs.declared.place.ListKey.TheVariants as lists
use Rattle.bb_schema_classes.specs.declared.kind.Kind.{Kind}
use Rattle.bb_schema_classes.specs.declared.kind.Kind.TheVariants.{Int, Label, Interval}
use Rattle.bb_schema.specs.declared.space.Space.{Space}
use Rattle.bb_schema.specs.declared.space.Dim.{Dim}
use Rattle.bb_basis.specs.Names.{is_name}
use Rattle.bb_schema_classes.specs.Inheritance.{is_among}
use Rattle.bb_schema.specs.Schema.{Schema, class_named, label_set_named, slot_named, kind_of_slot}

-- the classes of a space with the named one added, or the fault of the name
unfoldable pub space_class_after : Schema → List ℕ → List ℕ → Result (List ℕ) SchemaFault
space_class_after s listed name = ok_or (class_named s name) (here flaws.Unknown) >>= λ c.
    if is_among listed c then Err (here flaws.Twice) else Ok (listed ++ c ∷ [])

-- an ordered dimension reads numbers and intervals, an enumerated one labels of its set
abbrev pub suits : Option ℕ → Kind → Bool
suits None Int = true
suits None Interval = true
suits (Some set) (Label other) = other == set
suits _ _ = false

-- whether the class has a slot for the dimension with the name
unfoldable pub has_slot_for : Schema → List ℕ → Option ℕ → ℕ → Bool
has_slot_for s name set c =
    option_map_or (λ n. option_map_or (suits set) (kind_of_slot s n) false) (slot_named s c name) false

-- the label set of a dimension
abbrev pub set_number : Schema → Option (List ℕ) → Result (Option ℕ) SchemaFault
set_number s None = Ok None
set_number s (Some name) = ok_or (label_set_named s name) (here flaws.Unknown) >>= λ set. Ok (Some set)

-- the dimensions of a space that lists these classes, with the entry's dimension added, or the entry's fault
unfoldable pub dim_after : Schema → List ℕ → List Dim → DimDeclaration → Result (List Dim) SchemaFault
dim_after s listed dims entry =
    if not (is_name entry.name) then Err (here flaws.Name)
    else if list_any (bytes_eq entry.name) (map (λ d. d.name) dims) then Err (here flaws.Twice)
    else set_number s entry.of >>= λ set.
    if not (list_all (has_slot_for s entry.name set) listed) then Err (here flaws.Dimension)
    else if nat_le DIM_LIMIT (length dims) then Err (here flaws.Limit)
    else Ok (dims ++ record { name = entry.name; set = set } ∷ [])

-- the spaces with the entry's space added, or the entry's fault
unfoldable pub space_after : Schema → List Space → SpaceDeclaration → Result (List Space) SchemaFault
space_after s spaces entry =
    if not (is_name entry.name) then Err (here flaws.Name)
    else if list_any (bytes_eq entry.name) (map (λ p. p.name) spaces) then Err (here flaws.Twice)
    else if nat_le SPACE_LIMIT (length spaces) then Err (here flaws.Limit)
    else try_fold_at (inside lists.Classes) (space_class_after s) 0 [] entry.classes >>= λ listed.
    try_fold_at (inside lists.Dims) (dim_after s listed) 0 [] entry.dims >>= λ dims.
    Ok (spaces ++ record { name = entry.name; classes = listed; dims = dims } ∷ [])
