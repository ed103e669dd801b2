-- The label sets that a document's entries declare, one after another.
use Rattle.std.specs.Prelude.{ℕ, not, ◌∷◌, [], ◌++◌, nat_le, List, map, length, Result, Ok, Err, if◌then◌else◌}
use Rattle.std.specs.List.{list_any}
use Rattle.std.specs.Str.{bytes_eq}
use Rattle.bb_basis.specs.Results.{◌>>=◌, try_fold_at}
use Rattle.bb_schema_form.specs.declared.place.ListKey.TheVariants as lists
use Rattle.bb_schema_form.specs.Document.{LabelSetDeclaration}
use Rattle.bb_schema_classes.specs.declared.read.labels.TheConstants.{LABEL_SET_LIMIT}
use Rattle.bb_schema_classes.specs.declared.label_set.TheConstants.{LABEL_LIMIT}
use Rattle.bb_schema_classes.specs.declared.fault.SchemaFault.{SchemaFault}
use Rattle.bb_schema_classes.specs.Faults.{here, inside}
use Rattle.bb_schema_classes.specs.declared.fault.SchemaFlaw.TheVariants.{Name, Twice, Limit}
use Rattle.bb_schema_classes.specs.declared.label_set.LabelSet.{LabelSet}
use Rattle.bb_basis.specs.Names.{is_name}

-- the labels of a set with the name added, or the name's fault
unfoldable pub label_after : List (List ℕ) → List ℕ → Result (List (List ℕ)) SchemaFault
label_after labels name =
    if not (is_name name) then Err (here Name)
    else if list_any (bytes_eq name) labels then Err (here Twice)
    else if nat_le LABEL_LIMIT (length labels) then Err (here Limit)
    else Ok (labels ++ name ∷ [])

-- the label sets with the entry's set added, or the entry's fault
unfoldable pub label_set_after : List LabelSet → LabelSetDeclaration → Result (List LabelSet) SchemaFault
label_set_after sets entry =
    if not (is_name entry.name) then Err (here Name)
    else if list_any (bytes_eq entry.name) (map (λ s. s.name) sets) then Err (here Twice)
    else if nat_le LABEL_SET_LIMIT (length sets) then Err (here Limit)
    else try_fold_at (inside lists.Values) label_after 0 [] entry.values >>= λ values.
    Ok (sets ++ record { name = entry.name; values = values } ∷ [])
