-- The links of slots, with numbers instead of names.
use Rattle.std.specs.Prelude.{List, map, find, position, Result, Ok}
use Rattle.std.specs.Str.{bytes_eq}
use Rattle.bb_basis.specs.Results.{◌>>=◌, ok_or}
use Rattle.bb_schema_classes.specs.declared.fault.SchemaFault.{SchemaFault}
use Rattle.bb_schema_classes.specs.Faults.{here}
use Rattle.bb_schema_classes.specs.declared.fault.SchemaFlaw.TheVariants.{Unknown, Inverse}
use Rattle.bb_schema_classes.specs.declared.class.Class.{Class}
use Rattle.bb_schema_classes.specs.declared.kind.Link.{Link}
use Rattle.bb_schema_classes.specs.declared.draft.Draft.{Draft}
use Rattle.bb_schema_classes.specs.declared.draft.LinkDraft.{LinkDraft}
use Rattle.bb_schema_classes.specs.Inheritance.{slots_in}
use Rattle.bb_schema_classes.specs.Drafts.{draft_has_name}

-- a link with the numbers of its target class and of its inverse, which is a slot of that class
unfoldable pub resolved_link : List Class → List Draft → LinkDraft → Result Link SchemaFault
resolved_link classes slots link = do
  c ← ok_or (position (bytes_eq link.to) (map (λ k. k.name) classes)) (here Unknown)
  n ← ok_or (find (draft_has_name slots link.inverse) (slots_in classes c)) (here Inverse)
  Ok (record { to = c; many = link.many; inverse = n; owns = link.owns })
