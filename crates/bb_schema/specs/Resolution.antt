-- After all classes are read, their link slots get numbers instead of names. The walk has refused every link whose
-- inverse is missing or does not lead back, so nothing is refused here.
use Rattle.std.specs.Prelude.{List, Result, Ok}
use Rattle.bb_basis.specs.Results.{◌>>=◌}
use Rattle.bb_schema_classes.specs.declared.fault.SchemaFault.{SchemaFault}
use Rattle.bb_schema_classes.specs.declared.class.Class.{Class}
use Rattle.bb_schema_classes.specs.declared.draft.Draft.{Draft}
use Rattle.bb_schema_classes.specs.declared.draft.DraftContent.{DraftContent}
use Rattle.bb_schema_classes.specs.declared.draft.DraftContent.TheVariants as drafts
use Rattle.bb_schema_classes.specs.Resolution.{resolved_link}
use Rattle.bb_schema.specs.declared.slot.Slot.{Slot}
use Rattle.bb_schema.specs.declared.slot.Content.{Content}
use Rattle.bb_schema.specs.declared.slot.Content.TheVariants as contents

-- the content of a slot, with numbers
abbrev pub resolved_content : List Class → List Draft → DraftContent → Result Content SchemaFault
resolved_content classes slots (drafts.Default value) = Ok (contents.Default value)
resolved_content classes slots (drafts.Link link) = resolved_link classes slots link >>= λ l. Ok (contents.Link l)

-- a slot, with numbers
unfoldable pub resolved_slot : List Class → List Draft → Draft → Result Slot SchemaFault
resolved_slot classes slots draft = do
  content ← resolved_content classes slots draft.content
  Ok (record { name = draft.name; owner = draft.owner; content = content })
