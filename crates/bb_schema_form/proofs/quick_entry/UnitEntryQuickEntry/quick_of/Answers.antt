use Rattle.json.proofs.Trees.{view-Object}
use Rattle.bb_schema_form.proofs.quick_entry.UnitEntryQuickEntry.quick_of.Goals as goal

pub returns-in-Some : goal.returns-in-Some
returns-in-Some c = rw (c.in-Object.is, view-Object c.in-Object.members, ← c.as_slice.ensures.value) c.in-Some.ensures
