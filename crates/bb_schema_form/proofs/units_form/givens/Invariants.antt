use Rattle.std.proofs.Common.{◌≡◌, ◌++◌, map}
use Rattle.serde_json.specs.View.{members_view}
use Rattle.bb_schema_form.specs.UnitsDocument.{given_declaration, givens_of}
use Rattle.bb_schema_form.proofs.units_form.givens.Given as goal

abbrev pub invariant-loop-slot : goal.invariant-loop-slot
invariant-loop-slot l = map given_declaration l.entries.items ++ givens_of (members_view l.slot-iterator) ≡ givens_of (members_view l.members.entries)
