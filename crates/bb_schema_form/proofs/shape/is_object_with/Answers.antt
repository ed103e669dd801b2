use Rattle.std.proofs.Common.{◌∙◌}
use Rattle.bb_schema_form.proofs.ShapeLemmas.{keys_among}
use Rattle.bb_schema_form.proofs.shape.is_object_with.Goals as goal

pub returns-in-Some : goal.returns-in-Some
returns-in-Some c = rw (← c.in-Some.ensures) (c.are_among.ensures ∙ keys_among c.in-Some.members.now.entries c.args.keys.now)
