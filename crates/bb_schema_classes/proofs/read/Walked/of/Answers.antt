use Rattle.std.proofs.Common.{map}
use Rattle.bb_schema_form.specs.Document.{label_set_declaration, class_declaration}
use Rattle.bb_schema_classes.proofs.WalkLemmas.{walk_fits}
use Rattle.bb_schema_classes.proofs.read.Walked.of.Goals as goal

pub returns-clause-fits : goal.returns-clause-fits
returns-clause-fits c =
    walk_fits (map label_set_declaration c.args.label_sets.now) (map class_declaration c.args.classes.items) c.in_ok-label_sets.label_sets c.in_ok-draft.draft
    c.requires c.in_ok-label_sets.ensures (rw (c.deref.ensures.value, c.in_ok-classes.ensures) at c.in_ok-draft.ensures)
