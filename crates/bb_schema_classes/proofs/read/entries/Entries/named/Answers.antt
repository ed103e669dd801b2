use Rattle.std.proofs.Common.{◌∙◌, ap, List}
use Rattle.std.specs.Prelude.{slice_get, option_and_then}
use Rattle.bb_schema_form.specs.Document.{ClassDeclaration}
use Rattle.bb_schema_classes.proofs.IndexLemmas.{named_in}
use Rattle.bb_schema_classes.proofs.read.entries.Entries.named.Goals as goal

pub returns : goal.returns
returns c =
    rw (← c.self.view_is) (c.class_at.ensures ∙ (ap (λ (xs : List ClassDeclaration). option_and_then (slice_get xs) c.indexed_place.result) c.deref.ensures.value
    ∙ named_in (λ (d : ClassDeclaration). d.name) c.self.inside.classes.items c.self.inside.places c.args.name.now c.indexed_place.result c.self.invariant c.indexed_place.ensures))
