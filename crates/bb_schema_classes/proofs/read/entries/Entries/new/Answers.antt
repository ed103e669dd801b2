use Rattle.std.proofs.Common.{◌∙◌, ap, sym, subst, map}
use Rattle.bb_schema_form.specs.Document.{ClassDeclaration, class_declaration}
use Rattle.bb_schema_classes.specs.proving.Entries.{IsIndex}
use Rattle.bb_basis.proofs.ListLemmas.{map_map}
use Rattle.bb_schema_classes.proofs.read.entries.Entries.new.Goals as goal

pub invariant_of-result : goal.invariant_of-result
invariant_of-result c = subst (IsIndex c.in_ok-places.places)
    (sym (ap (map (λ (d : ClassDeclaration). d.name)) c.in_ok-classes.ensures ∙ map_map (λ (d : ClassDeclaration). d.name) class_declaration c.args.entries.now)) c.in_ok-places.ensures
