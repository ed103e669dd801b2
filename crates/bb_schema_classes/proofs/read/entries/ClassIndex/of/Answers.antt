use Rattle.std.proofs.Common.{◌∙◌, ap, sym, subst, map}
use Rattle.bb_schema_form.specs.declared.document.SlotEntry.{SlotEntry}
use Rattle.bb_schema_form.specs.declared.document.LinkEntry.{LinkEntry}
use Rattle.bb_schema_form.specs.Document.{SlotDeclaration, LinkDeclaration, slot_declaration, link_declaration}
use Rattle.bb_schema_classes.specs.proving.Entries.{IsIndex}
use Rattle.std.specs.Prelude.{string_bytes}
use Rattle.bb_basis.proofs.ListLemmas.{map_map}
use Rattle.bb_schema_classes.proofs.read.entries.ClassIndex.of.Goals as goal

pub invariant_of-result : goal.invariant_of-result
invariant_of-result c = record {
  slots = subst (IsIndex c.in_ok-slots.slots)
      (ap (map (λ (e : SlotEntry). string_bytes e.name)) c.deref.ensures.value ∙ sym (map_map (λ (d : SlotDeclaration). d.name) slot_declaration c.args.entry.now.slots.items)) c.in_ok-slots.ensures;
  links = subst (IsIndex c.in_ok-links.links)
      (ap (map (λ (e : LinkEntry). string_bytes e.name)) c.deref-2.ensures.value ∙ sym (map_map (λ (d : LinkDeclaration). d.name) link_declaration c.args.entry.now.links.items)) c.in_ok-links.ensures;
}
