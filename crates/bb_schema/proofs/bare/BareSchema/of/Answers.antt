use Rattle.std.proofs.Common.{◌∙◌, ap, subst, List, map}
use Rattle.bb_schema_classes.specs.proving.Entries.{indexed_place, IsIndex}
use Rattle.bb_schema.specs.declared.slot.Slot.{Slot}
use Rattle.bb_schema.specs.proving.Readings.{names_of}
use Rattle.bb_schema.proofs.ReadingLemmas.{firsts_indexed}
use Rattle.bb_schema.proofs.bare.BareSchema.of.Goals as goal

pub invariant_of-result : goal.invariant_of-result
invariant_of-result c =
    let index = subst (λ (ts : List Slot). IsIndex c.in_ok-places.places (names_of ts)) c.deref.ensures.value c.in_ok-places.ensures in
    rw (← c.schema.view_is) (record {
      index = index;
      firsts = c.from.ensures ∙ (c.in_ok-firsts.ensures ∙ (ap (map (λ (t : Slot). indexed_place c.in_ok-places.places t.name)) c.deref-2.ensures.value ∙ firsts_indexed c.schema.inside.slots.items c.in_ok-places.places index));
    })
