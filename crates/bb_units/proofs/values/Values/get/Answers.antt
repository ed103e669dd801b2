use Rattle.std.proofs.Common.{◌∙◌, sym, ap, List}
use Rattle.std.specs.Prelude.{slice_get}
use Rattle.bb_schema_classes.specs.declared.value.Value.{Value}
use Rattle.bb_units.specs.Values.{place_of}
use Rattle.bb_units.proofs.SlotLemmas.{is_place, is_nowhere}
use Rattle.bb_units.proofs.values.Values.get.Goals as goal

pub returns-in_err-place : goal.returns-in_err-place
returns-in_err-place c =
    let nowhere = is_nowhere c.args.slot c.self.inside.block (sym (c.in_err-place.ensures ∙ ap (place_of c.args.slot) c.entries.ensures)) in
    rw (← c.self.view_is, c.from_residual.ensures) (sym (nowhere c.self.inside.values.items).0)

pub returns : goal.returns
returns c =
    let there = is_place c.args.slot c.in_ok-place.place c.self.inside.block (sym (c.in_ok-place.ensures ∙ ap (place_of c.args.slot) c.entries.ensures)) in
    rw (← c.self.view_is)
    (c.at.ensures ∙ (ap (λ (vs : List Value). slice_get vs c.in_ok-place.place) c.deref.ensures.value ∙ sym (there.found c.self.inside.values.items)))
