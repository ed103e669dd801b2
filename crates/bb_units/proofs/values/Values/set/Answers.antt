use Rattle.std.proofs.Common.{◌∙◌, sym, ap}
use Rattle.bb_units.specs.Values.{place_of, in_slots}
use Rattle.bb_units.proofs.SlotLemmas.{is_place, is_nowhere}
use Rattle.bb_units.proofs.values.Values.set.Goals as goal

pub returns-in-Some : goal.returns-in-Some
returns-in-Some c =
    let now = c.self.inside in
    let there = is_place c.args.slot c.in-Some.place now.block (sym (c.in-Some.ensures ∙ ap (place_of c.args.slot) c.entries.ensures)) in
    rw (← c.self.view_is) (ap (in_slots now.block) c.replace.ensures ∙ sym (there.writes now.values.items c.args.value))

pub returns-in-None : goal.returns-in-None
returns-in-None c =
    let now = c.self.inside in
    let nowhere = is_nowhere c.args.slot now.block (sym (c.in-None.ensures ∙ ap (place_of c.args.slot) c.entries.ensures)) in
    rw (← c.self.view_is) (sym ((nowhere now.values.items).1 c.args.value))
