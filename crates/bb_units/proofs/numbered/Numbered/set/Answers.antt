use Rattle.std.proofs.Common.{◌∙◌, sym, ap, subst}
use Rattle.std.specs.FinMap as map
use Rattle.std.specs.Ordering.{nat_cmp}
use Rattle.bb_units.specs.declared.unit.Unit.{Unit}
use Rattle.bb_units.specs.proving.Numbered.{Given, UnitSlab, one_set, units_in, key_in, AreNumbered}
use Rattle.bb_units.proofs.ChangeLemmas.{value_set, nothing_set}
use Rattle.bb_units.proofs.numbered.Numbered.set.Goals as goal

pub invariant_of-self : goal.invariant_of-self
invariant_of-self c =
    let n = c.self.inside in
    let key = sym (c.in-Some.ensures ∙ ap (key_in c.args.unit) c.deref.ensures.value) in
    let changed = value_set n.next n.entries.items n.units c.self.invariant c.args.unit c.in-Some.key c.args.slot c.args.value key in
    subst (AreNumbered n.next n.entries.items) (sym c.update.ensures) changed.1

pub returns-in-None : goal.returns-in-None
returns-in-None c =
    let n = c.self.inside in
    let none = sym (c.in-None.ensures ∙ ap (key_in c.args.unit) c.deref.ensures.value) in
    let same = nothing_set n.next n.entries.items n.units c.self.invariant c.args.unit c.args.slot c.args.value none in
    sym c.self.view_is ∙ (ap (λ (m : map.FinMap nat_cmp Unit). let g : Given = record { next = n.next; units = m } in g) same
    ∙ ap (λ (g : Given). one_set g c.args.unit c.args.slot c.args.value) c.self.view_is)

pub returns-in-Some : goal.returns-in-Some
returns-in-Some c =
    let n = c.self.inside in
    let key = sym (c.in-Some.ensures ∙ ap (key_in c.args.unit) c.deref.ensures.value) in
    let changed = value_set n.next n.entries.items n.units c.self.invariant c.args.unit c.in-Some.key c.args.slot c.args.value key in
    let units = ap (λ (s : UnitSlab). units_in s n.entries.items) c.update.ensures ∙ changed.0 in
    ap (λ (m : map.FinMap nat_cmp Unit). let g : Given = record { next = n.next; units = m } in g) units
    ∙ ap (λ (g : Given). one_set g c.args.unit c.args.slot c.args.value) c.self.view_is
