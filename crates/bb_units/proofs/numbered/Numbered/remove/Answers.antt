use Rattle.std.proofs.Common.{◌≡◌, true, ◌∙◌, sym, ap, subst}
use Rattle.std.specs.FinMap as map
use Rattle.std.specs.Ordering.{nat_cmp}
use Rattle.bb_units.specs.declared.unit.Unit.{Unit}
use Rattle.bb_units.specs.proving.Numbered.{Given, one_gone, units_in, AreNumbered}
use Rattle.bb_units.proofs.EntryLemmas.{Entries}
use Rattle.bb_units.proofs.ChangeLemmas.{live_key, unit_gone, numbered_less}
use Rattle.bb_units.proofs.numbered.Numbered.remove.Goals as goal

pub unwrap-key-requires : goal.unwrap-key-requires
unwrap-key-requires c =
    let n = c.self.inside in
    let live = subst (λ (g : Given). map.contains_key g.units c.args.unit ≡ true) (sym c.self.view_is) c.requires in
    rw c.vacate.ensures.key (live_key n.next n.entries.items n.units c.self.invariant c.args.unit live)

pub invariant_of-self : goal.invariant_of-self
invariant_of-self c =
    let n = c.self.inside in
    let key = sym c.vacate.ensures.key ∙ c.unwrap-key.ensures in
    let less = numbered_less n.next n.entries.items n.units c.self.invariant c.remove.new.self c.args.unit c.unwrap-key.result key c.remove.ensures.updates c.remove.ensures.len in
    (c.close_gaps.ensures n.next c.remove.new.self (subst (λ (es : Entries). AreNumbered n.next es c.remove.new.self) (sym c.vacate.ensures.gone) less)).0

pub returns : goal.returns
returns c =
    let n = c.self.inside in
    let key = sym c.vacate.ensures.key ∙ c.unwrap-key.ensures in
    let less = numbered_less n.next n.entries.items n.units c.self.invariant c.remove.new.self c.args.unit c.unwrap-key.result key c.remove.ensures.updates c.remove.ensures.len in
    let same = c.close_gaps.ensures n.next c.remove.new.self (subst (λ (es : Entries). AreNumbered n.next es c.remove.new.self) (sym c.vacate.ensures.gone) less) in
    let units = same.1 ∙ (ap (units_in c.remove.new.self) c.vacate.ensures.gone
    ∙ unit_gone n.next n.entries.items n.units c.self.invariant c.remove.new.self c.args.unit c.unwrap-key.result key c.remove.ensures.updates) in
    ap (λ (m : map.FinMap nat_cmp Unit). let g : Given = record { next = n.next; units = m } in g) units ∙ ap (λ (g : Given). one_gone g c.args.unit) c.self.view_is
