use Rattle.std.proofs.Common.{None, Some, ◌∙◌, sym, ap}
use Rattle.std.specs.FinMap as map
use Rattle.bb_units.specs.proving.Numbered.{Given, key_in}
use Rattle.bb_units.proofs.ChangeLemmas.{at_key}
use Rattle.bb_units.proofs.numbered.Numbered.get.Goals as goal

pub returns-in_err-key_of : goal.returns-in_err-key_of
returns-in_err-key_of c =
    let n = c.self.inside in
    let none = at_key n.next n.entries.items n.units c.self.invariant c.args.unit None (sym (c.in_err-key_of.ensures ∙ ap (key_in c.args.unit) c.deref.ensures.value)) in
    rw c.from_residual.ensures (sym none ∙ ap (λ (g : Given). map.get g.units c.args.unit) c.self.view_is)

pub returns : goal.returns
returns c =
    let n = c.self.inside in
    let found = at_key n.next n.entries.items n.units c.self.invariant c.args.unit (Some c.in_ok-key_of.field-0) (sym (c.in_ok-key_of.ensures ∙ ap (key_in c.args.unit) c.deref.ensures.value)) in
    c.get.ensures ∙ (sym found ∙ ap (λ (g : Given). map.get g.units c.args.unit) c.self.view_is)
