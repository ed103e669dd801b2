use Rattle.std.proofs.Common.{◌+◌, ◌++◌, ◌∷◌, [], Some, ◌∙◌, sym, ap, subst}
use Rattle.std.specs.FinMap as map
use Rattle.std.specs.Ordering.{nat_cmp}
use Rattle.bb_units.specs.declared.unit.Unit.{Unit}
use Rattle.bb_units.specs.proving.Numbered.{Given, units_in, one_given, AreNumbered}
use Rattle.bb_units.proofs.EntryLemmas.{Entries}
use Rattle.bb_units.proofs.ChangeLemmas.{unit_pushed, numbered_more}
use Rattle.bb_units.proofs.numbered.Numbered.push.Goals as goal

pub invariant_of-self-2 : goal.invariant_of-self-2
invariant_of-self-2 c =
    let n = c.self.inside in
    let made = c.push_reserved.ensures.items ∙ ap (λ (es : Entries). es ++ (n.next, Some c.in_ok-key.key) ∷ []) c.reserve.ensures.items in
    let said = c.in_ok-key.ensures in
    subst (λ (es : Entries). AreNumbered (n.next + 1) es c.insert.new.self) (sym made)
    (numbered_more n.next n.entries.items n.units c.self.invariant c.insert.new.self c.in_ok-key.key c.args.unit said.was_vacant said.updates said.len)

pub returns-clause-ok : goal.returns-clause-ok
returns-clause-ok c =
    let n = c.self.inside in
    let made = c.push_reserved.ensures.items ∙ ap (λ (es : Entries). es ++ (n.next, Some c.in_ok-key.key) ∷ []) c.reserve.ensures.items in
    let said = c.in_ok-key.ensures in
    let units = ap (units_in c.insert.new.self) made ∙ unit_pushed n.next n.entries.items n.units c.self.invariant c.insert.new.self c.in_ok-key.key c.args.unit said.was_vacant said.updates in
    ap (λ (m : map.FinMap nat_cmp Unit). let g : Given = record { next = n.next + 1; units = m } in g) units ∙ ap (λ (g : Given). one_given g c.args.unit) c.self.view_is
