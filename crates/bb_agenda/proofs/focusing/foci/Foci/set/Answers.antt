use Rattle.std.proofs.Common.{◌∙◌, ◌+ℤ◌, ap, sym, rules, w64, Some}
use mir.Val.{SFits}
use Rattle.std.specs.FinMap as fin
use Rattle.std.specs.Ordering.{nat_cmp}
use Rattle.std.specs.BTreeMap.{insert_entry}
use Rattle.bb_agenda.specs.focusing.Foci.{Foci}
use Rattle.bb_agenda.specs.focusing.proving.Weights.{part_of, weight_by}
use Rattle.bb_basis.proofs.EntryLemmas.{one_set, get_is_lookup}
use Rattle.bb_agenda.proofs.focusing_lemmas.SumLemmas.{sum_of, sum_with, weight_is, weighed_with, is_weight}
use Rattle.bb_agenda.proofs.focusing.foci.Foci.set.Goals as goal

pub returns-clause-ok : goal.returns-clause-ok
returns-clause-ok c =
    one_set c.self.inside.foci.entries c.insert.new.self.entries c.args.unit c.args.focus c.in_ok-insert.ensures.updates.0 ∙ ap (λ (m : Foci). fin.insert m c.args.unit c.args.focus) c.self.view_is

pub returns-clause-there : goal.returns-clause-there
returns-clause-there c = get_is_lookup c.insert.new.self.entries c.args.unit ∙ c.in_ok-insert.ensures.updates.1

pub invariant_of-self-2 : goal.invariant_of-self-2
invariant_of-self-2 c =
    let fits : SFits w64 c.args.focus.weight = search rules in
    rw c.in_ok-insert.ensures.entries (weighed_with c.args.unit c.args.focus c.self.inside.foci.entries (is_weight c.args.focus.weight fits) c.self.invariant)

pub returns-clause-weights : goal.returns-clause-weights
returns-clause-weights c = λ p.
    let es = c.self.inside.foci.entries in
    ap (λ z. z +ℤ part_of p c.in_ok-insert.field-0) (weight_is p c.insert.new.self.entries c.insert.ensures.ordered ∙ ap (sum_of p) c.in_ok-insert.ensures.entries)
    ∙ ap (λ o. sum_of p (insert_entry nat_cmp es c.args.unit c.args.focus) +ℤ part_of p o) c.in_ok-insert.ensures.old
    ∙ sum_with p c.args.unit c.args.focus es c.insert.ensures.was_ordered
    ∙ ap (λ z. z +ℤ part_of p (Some c.args.focus)) (sym (weight_is p es c.insert.ensures.was_ordered) ∙ ap (weight_by p) c.self.view_is)
