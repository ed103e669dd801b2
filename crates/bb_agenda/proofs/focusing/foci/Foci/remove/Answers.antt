use Rattle.std.proofs.Common.{◌∙◌, ◌+ℤ◌, ap, sym}
use Rattle.std.specs.FinMap as fin
use Rattle.std.specs.Ordering.{nat_cmp}
use Rattle.std.specs.BTreeMap.{is_at}
use Rattle.std.specs.Map.{remove_entry}
use Rattle.bb_agenda.specs.focusing.Foci.{Foci}
use Rattle.bb_agenda.specs.focusing.proving.Weights.{part_of, weight_by}
use Rattle.bb_basis.proofs.EntryLemmas.{one_gone}
use Rattle.bb_agenda.proofs.focusing_lemmas.SumLemmas.{sum_of, sum_without, weight_is, weighed_without}
use Rattle.bb_agenda.proofs.focusing.foci.Foci.remove.Goals as goal

pub returns-clause-foci : goal.returns-clause-foci
returns-clause-foci c =
    one_gone c.self.inside.foci.entries c.remove.new.self.entries c.args.unit c.remove.ensures.updates.0 ∙ ap (λ (m : Foci). fin.remove m c.args.unit) c.self.view_is

pub invariant_of-self : goal.invariant_of-self
invariant_of-self c =
    rw c.remove.ensures.entries (weighed_without (is_at (nat_cmp c.args.unit)) c.self.inside.foci.entries c.self.invariant)

pub returns-clause-weights : goal.returns-clause-weights
returns-clause-weights c = λ p.
    let es = c.self.inside.foci.entries in
    let q = is_at (nat_cmp c.args.unit) in
    ap (λ z. z +ℤ part_of p c.remove.result) (weight_is p c.remove.new.self.entries c.remove.ensures.ordered ∙ ap (sum_of p) c.remove.ensures.entries)
    ∙ ap (λ o. sum_of p (remove_entry q es) +ℤ part_of p o) c.remove.ensures.value
    ∙ sum_without p q es
    ∙ sym (weight_is p es c.len-count.ensures.ordered) ∙ ap (weight_by p) c.self.view_is
