use Rattle.std.proofs.Common.{◌∙◌, ap}
use Rattle.std.specs.FinMap as map
use Rattle.std.specs.List.{filter_map}
use Rattle.std.proofs.lemmas.Result.{IfOk-weaker}
use Rattle.bb_units.specs.proving.Numbered.{Given, number_if_used}
use Rattle.bb_units.proofs.EntryLemmas.{Entries}
use Rattle.bb_units.proofs.ListedLemmas.{numbers_listed}
use Rattle.bb_units.proofs.numbered.Numbered.list.Goals as goal

pub returns : goal.returns
returns c =
    let n = c.self.inside in
    IfOk-weaker c.used_numbers.result _ _
    (λ list is. is ∙ (ap (λ (es : Entries). filter_map number_if_used es) c.deref.ensures.value
    ∙ (numbers_listed n.next n.entries.items n.units c.self.invariant ∙ ap (λ (g : Given). map.keys g.units) c.self.view_is)))
    c.used_numbers.ensures
