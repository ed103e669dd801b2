use Rattle.std.proofs.Common.{◌∙◌, List, filter, map, ap}
use Rattle.std.specs.Map.{values_of}
use Rattle.bb_agenda.specs.declared.focusing.activation.Activation.{Activation}
use Rattle.bb_agenda.specs.Agenda.{number_of, is_of, is_on}
use Rattle.bb_agenda.proofs.ListedLemmas.{on_unit_is}
use Rattle.bb_agenda.proofs.waiting.Waiting.on_unit.Goals as goal

pub returns-clause-value : goal.returns-clause-value
returns-clause-value c =
    c.on_unit.ensures.value
    ∙ on_unit_is (values_of c.self.inside.activations.entries) c.self.invariant.filed.rising c.self.inside.lists.by_unit c.self.invariant.filed.by_unit c.on_unit.ensures.ordered c.args.source c.args.unit
    ∙ ap (λ (xs : List Activation). map number_of (filter (is_on c.args.unit) (filter (is_of c.args.source) xs))) c.self.view_is
