use Rattle.std.proofs.Common.{◌∙◌, List, filter, map, ap}
use Rattle.std.specs.Map.{values_of}
use Rattle.bb_agenda.specs.declared.focusing.activation.Activation.{Activation}
use Rattle.bb_agenda.specs.Agenda.{number_of, is_of}
use Rattle.bb_agenda.proofs.ListedLemmas.{of_source_is}
use Rattle.bb_agenda.proofs.waiting.Waiting.of_source.Goals as goal

pub returns-clause-value : goal.returns-clause-value
returns-clause-value c =
    c.of_source.ensures.value
    ∙ of_source_is (values_of c.self.inside.activations.entries) c.self.invariant.filed.rising c.self.inside.lists.by_source c.self.invariant.filed.by_source c.of_source.ensures.ordered c.args.source
    ∙ ap (λ (xs : List Activation). map number_of (filter (is_of c.args.source) xs)) c.self.view_is
