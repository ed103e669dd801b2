use Rattle.std.proofs.Common.{◌∙◌, List, map, ap}
use Rattle.bb_agenda.specs.declared.focusing.activation.Activation.{Activation}
use Rattle.bb_agenda.specs.Agenda.{number_of}
use Rattle.bb_agenda.proofs.KeyedLemmas.{keys_are}
use Rattle.bb_agenda.proofs.waiting.Waiting.numbers.Goals as goal

pub returns-clause-value : goal.returns-clause-value
returns-clause-value c =
    c.keys.ensures.rest ∙ keys_are c.self.inside.activations.entries c.self.invariant.keyed ∙ ap (λ (xs : List Activation). map number_of xs) c.self.view_is
