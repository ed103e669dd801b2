use Rattle.std.proofs.Common.{◌∙◌, find, ap}
use Rattle.bb_agenda.specs.Agenda.{has_number}
use Rattle.bb_agenda.proofs.KeyedLemmas.{lookup_is_find}
use Rattle.bb_agenda.proofs.waiting.Waiting.get.Goals as goal

pub returns : goal.returns
returns c = c.copied.ensures ∙ c.get.ensures.value ∙ lookup_is_find c.args.number c.self.inside.activations.entries c.self.invariant.keyed ∙ ap (find (has_number c.args.number)) c.self.view_is
