use Rattle.std.proofs.Common.{◌∙◌, sym, ap}
use Rattle.std.specs.FinMap as fin
use Rattle.bb_agenda.specs.focusing.Foci.{Foci}
use Rattle.bb_basis.proofs.EntryLemmas.{get_is_lookup}
use Rattle.bb_agenda.proofs.focusing.foci.Foci.get.Goals as goal

pub returns : goal.returns
returns c = c.get.ensures.value ∙ sym (get_is_lookup c.self.inside.foci.entries c.args.unit) ∙ ap (λ (m : Foci). fin.get m c.args.unit) c.self.view_is
