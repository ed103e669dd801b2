use Rattle.std.proofs.Common.{subst}
use Rattle.bb_agenda.specs.Fits.{Fits}
use Rattle.bb_agenda.specs.proving.Numbers.{is_in}
use Rattle.bb_agenda.proofs.FoundLemmas.{on_itself}
use Rattle.bb_agenda.proofs.KeptLemmas.{fits_kept}
use Rattle.bb_agenda.proofs.agenda.Agenda.pending_on.Goals as goal

pub returns-clause-itself : goal.returns-clause-itself
returns-clause-itself c =
    let fits : Fits c.args.self.now = subst Fits c.self.view_is (fits_kept c.self.inside.given c.self.inside.waiting (is_in c.self.inside.obviated) c.self.inside.steering.foci c.self.inside.steering.setting c.self.inside.refused c.self.invariant c.on_unit.ensures.rising) in
    on_itself c.args.self.now fits c.args.source c.args.unit
