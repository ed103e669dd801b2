use Rattle.std.proofs.Common.{rules, ◌≡◌, Some, ◌∙◌}
use Rattle.bb_agenda.specs.Agenda.{pending_of}
use Rattle.bb_agenda.specs.Chosen.{chosen}
use Rattle.bb_agenda.specs.Rating.{rating_in}
use Rattle.bb_run.specs.Seen.{seen}
use Rattle.bb_run.proofs.keeping.WeighLemmas.{choice_known}
use Rattle.bb_run.proofs.cycles.choose.Goals as goal

pub returns-in_err-number : goal.returns-in_err-number
returns-in_err-number g c =
    let s = (seen g.N.NativeSource.meaning c.args.state.now) in
    let emitted : c.from_residual.result ≡ chosen (rating_in s.agenda) c.args.plan.now.floor (pending_of s.agenda) = search rules in
    emitted ∙ choice_known c.args.plan.now s c.requires.knows.foci

pub returns : goal.returns
returns g c =
    let s = (seen g.N.NativeSource.meaning c.args.state.now) in
    let emitted : Some c.activation.result ≡ chosen (rating_in s.agenda) c.args.plan.now.floor (pending_of s.agenda) = search rules in
    emitted ∙ choice_known c.args.plan.now s c.requires.knows.foci
