use Rattle.std.proofs.Common.{◌∙◌, List, ap, subst, sym}
use Rattle.bb_agenda.specs.declared.focusing.activation.Activation.{Activation}
use Rattle.bb_agenda.specs.Agenda.{Agenda, Entry}
use Rattle.bb_agenda.specs.Changes.{with_executed}
use Rattle.bb_agenda.specs.proving.Kept.{IsKept, entries_of}
use Rattle.bb_agenda.specs.proving.Numbers.{is_in}
use Rattle.bb_agenda.proofs.KeptLemmas.{executed_kept, kept_executed}
use Rattle.bb_agenda.proofs.agenda.Agenda.executed.Goals as goal

pub invariant_of-self : goal.invariant_of-self
invariant_of-self c =
    subst (λ (l : List Activation). IsKept c.self.inside.given l (is_in c.self.inside.obviated)) (sym c.remove.ensures) (kept_executed c.self.inside.given c.self.inside.waiting (is_in c.self.inside.obviated) c.args.number c.self.invariant)

pub returns-clause-ok : goal.returns-clause-ok
returns-clause-ok c =
    let of_given : List Entry → Agenda = λ l. record { given = l; foci = c.self.inside.steering.foci; setting = c.self.inside.steering.setting; refused = c.self.inside.refused } in
    ap (λ (l : List Activation). of_given (entries_of c.self.inside.given l (is_in c.self.inside.obviated))) c.remove.ensures
    ∙ ap of_given (executed_kept c.self.inside.given c.self.inside.waiting (is_in c.self.inside.obviated) c.args.number)
    ∙ ap (λ (a : Agenda). with_executed a c.args.number) c.self.view_is
