use Rattle.std.proofs.Common.{◌∙◌, List, find, ap, subst, sym}
use Rattle.bb_agenda.specs.declared.focusing.activation.Activation.{Activation}
use Rattle.bb_agenda.specs.Agenda.{Agenda, Entry, obviated, has_number}
use Rattle.bb_agenda.specs.Changes.{with_obviated}
use Rattle.bb_agenda.specs.proving.Kept.{IsKept, entries_of}
use Rattle.bb_agenda.specs.proving.Numbers.{is_in}
use Rattle.bb_agenda.proofs.KeptLemmas.{is_there, is_absent, absent_kept, obviated_kept, kept_obviated}
use Rattle.bb_agenda.proofs.agenda.Agenda.take_off.Goals as goal

pub returns-then-not-has-clause-ok : goal.returns-then-not-has-clause-ok
returns-then-not-has-clause-ok c =
    let of_given : List Entry → Agenda = λ l. record { given = l; foci = c.self.inside.steering.foci; setting = c.self.inside.steering.setting; refused = c.self.inside.refused } in
    let absent = is_absent (find (has_number c.args.number) c.self.inside.waiting) (sym c.if-not-has.ensures) in
    sym c.self.view_is ∙ ap of_given (absent_kept c.self.inside.given c.self.inside.waiting (is_in c.self.inside.obviated) c.args.number (λ _. obviated) absent)
    ∙ ap (λ (a : Agenda). with_obviated a c.args.number) c.self.view_is

pub invariant_of-self-2 : goal.invariant_of-self-2
invariant_of-self-2 c =
    let there = is_there (find (has_number c.args.number) c.self.inside.waiting) (sym c.if-not-has.ensures) in
    subst (λ (l : List Activation). IsKept c.self.inside.given l (is_in c.insert.new.self)) (sym c.remove.ensures)
    (kept_obviated c.self.inside.given c.self.inside.waiting (is_in c.self.inside.obviated) (is_in c.insert.new.self) c.args.number there.0 there.1 c.in_ok-insert.ensures.ok c.self.invariant)

pub returns-clause-ok : goal.returns-clause-ok
returns-clause-ok c =
    let of_given : List Entry → Agenda = λ l. record { given = l; foci = c.self.inside.steering.foci; setting = c.self.inside.steering.setting; refused = c.self.inside.refused } in
    let there = is_there (find (has_number c.args.number) c.self.inside.waiting) (sym c.if-not-has.ensures) in
    ap (λ (l : List Activation). of_given (entries_of c.self.inside.given l (is_in c.insert.new.self))) c.remove.ensures
    ∙ ap of_given (obviated_kept c.self.inside.given c.self.inside.waiting (is_in c.self.inside.obviated) (is_in c.insert.new.self) c.args.number there.0 there.1 c.in_ok-insert.ensures.ok)
    ∙ ap (λ (a : Agenda). with_obviated a c.args.number) c.self.view_is
