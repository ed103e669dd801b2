use Rattle.std.proofs.Common.{◌≡◌, ◌∙◌, suc, true, false, find, ap, refl, sym, arith}
use Rattle.std.specs.Prelude.{is_some}
use Rattle.bb_agenda.specs.Agenda.{Agenda, has_number, status}
use Rattle.bb_agenda.specs.proving.Numbers.{is_in}
use Rattle.bb_agenda.proofs.KeptLemmas.{status_kept, status_past}
use Rattle.bb_agenda.proofs.agenda.Agenda.status.Goals as goal

pub returns-then-index-self : goal.returns-then-index-self
returns-then-index-self c =
    let is : c.args.number ≡ suc c.in_ok-index.index = omega (arith, c.in_ok-index.ensures.0, c.in_ok-index.ensures.1) in
    sym (status_past c.self.inside.given c.self.inside.waiting (is_in c.self.inside.obviated) c.self.inside.steering.foci c.self.inside.steering.setting c.self.inside.refused c.args.number c.in_ok-index.index is c.if-index-self.true) ∙ ap (λ (a : Agenda). status a c.args.number) c.self.view_is

pub returns-then-contains : goal.returns-then-contains
returns-then-contains c =
    let is : c.args.number ≡ suc c.in_ok-index.index = omega (arith, c.in_ok-index.ensures.0, c.in_ok-index.ensures.1) in
    sym (status_kept c.self.inside.given c.self.inside.waiting (is_in c.self.inside.obviated) c.self.inside.steering.foci c.self.inside.steering.setting c.self.inside.refused c.args.number c.in_ok-index.index true (is_some (find (has_number c.args.number) c.self.inside.waiting)) is c.if-index-self.false (sym c.if-contains.ensures) refl)
    ∙ ap (λ (a : Agenda). status a c.args.number) c.self.view_is

pub returns-then-has : goal.returns-then-has
returns-then-has c =
    let is : c.args.number ≡ suc c.in_ok-index.index = omega (arith, c.in_ok-index.ensures.0, c.in_ok-index.ensures.1) in
    sym (status_kept c.self.inside.given c.self.inside.waiting (is_in c.self.inside.obviated) c.self.inside.steering.foci c.self.inside.steering.setting c.self.inside.refused c.args.number c.in_ok-index.index false true is c.if-index-self.false (sym c.if-contains.ensures) (sym c.if-has.ensures))
    ∙ ap (λ (a : Agenda). status a c.args.number) c.self.view_is

pub returns : goal.returns
returns c =
    let is : c.args.number ≡ suc c.in_ok-index.index = omega (arith, c.in_ok-index.ensures.0, c.in_ok-index.ensures.1) in
    sym (status_kept c.self.inside.given c.self.inside.waiting (is_in c.self.inside.obviated) c.self.inside.steering.foci c.self.inside.steering.setting c.self.inside.refused c.args.number c.in_ok-index.index false false is c.if-index-self.false (sym c.if-contains.ensures) (sym c.if-has.ensures))
    ∙ ap (λ (a : Agenda). status a c.args.number) c.self.view_is
