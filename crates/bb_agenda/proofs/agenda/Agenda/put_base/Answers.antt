use Rattle.std.proofs.Common.{◌∙◌, List, ℤ, map, ap, subst, sym, w64}
use Rattle.std.proofs.lemmas.Int.{to_z-of_z}
use Rattle.bb_agenda.specs.declared.focusing.activation.Activation.{Activation}
use Rattle.bb_agenda.specs.Agenda.{Agenda, Entry}
use Rattle.bb_agenda.specs.Changes.{with_base, rebased}
use Rattle.bb_agenda.specs.proving.Kept.{IsKept, entries_of}
use Rattle.bb_agenda.specs.proving.Numbers.{is_in}
use Rattle.bb_agenda.proofs.KeptLemmas.{rebased_kept, kept_rebased}
use Rattle.bb_agenda.proofs.agenda.Agenda.put_base.Goals as goal

pub invariant_of-self-2 : goal.invariant_of-self-2
invariant_of-self-2 c =
    let made = c.in_ok-rerate.ensures.ok ∙ ap (λ (z : ℤ). map (rebased c.args.number z) c.self.inside.waiting) (to_z-of_z w64 c.args.base c.ranges.base) in
    subst (λ (l : List Activation). IsKept c.self.inside.given l (is_in c.self.inside.obviated)) (sym made) (kept_rebased c.self.inside.given c.self.inside.waiting (is_in c.self.inside.obviated) c.args.number c.args.base c.self.invariant)

pub returns-clause-ok : goal.returns-clause-ok
returns-clause-ok c =
    let made = c.in_ok-rerate.ensures.ok ∙ ap (λ (z : ℤ). map (rebased c.args.number z) c.self.inside.waiting) (to_z-of_z w64 c.args.base c.ranges.base) in
    let of_given : List Entry → Agenda = λ l. record { given = l; foci = c.self.inside.steering.foci; setting = c.self.inside.steering.setting; refused = c.self.inside.refused } in
    ap (λ (l : List Activation). of_given (entries_of c.self.inside.given l (is_in c.self.inside.obviated))) made
    ∙ ap of_given (rebased_kept c.self.inside.given c.self.inside.waiting (is_in c.self.inside.obviated) c.args.number c.args.base)
    ∙ ap (λ (a : Agenda). with_base a c.args.number c.args.base) c.self.view_is
