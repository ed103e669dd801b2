use Rattle.std.proofs.Common.{rules, ◌+◌, ◌∙◌, ℤ, List, Err, Ok, cond, refl, ap, subst, sym, w64, to_z, of_z}
use Rattle.std.proofs.lemmas.Int.{to_z-of_z}
use Rattle.bb_agenda.specs.declared.focusing.activation.Activation.{Activation}
use Rattle.bb_agenda.specs.declared.fault.AddFault.TheVariants.{Full}
use Rattle.bb_agenda.specs.Agenda.{Agenda, is_full, next_number}
use Rattle.bb_agenda.specs.Changes.{with_activation}
use Rattle.bb_agenda.specs.proving.Kept.{IsKept, entries_of}
use Rattle.bb_agenda.specs.proving.Numbers.{is_in}
use Rattle.bb_agenda.proofs.KeptLemmas.{more_numbers, all_below, kept_more, added_kept, given_kept}
use Rattle.bb_agenda.proofs.agenda.Agenda.put.Goals as goal

pub overflow_add-number : goal.overflow_add-number
overflow_add-number c =
    let lt = more_numbers c.self.inside.given c.self.inside.waiting (is_in c.self.inside.obviated) c.self.inside.steering.foci c.self.inside.steering.setting c.self.inside.refused c.self.invariant (ap is_full c.self.view_is ∙ sym c.if-is_full.ensures) in
    search rules

pub push-requires : goal.push-requires
push-requires c =
    let a : Activation = record { number = c.self.inside.given + 1; source = c.args.source; unit = c.args.unit; base = to_z w64 (of_z w64 c.args.base) } in
    all_below c.self.inside.given c.self.inside.waiting (is_in c.self.inside.obviated) c.self.invariant a refl

pub invariant_of-self-2 : goal.invariant_of-self-2
invariant_of-self-2 c =
    let a : Activation = record { number = c.self.inside.given + 1; source = c.args.source; unit = c.args.unit; base = to_z w64 (of_z w64 c.args.base) } in
    subst (λ (l : List Activation). IsKept (c.self.inside.given + 1) l (is_in c.self.inside.obviated)) (sym c.in_ok-push.ensures.ok) (kept_more c.self.inside.given c.self.inside.waiting (is_in c.self.inside.obviated) c.self.invariant a refl)

pub returns-clause-number : goal.returns-clause-number
returns-clause-number c =
    ap (λ b. cond b (Err Full) (Ok (next_number c.args.self.now))) (sym c.if-is_full.ensures)
    ∙ ap (λ n. Ok n) (ap next_number (sym c.self.view_is) ∙ ap (λ n. n + 1) (given_kept c.self.inside.given c.self.inside.waiting (is_in c.self.inside.obviated)))

pub returns-clause-added : goal.returns-clause-added
returns-clause-added c =
    let a : Activation = record { number = c.self.inside.given + 1; source = c.args.source; unit = c.args.unit; base = to_z w64 (of_z w64 c.args.base) } in
    let of_base : ℤ → Activation = λ z. record { number = c.self.inside.given + 1; source = c.args.source; unit = c.args.unit; base = z } in
    let of_waiting : List Activation → Agenda = λ l. record { given = entries_of (c.self.inside.given + 1) l (is_in c.self.inside.obviated); foci = c.self.inside.steering.foci; setting = c.self.inside.steering.setting; refused = c.self.inside.refused } in
    ap of_waiting c.in_ok-push.ensures.ok
    ∙ added_kept c.self.inside.given c.self.inside.waiting (is_in c.self.inside.obviated) c.self.invariant a refl c.self.inside.steering.foci c.self.inside.steering.setting c.self.inside.refused c.args.source c.args.unit c.args.base (ap of_base (to_z-of_z w64 c.args.base c.ranges.base))
    ∙ ap (λ (g : Agenda). with_activation g c.args.source c.args.unit c.args.base) c.self.view_is
