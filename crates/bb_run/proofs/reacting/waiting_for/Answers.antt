use Rattle.std.proofs.Common.{◌∙◌, List, subst, sym}
use Rattle.bb_agenda.specs.declared.focusing.activation.Activation.{Activation}
use Rattle.bb_agenda.specs.Agenda.{pending_for}
use Rattle.bb_run.proofs.responding.WaitingLemmas.{Finds, none_found, all_found, next_pends, take_one_more}
use Rattle.bb_run.proofs.reacting.waiting_for.Goals as goal

pub loop-number-init : goal.loop-number-init
loop-number-init c =
    let waiting = pending_for c.args.agenda.now c.args.place in
    subst (λ (found : List Activation). Finds waiting found c.into_iter-number-iterator.result) (sym {A = List Activation} c.new-waiting.ensures.items)
    (none_found waiting c.into_iter-number-iterator.result (c.into_iter-number-iterator.ensures.into_iter_gives ∙ c.pending_for-number-items.ensures.numbers))

pub activation-requires : goal.activation-requires
activation-requires c =
    next_pends c.args.agenda.now (pending_for c.args.agenda.now c.args.place) c.loop-number.waiting.items c.pending_for-number-items.ensures.itself
    c.loop-number.number-iterator c.loop-number.invariant c.in-Some.number c.next.new.self c.in-Some.ensures.steps

pub loop-number-preserved : goal.loop-number-preserved
loop-number-preserved c =
    let waiting = pending_for c.args.agenda.now c.args.place in
    subst (λ (found : List Activation). Finds waiting found c.next.new.self) (sym {A = List Activation} c.in_ok-push.ensures.items)
    (take_one_more c.args.agenda.now waiting c.loop-number.waiting.items c.pending_for-number-items.ensures.itself
    c.loop-number.number-iterator c.loop-number.invariant c.in-Some.number c.next.new.self c.in-Some.ensures.steps c.activation.result c.activation.ensures)

pub returns : goal.returns
returns c =
    all_found (pending_for c.args.agenda.now c.args.place) c.loop-number.waiting.items c.loop-number.number-iterator c.loop-number.invariant c.in-None.ensures.steps.0
