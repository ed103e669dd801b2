use Rattle.std.proofs.Common.{◌≡◌, ◌∙◌, refl, subst, sym}
use Rattle.std.proofs.lemmas.List.{nil_from_length}
use Rattle.std.specs.Vec.Iter.{into_iter_items}
use Rattle.bb_agenda.specs.Agenda.{pending_for}
use Rattle.bb_run.specs.Processing.{rerated_by, reacting_to_each}
use Rattle.bb_trace.specs.Board.{Board as Blackboard}
use Rattle.bb_run.specs.Seen.{seen}
use Rattle.bb_run.specs.Serving.{ReactsTo}
use Rattle.bb_run.proofs.responding.OwnLemmas.{rerating_ignores}
use Rattle.bb_run.proofs.responding.ResponseLemmas.{activation_made, activation_over, activations_done, begun_with}
use Rattle.bb_run.proofs.serving.ServeLemmas.{asked_all, first_all, rest_all}
use Rattle.bb_run.proofs.reacting.retrigger_all.Goals as goal

pub loop-activation-init : goal.loop-activation-init
loop-activation-init g c =
    let s = seen g.N.NativeSource.meaning c.args.state.now in
    let waiting = pending_for c.args.state.now.agenda c.args.place in
    let gives : into_iter_items c.into_iter-activation-iterator.result ≡ c.in_ok-activation-items.activation-items.items = c.into_iter-activation-iterator.ensures.into_iter_gives.0 in
    record {
      emitted = begun_with c.args.notes.now.items c.args.event rerated_by rerating_ignores c.args.reaction.now s waiting (into_iter_items c.into_iter-activation-iterator.result) (gives ∙ c.in_ok-activation-items.ensures);
      kept = refl;
      begins = asked_all (ReactsTo c.args.reaction.now c.args.event c.args.state.now.board) c.args.reaction.now c.args.event waiting (into_iter_items c.into_iter-activation-iterator.result) (gives ∙ c.in_ok-activation-items.ensures) c.requires.begins;
    }

pub returns-in-Some-2 : goal.returns-in-Some-2
returns-in-Some-2 g c =
    activation_over c.args.notes.now.items c.loop-activation.notes.items (reacting_to_each c.args.event rerated_by c.args.reaction.now (pending_for c.args.state.now.agenda c.args.place) (seen g.N.NativeSource.meaning c.args.state.now)) c.args.event rerated_by c.args.reaction.now (seen g.N.NativeSource.meaning c.loop-activation.state)
    (into_iter_items c.loop-activation.activation-iterator) c.in-Some.activation (into_iter_items c.next.new.self) c.retrigger_one.new.notes.items (seen g.N.NativeSource.meaning c.retrigger_one.new.state) c.in_ok-end.field-0 c.in-Some.ensures.steps.0 c.loop-activation.invariant.emitted c.in_ok-end.ensures.noted
    c.in-Some-2.end c.in-Some-2.is

pub loop-activation-preserved : goal.loop-activation-preserved
loop-activation-preserved g c =
    record {
      emitted =
          activation_made c.args.notes.now.items c.loop-activation.notes.items (reacting_to_each c.args.event rerated_by c.args.reaction.now (pending_for c.args.state.now.agenda c.args.place) (seen g.N.NativeSource.meaning c.args.state.now)) c.args.event rerated_by c.args.reaction.now (seen g.N.NativeSource.meaning c.loop-activation.state)
          (into_iter_items c.loop-activation.activation-iterator) c.in-Some.activation (into_iter_items c.next.new.self) c.retrigger_one.new.notes.items (seen g.N.NativeSource.meaning c.retrigger_one.new.state) c.in_ok-end.field-0 c.in-Some.ensures.steps.0 c.loop-activation.invariant.emitted c.in_ok-end.ensures.noted
          c.in_default.is;
      kept = c.in_ok-end.ensures.kept ∙ c.loop-activation.invariant.kept;
      begins = rest_all (ReactsTo c.args.reaction.now c.args.event c.args.state.now.board) (into_iter_items c.loop-activation.activation-iterator) c.in-Some.activation (into_iter_items c.next.new.self) c.in-Some.ensures.steps.0 c.loop-activation.invariant.begins;
    }

pub returns : goal.returns
returns g c =
    activations_done c.args.notes.now.items c.loop-activation.notes.items (reacting_to_each c.args.event rerated_by c.args.reaction.now (pending_for c.args.state.now.agenda c.args.place) (seen g.N.NativeSource.meaning c.args.state.now)) c.args.event rerated_by c.args.reaction.now (seen g.N.NativeSource.meaning c.loop-activation.state)
    (into_iter_items c.loop-activation.activation-iterator) (nil_from_length (into_iter_items c.loop-activation.activation-iterator) (sym c.loop-activation.activation-iterator.rest.ok.0 ∙ c.in-None.ensures.steps.0)) c.loop-activation.invariant.emitted

pub retrigger_one-requires : goal.retrigger_one-requires
retrigger_one-requires g c =
    record {
      begins = subst (λ (b : Blackboard). ReactsTo c.args.reaction.now c.args.event b c.in-Some.activation) (sym c.loop-activation.invariant.kept)
          (first_all (ReactsTo c.args.reaction.now c.args.event c.args.state.now.board) (into_iter_items c.loop-activation.activation-iterator) c.in-Some.activation (into_iter_items c.next.new.self) c.in-Some.ensures.steps.0 c.loop-activation.invariant.begins);
    }
