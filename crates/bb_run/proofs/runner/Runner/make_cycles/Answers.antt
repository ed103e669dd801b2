use Rattle.std.proofs.Common.{◌+◌, ◌-◌, arith, refl}
use Rattle.std.proofs.lemmas.Result.{err_from_is_err_and}
use Rattle.bb_trace.specs.End.{Limit}
use Rattle.bb_run.specs.Run.{cycle, cycles}
use Rattle.bb_run.specs.Emission.{over}
use Rattle.bb_run.specs.Seen.{seen}
use Rattle.bb_run.specs.Emitting.{at}
use Rattle.bb_run.proofs.stretches.CycleCounts.{cycle_last, cycle_left, limit_acts, limit_over, over_left}
use Rattle.bb_run.proofs.keeping.KnowLemmas.{cycle_known, wait_known}
use Rattle.bb_run.proofs.emitting.EmitLemmas.{cycle_then, at_cycle, at_limit, nothing_emitted, over_limit, part_cut, part_made, part_over, decision_acts, decision_cut, decision_over, same_then}
use Rattle.bb_run.proofs.serving.ServeCycles.{cycle_serves, wait_serves, wait_suits}
use Rattle.bb_run.proofs.runner.Runner.make_cycles.Goals as goal

pub loop-done-init : goal.loop-done-init
loop-done-init g c =
    let whole = cycles c.args.plan.now c.args.made.now (c.args.last - c.args.made.now) (seen g.N.NativeSource.meaning c.args.state.now) in
    record {
      emitted = nothing_emitted c.args.plan.now (at g.O.Out.taken c.args.self.now) whole;
      made_is = refl;
      counts = refl;
      still_open = c.requires.open;
      same = (refl, refl);
      knows = c.requires.knows;
      serves = c.requires.serves;
    }

pub returns-in_err-activation-clause-made : goal.returns-in_err-activation-clause-made
returns-in_err-activation-clause-made g c =
    let p = err_from_is_err_and c.from_residual.result c.from_residual.ensures.1 in
    let first = at g.O.Out.taken c.args.self.now in
    let whole = cycles c.args.plan.now c.args.made.now (c.args.last - c.args.made.now) (seen g.N.NativeSource.meaning c.args.state.now) in
    let now = at g.O.Out.taken c.loop-done.self in
    rw (p.1, p.2) (decision_cut c.args.plan.now first now (at g.O.Out.taken c.decide.new.self) whole (seen g.N.NativeSource.meaning c.loop-done.state) (seen g.N.NativeSource.meaning c.decide.new.state) (cycle_then c.args.plan.now c.loop-done.done (c.args.last - (c.loop-done.done + 1))) c.in_err-activation.field-0.0
    (at_cycle c.args.plan.now first now whole c.args.last c.loop-done.done (seen g.N.NativeSource.meaning c.loop-done.state) c.loop-done-test.true c.loop-done.invariant.emitted) c.in_err-activation.ensures.waited)

pub returns-in-Over-clause-made : goal.returns-in-Over-clause-made
returns-in-Over-clause-made g c =
    let first = at g.O.Out.taken c.args.self.now in
    let whole = cycles c.args.plan.now c.args.made.now (c.args.last - c.args.made.now) (seen g.N.NativeSource.meaning c.args.state.now) in
    let now = at g.O.Out.taken c.loop-done.self in
    decision_over c.args.plan.now first now (at g.O.Out.taken c.decide.new.self) whole (seen g.N.NativeSource.meaning c.loop-done.state) (seen g.N.NativeSource.meaning c.decide.new.state) (cycle_then c.args.plan.now c.loop-done.done (c.args.last - (c.loop-done.done + 1))) c.in_ok-activation.field-0 c.in-Over.end
    (at_cycle c.args.plan.now first now whole c.args.last c.loop-done.done (seen g.N.NativeSource.meaning c.loop-done.state) c.loop-done-test.true c.loop-done.invariant.emitted) c.in_ok-activation.ensures.waited c.in-Over.is

pub returns-in_err-end-clause-made : goal.returns-in_err-end-clause-made
returns-in_err-end-clause-made g c =
    let p = err_from_is_err_and c.from_residual-in_err-end.result c.from_residual-in_err-end.ensures.1 in
    let first = at g.O.Out.taken c.args.self.now in
    let whole = cycles c.args.plan.now c.args.made.now (c.args.last - c.args.made.now) (seen g.N.NativeSource.meaning c.args.state.now) in
    let now = at g.O.Out.taken c.loop-done.self in
    let decided = at g.O.Out.taken c.decide.new.self in
    rw (p.1, p.2) (part_cut c.args.plan.now first decided (at g.O.Out.taken c.make_cycle.new.self) whole (cycle c.args.plan.now (c.loop-done.done + 1) c.in-Act.activation (seen g.N.NativeSource.meaning c.decide.new.state)) (cycles c.args.plan.now (c.loop-done.done + 1) (c.args.last - (c.loop-done.done + 1))) c.in_err-end.field-0.0
    (decision_acts c.args.plan.now first now decided whole (seen g.N.NativeSource.meaning c.loop-done.state) (seen g.N.NativeSource.meaning c.decide.new.state) (cycle_then c.args.plan.now c.loop-done.done (c.args.last - (c.loop-done.done + 1))) c.in_ok-activation.field-0 c.in-Act.activation
    (at_cycle c.args.plan.now first now whole c.args.last c.loop-done.done (seen g.N.NativeSource.meaning c.loop-done.state) c.loop-done-test.true c.loop-done.invariant.emitted) c.in_ok-activation.ensures.waited c.in-Act.is)
    c.in_err-end.ensures.made)

pub returns-in-Some-clause-made : goal.returns-in-Some-clause-made
returns-in-Some-clause-made g c =
    let first = at g.O.Out.taken c.args.self.now in
    let whole = cycles c.args.plan.now c.args.made.now (c.args.last - c.args.made.now) (seen g.N.NativeSource.meaning c.args.state.now) in
    let now = at g.O.Out.taken c.loop-done.self in
    let decided = at g.O.Out.taken c.decide.new.self in
    part_over c.args.plan.now first decided (at g.O.Out.taken c.make_cycle.new.self) whole (cycle c.args.plan.now (c.loop-done.done + 1) c.in-Act.activation (seen g.N.NativeSource.meaning c.decide.new.state)) (cycles c.args.plan.now (c.loop-done.done + 1) (c.args.last - (c.loop-done.done + 1))) (seen g.N.NativeSource.meaning c.make_cycle.new.state) c.in_ok-end.field-0 c.in-Some.end
    (decision_acts c.args.plan.now first now decided whole (seen g.N.NativeSource.meaning c.loop-done.state) (seen g.N.NativeSource.meaning c.decide.new.state) (cycle_then c.args.plan.now c.loop-done.done (c.args.last - (c.loop-done.done + 1))) c.in_ok-activation.field-0 c.in-Act.activation
    (at_cycle c.args.plan.now first now whole c.args.last c.loop-done.done (seen g.N.NativeSource.meaning c.loop-done.state) c.loop-done-test.true c.loop-done.invariant.emitted) c.in_ok-activation.ensures.waited c.in-Act.is)
    c.in_ok-end.ensures.made c.in-Some.is

pub loop-done-preserved : goal.loop-done-preserved
loop-done-preserved g c =
    let first = at g.O.Out.taken c.args.self.now in
    let whole = cycles c.args.plan.now c.args.made.now (c.args.last - c.args.made.now) (seen g.N.NativeSource.meaning c.args.state.now) in
    let now = at g.O.Out.taken c.loop-done.self in
    let decided = at g.O.Out.taken c.decide.new.self in
    record {
      emitted =
          part_made c.args.plan.now first decided (at g.O.Out.taken c.make_cycle.new.self) whole (cycle c.args.plan.now (c.loop-done.done + 1) c.in-Act.activation (seen g.N.NativeSource.meaning c.decide.new.state)) (cycles c.args.plan.now (c.loop-done.done + 1) (c.args.last - (c.loop-done.done + 1))) (seen g.N.NativeSource.meaning c.make_cycle.new.state) c.in_ok-end.field-0
          (decision_acts c.args.plan.now first now decided whole (seen g.N.NativeSource.meaning c.loop-done.state) (seen g.N.NativeSource.meaning c.decide.new.state) (cycle_then c.args.plan.now c.loop-done.done (c.args.last - (c.loop-done.done + 1))) c.in_ok-activation.field-0 c.in-Act.activation
          (at_cycle c.args.plan.now first now whole c.args.last c.loop-done.done (seen g.N.NativeSource.meaning c.loop-done.state) c.loop-done-test.true c.loop-done.invariant.emitted) c.in_ok-activation.ensures.waited c.in-Act.is)
          c.in_ok-end.ensures.made c.in_default.is;
      made_is = refl;
      counts =
          let one = cycle_left c.args.plan.now (at g.O.Out.taken c.loop-done.self) decided c.args.last c.loop-done.done (seen g.N.NativeSource.meaning c.loop-done.state) (seen g.N.NativeSource.meaning c.decide.new.state) c.in_ok-activation.field-0 c.in_ok-activation.ensures.waited
          c.in-Act.activation (seen g.N.NativeSource.meaning c.make_cycle.new.state) c.in_ok-end.field-0 c.loop-done-test.true c.in-Act.is c.in_ok-end.ensures.made.1 c.in_default.is
          in
          omega (arith, c.loop-done.invariant.counts, c.loop-done.invariant.made_is, one);
      still_open = c.in_ok-end.ensures.failed;
      same = same_then c.args.self.now c.decide.new.self c.make_cycle.new.self (same_then c.args.self.now c.loop-done.self c.decide.new.self c.loop-done.invariant.same c.in_ok-activation.ensures.same) c.in_ok-end.ensures.same;
      knows =
          cycle_known c.args.plan.now decided (at g.O.Out.taken c.make_cycle.new.self) (seen g.N.NativeSource.meaning c.decide.new.state) (seen g.N.NativeSource.meaning c.make_cycle.new.state) (c.loop-done.done + 1) c.in-Act.activation c.in_ok-end.field-0
          (wait_known c.args.plan.now now decided (seen g.N.NativeSource.meaning c.loop-done.state) (seen g.N.NativeSource.meaning c.decide.new.state) c.in_ok-activation.field-0 c.loop-done.invariant.knows c.in_ok-activation.ensures.waited)
          c.in_ok-end.ensures.made;
      serves =
          cycle_serves c.args.plan.now (seen g.N.NativeSource.meaning c.decide.new.state) (wait_serves c.args.plan.now (seen g.N.NativeSource.meaning c.loop-done.state) c.loop-done.invariant.serves now decided (seen g.N.NativeSource.meaning c.decide.new.state) c.in_ok-activation.field-0 c.in_ok-activation.ensures.waited)
          decided (at g.O.Out.taken c.make_cycle.new.self) (seen g.N.NativeSource.meaning c.make_cycle.new.state) (c.loop-done.done + 1) c.in-Act.activation c.in_ok-end.field-0
          (wait_suits c.args.plan.now (seen g.N.NativeSource.meaning c.loop-done.state) c.loop-done.invariant.serves now decided (seen g.N.NativeSource.meaning c.decide.new.state) c.in_ok-activation.field-0 c.in-Act.activation c.in_ok-activation.ensures.waited c.in-Act.is) c.in_ok-end.ensures.made;
    }

pub returns-in_err-decide-clause-made : goal.returns-in_err-decide-clause-made
returns-in_err-decide-clause-made g c =
    let p = err_from_is_err_and c.from_residual-in_err-decide.result c.from_residual-in_err-decide.ensures.1 in
    let first = at g.O.Out.taken c.args.self.now in
    let whole = cycles c.args.plan.now c.args.made.now (c.args.last - c.args.made.now) (seen g.N.NativeSource.meaning c.args.state.now) in
    let now = at g.O.Out.taken c.loop-done.self in
    rw (p.1, p.2) (decision_cut c.args.plan.now first now (at g.O.Out.taken c.decide-2.new.self) whole (seen g.N.NativeSource.meaning c.loop-done.state) (seen g.N.NativeSource.meaning c.decide-2.new.state) (λ u a. over Limit u) c.in_err-decide.field-0.0
    (at_limit c.args.plan.now first now whole c.args.last c.loop-done.done (seen g.N.NativeSource.meaning c.loop-done.state) c.loop-done-test.false c.loop-done.invariant.emitted) c.in_err-decide.ensures.waited)

pub returns-in-Act-2-clause-made : goal.returns-in-Act-2-clause-made
returns-in-Act-2-clause-made g c =
    let first = at g.O.Out.taken c.args.self.now in
    let whole = cycles c.args.plan.now c.args.made.now (c.args.last - c.args.made.now) (seen g.N.NativeSource.meaning c.args.state.now) in
    let now = at g.O.Out.taken c.loop-done.self in
    let decided = at g.O.Out.taken c.decide-2.new.self in
    over_limit c.args.plan.now first decided whole (seen g.N.NativeSource.meaning c.decide-2.new.state)
    (decision_acts c.args.plan.now first now decided whole (seen g.N.NativeSource.meaning c.loop-done.state) (seen g.N.NativeSource.meaning c.decide-2.new.state) (λ u a. over Limit u) c.in_ok-decide.field-0 _
    (at_limit c.args.plan.now first now whole c.args.last c.loop-done.done (seen g.N.NativeSource.meaning c.loop-done.state) c.loop-done-test.false c.loop-done.invariant.emitted) c.in_ok-decide.ensures.waited c.in-Act-2.is)

pub returns-in-Over-2-clause-made : goal.returns-in-Over-2-clause-made
returns-in-Over-2-clause-made g c =
    let first = at g.O.Out.taken c.args.self.now in
    let whole = cycles c.args.plan.now c.args.made.now (c.args.last - c.args.made.now) (seen g.N.NativeSource.meaning c.args.state.now) in
    let now = at g.O.Out.taken c.loop-done.self in
    decision_over c.args.plan.now first now (at g.O.Out.taken c.decide-2.new.self) whole (seen g.N.NativeSource.meaning c.loop-done.state) (seen g.N.NativeSource.meaning c.decide-2.new.state) (λ u a. over Limit u) c.in_ok-decide.field-0 c.in-Over-2.end
    (at_limit c.args.plan.now first now whole c.args.last c.loop-done.done (seen g.N.NativeSource.meaning c.loop-done.state) c.loop-done-test.false c.loop-done.invariant.emitted) c.in_ok-decide.ensures.waited c.in-Over-2.is

pub make_cycle-requires-clause-knows : goal.make_cycle-requires-clause-knows
make_cycle-requires-clause-knows g c =
    wait_known c.args.plan.now (at g.O.Out.taken c.loop-done.self) (at g.O.Out.taken c.decide.new.self) (seen g.N.NativeSource.meaning c.loop-done.state) (seen g.N.NativeSource.meaning c.decide.new.state) c.in_ok-activation.field-0 c.loop-done.invariant.knows c.in_ok-activation.ensures.waited

pub decide-requires-clause-serves : goal.decide-requires-clause-serves
decide-requires-clause-serves g c = c.loop-done.invariant.serves

pub decide-requires-2-clause-serves : goal.decide-requires-2-clause-serves
decide-requires-2-clause-serves g c = c.loop-done.invariant.serves

pub make_cycle-requires-clause-serves : goal.make_cycle-requires-clause-serves
make_cycle-requires-clause-serves g c =
    wait_serves c.args.plan.now (seen g.N.NativeSource.meaning c.loop-done.state) c.loop-done.invariant.serves (at g.O.Out.taken c.loop-done.self) (at g.O.Out.taken c.decide.new.self) (seen g.N.NativeSource.meaning c.decide.new.state) c.in_ok-activation.field-0 c.in_ok-activation.ensures.waited

pub make_cycle-requires-clause-suits : goal.make_cycle-requires-clause-suits
make_cycle-requires-clause-suits g c =
    wait_suits c.args.plan.now (seen g.N.NativeSource.meaning c.loop-done.state) c.loop-done.invariant.serves (at g.O.Out.taken c.loop-done.self) (at g.O.Out.taken c.decide.new.self) (seen g.N.NativeSource.meaning c.decide.new.state) c.in_ok-activation.field-0 c.in-Act.activation
    c.in_ok-activation.ensures.waited c.in-Act.is

pub returns-in-Over-clause-counted : goal.returns-in-Over-clause-counted
returns-in-Over-clause-counted g c =
    let none = over_left c.args.plan.now (at g.O.Out.taken c.loop-done.self) (at g.O.Out.taken c.decide.new.self) c.args.last c.loop-done.done (seen g.N.NativeSource.meaning c.loop-done.state) (seen g.N.NativeSource.meaning c.decide.new.state) c.in_ok-activation.field-0 c.in_ok-activation.ensures.waited
    c.in-Over.end c.loop-done-test.true c.in-Over.is
    in
    omega (arith, c.loop-done.invariant.counts, none)

pub returns-in-Some-clause-counted : goal.returns-in-Some-clause-counted
returns-in-Some-clause-counted g c =
    let one = cycle_last c.args.plan.now (at g.O.Out.taken c.loop-done.self) (at g.O.Out.taken c.decide.new.self) c.args.last c.loop-done.done (seen g.N.NativeSource.meaning c.loop-done.state) (seen g.N.NativeSource.meaning c.decide.new.state) c.in_ok-activation.field-0 c.in_ok-activation.ensures.waited
    c.in-Act.activation (seen g.N.NativeSource.meaning c.make_cycle.new.state) c.in_ok-end.field-0 c.in-Some.end c.loop-done-test.true c.in-Act.is c.in_ok-end.ensures.made.1 c.in-Some.is
    in
    omega (arith, c.loop-done.invariant.counts, c.loop-done.invariant.made_is, one)

pub returns-in-Act-2-clause-counted : goal.returns-in-Act-2-clause-counted
returns-in-Act-2-clause-counted g c =
    let none = limit_acts c.args.plan.now (at g.O.Out.taken c.loop-done.self) (at g.O.Out.taken c.decide-2.new.self) c.args.last c.loop-done.done (seen g.N.NativeSource.meaning c.loop-done.state) (seen g.N.NativeSource.meaning c.decide-2.new.state) c.in_ok-decide.field-0 c.in_ok-decide.ensures.waited
    _ c.loop-done-test.false c.in-Act-2.is
    in
    omega (arith, c.loop-done.invariant.counts, none)

pub returns-in-Over-2-clause-counted : goal.returns-in-Over-2-clause-counted
returns-in-Over-2-clause-counted g c =
    let none = limit_over c.args.plan.now (at g.O.Out.taken c.loop-done.self) (at g.O.Out.taken c.decide-2.new.self) c.args.last c.loop-done.done (seen g.N.NativeSource.meaning c.loop-done.state) (seen g.N.NativeSource.meaning c.decide-2.new.state) c.in_ok-decide.field-0 c.in_ok-decide.ensures.waited
    c.in-Over-2.end c.loop-done-test.false c.in-Over-2.is
    in
    omega (arith, c.loop-done.invariant.counts, none)
