use Rattle.std.proofs.Common.{◌≡◌, ◌+◌, ◌∷◌, ◌∙◌, length, ap, arith, sym}
use Rattle.std.proofs.lemmas.List.{nil_from_length}
use Rattle.std.specs.Vec.Iter.{into_iter_items}
use Rattle.bb_run.specs.Run.{each_applied}
use Rattle.bb_run.specs.Seen.{seen}
use Rattle.bb_run.proofs.responding.CallLemmas.{ask_made, ask_over, asks_begin, asks_done}
use Rattle.bb_run.proofs.calling.apply_each.Goals as goal

pub loop-ask-init : goal.loop-ask-init
loop-ask-init g c =
    let gives : into_iter_items c.into_iter-ask-iterator.result ≡ c.args.asks.items = c.into_iter-ask-iterator.ensures.into_iter_gives.0 in
    let many : length (into_iter_items c.into_iter-ask-iterator.result) ≡ length c.args.asks.items = ap length gives in
    record {
      noted = asks_begin c.args.notes.now.items (seen g.N.NativeSource.meaning c.args.state.now) c.args.asks.items (into_iter_items c.into_iter-ask-iterator.result) gives;
      counted = omega (arith, many);
    }

pub returns-in-Some-2 : goal.returns-in-Some-2
returns-in-Some-2 g c =
    ask_over c.args.notes.now.items c.loop-ask.notes.items (each_applied 1 c.args.asks.items (seen g.N.NativeSource.meaning c.args.state.now)) (c.loop-ask.number + 1) (seen g.N.NativeSource.meaning c.loop-ask.state)
    (into_iter_items c.loop-ask.ask-iterator) c.in-Some.ask (into_iter_items c.next.new.self) c.apply_one.new.notes.items (seen g.N.NativeSource.meaning c.apply_one.new.state) c.in_ok-end.field-0 c.in-Some.ensures.steps.0 c.loop-ask.invariant.noted c.in_ok-end.ensures
    c.in-Some-2.end c.in-Some-2.is

pub loop-ask-preserved : goal.loop-ask-preserved
loop-ask-preserved g c =
    let rest = into_iter_items c.next.new.self in
    let many : length (into_iter_items c.loop-ask.ask-iterator) ≡ length (c.in-Some.ask ∷ rest) = ap length c.in-Some.ensures.steps.0 in
    record {
      noted = ask_made c.args.notes.now.items c.loop-ask.notes.items (each_applied 1 c.args.asks.items (seen g.N.NativeSource.meaning c.args.state.now)) (c.loop-ask.number + 1) (seen g.N.NativeSource.meaning c.loop-ask.state)
          (into_iter_items c.loop-ask.ask-iterator) c.in-Some.ask (into_iter_items c.next.new.self) c.apply_one.new.notes.items (seen g.N.NativeSource.meaning c.apply_one.new.state) c.in_ok-end.field-0 c.in-Some.ensures.steps.0 c.loop-ask.invariant.noted c.in_ok-end.ensures
          c.in_default.is;
      counted = omega (arith, many, c.loop-ask.invariant.counted);
    }

pub returns : goal.returns
returns g c =
    asks_done c.args.notes.now.items c.loop-ask.notes.items (each_applied 1 c.args.asks.items (seen g.N.NativeSource.meaning c.args.state.now)) (c.loop-ask.number + 1) (seen g.N.NativeSource.meaning c.loop-ask.state)
    (into_iter_items c.loop-ask.ask-iterator) (nil_from_length (into_iter_items c.loop-ask.ask-iterator) (sym c.loop-ask.ask-iterator.rest.ok.0 ∙ c.in-None.ensures.steps.0)) c.loop-ask.invariant.noted
