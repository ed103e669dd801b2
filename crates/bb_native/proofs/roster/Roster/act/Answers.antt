use Rattle.std.proofs.Common.{◌≡◌, ◌<◌, ◌∙◌, length, map, sym, arith}
use Rattle.std.proofs.lemmas.List.{length-map}
use Rattle.std.proofs.lemmas.Result.{IfOk-weaker, on_ok_weaker, on_err_weaker}
use Rattle.bb_native.specs.Native.{asks_of}
use Rattle.bb_native.specs.Roster.{asks_at}
use Rattle.bb_native.proofs.RosterLemmas.{open_at, still_open, same_seen, named_still, acts_stay_open, asked_at, acted_at}
use Rattle.bb_native.proofs.roster.Roster.act.Goals as goal

pub act-requires : goal.act-requires
act-requires g c =
    let lt : c.args.place < length c.args.self.now.natives.items = omega (arith, length-map c.args.self.now.natives.items g.N.NativeSource.meaning) in
    open_at g.N.NativeSource.meaning c.args.self.now.natives.items c.args.place c.index_mut.result.now lt c.index_mut.ensures.value c.args.self.now.opened

pub invariant_of-self : goal.invariant_of-self
invariant_of-self g c =
    let m = g.N.NativeSource.meaning in
    let items = c.args.self.now.natives.items in
    let lt : c.args.place < length items = omega (arith, length-map items m) in
    let same = acts_stay_open (m c.index_mut.result.now) (m c.act.new.self) c.args.unit c.args.view.now c.act.result c.act.ensures.ok c.act.ensures.err in
    let was = open_at m items c.args.place c.index_mut.result.now lt c.index_mut.ensures.value c.args.self.now.opened in
    record {
      opened = still_open m items c.args.place c.act.new.self (same.0 ∙ was) c.args.self.now.opened;
      named = c.args.self.now.named ∙ sym (named_still m items c.args.place c.index_mut.result.now c.act.new.self c.index_mut.ensures.value same.1);
    }

pub returns-clause-asks : goal.returns-clause-asks
returns-clause-asks g c =
    let m = g.N.NativeSource.meaning in
    let items = c.args.self.now.natives.items in
    let lt : c.args.place < length items = omega (arith, length-map items m) in
    IfOk-weaker c.act.result (λ asks. asks.items ≡ asks_of (m c.index_mut.result.now) c.args.unit c.args.view.now) (λ asks. asks.items ≡ asks_at (map m items) c.args.place c.args.unit c.args.view.now)
    (λ asks h. h ∙ asked_at m items c.args.place c.index_mut.result.now c.args.unit c.args.view.now lt c.index_mut.ensures.value) c.act.ensures.asks

pub returns-clause-ok : goal.returns-clause-ok
returns-clause-ok g c =
    let m = g.N.NativeSource.meaning in
    let items = c.args.self.now.natives.items in
    let lt : c.args.place < length items = omega (arith, length-map items m) in
    on_ok_weaker c.act.result (λ h. acted_at m items c.args.place c.index_mut.result.now c.act.new.self c.args.unit c.args.view.now lt c.index_mut.ensures.value h) c.act.ensures.ok

pub returns-clause-err : goal.returns-clause-err
returns-clause-err g c =
    on_err_weaker c.act.result (λ h. same_seen g.N.NativeSource.meaning c.args.self.now.natives.items c.args.place c.index_mut.result.now c.act.new.self c.index_mut.ensures.value h) c.act.ensures.err
