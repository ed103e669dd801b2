use Rattle.std.proofs.Common.{◌∙◌, ap, map}
use Rattle.std.proofs.lemmas.Result.{IfOk-weaker}
use Rattle.bb_trace.specs.Roster.{after_act_at, asks_at}
use Rattle.bb_run.specs.Seen.{seen}
use Rattle.bb_run.proofs.responding.CallLemmas.{called_as}
use Rattle.bb_run.proofs.calling.call.Goals as goal

pub returns : goal.returns
returns g c =
    let natives = map g.N.NativeSource.meaning c.args.state.now.roster.natives.items in
    let asks_are = c.in_ok-asks.ensures.asks ∙ ap (asks_at natives c.args.place c.args.activation.unit) c.new-view.ensures in
    let left = c.in_ok-asks.ensures.ok ∙ ap (after_act_at natives c.args.place c.args.activation.unit) c.new-view.ensures in
    let s = seen g.N.NativeSource.meaning c.args.state.now in
    let t = seen g.N.NativeSource.meaning c.apply_answer.new.state in
    let old = c.args.notes.now.items in
    let new = c.apply_answer.new.notes.items in
    let after = map g.N.NativeSource.meaning c.act.new.self.natives.items in
    IfOk-weaker c.apply_answer.result _ _ (λ o. called_as old new s t c.args.place c.args.activation c.in_ok-asks.asks.items after o asks_are left) c.apply_answer.ensures
