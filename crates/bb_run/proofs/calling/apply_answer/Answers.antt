use Rattle.std.proofs.Common.{◌≡◌, arith, length}
use Rattle.bb_trace.specs.declared.note.Note.TheVariants.{NativeEnded}
use Rattle.bb_run.specs.Seen.{seen}
use Rattle.bb_run.proofs.responding.CallLemmas.{asked_made, asked_over}
use Rattle.bb_run.proofs.calling.apply_answer.Goals as goal

pub returns-in-Some : goal.returns-in-Some
returns-in-Some g c =
    asked_over c.args.notes.now.items c.apply_each.new.notes.items (seen g.N.NativeSource.meaning c.args.state.now) (seen g.N.NativeSource.meaning c.apply_each.new.state) (λ n. NativeEnded n) c.args.asks.items c.in_ok-end.field-0 c.in_ok-end.ensures c.in-Some.end c.in-Some.is

pub returns : goal.returns
returns g c =
    let counted : c.len-count.result ≡ length c.args.asks.items = omega (arith, c.len-count.ensures, c.args.asks.ok.0) in
    asked_made c.args.notes.now.items c.apply_each.new.notes.items (seen g.N.NativeSource.meaning c.args.state.now) (seen g.N.NativeSource.meaning c.apply_each.new.state) (λ n. NativeEnded n) c.args.asks.items c.in_ok-end.field-0 c.in_ok-end.ensures c.push.new.self.items c.len-count.result c.in_default.is counted c.in_ok-push.ensures.items
