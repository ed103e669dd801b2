use Rattle.std.proofs.Common.{map, subst}
use Rattle.bb_run.specs.Emitting.{WroteFirst, WroteFront, WroteUntil}
use Rattle.bb_run.specs.Run.{run}
use Rattle.bb_run.proofs.Laws.{wrote_first, wrote_front}
use Rattle.bb_shell.proofs.UnstuckLemmas.{no_native}
use Rattle.bb_shell.proofs.shell.Shell.run.Goals as goal

pub run_to_end-requires-clause-acts : goal.run_to_end-requires-clause-acts
run_to_end-requires-clause-acts g c = no_native c.args.self.plan (map g.N.NativeSource.meaning c.args.self.roster.natives.items) c.args.self.acted

pub returns-in-Memory-clause-front : goal.returns-in-Memory-clause-front
returns-in-Memory-clause-front g c =
    let plan = c.args.self.plan in
    let old = g.O.Out.taken c.args.out.now in
    let new = g.O.Out.taken c.run_to_end.new.out in
    let whole = run plan c.args.self.board (map g.N.NativeSource.meaning c.args.self.roster.natives.items) c.args.limit in
    let written : WroteFirst plan old new whole.emitted = subst (WroteUntil plan old new whole.emitted) c.in-Memory.is c.in-Err.ensures.written in
    wrote_first plan whole old new written

pub returns-clause-front : goal.returns-clause-front
returns-clause-front g c =
    let plan = c.args.self.plan in
    let old = g.O.Out.taken c.args.out.now in
    let new = g.O.Out.taken c.run_to_end.new.out in
    let whole = run plan c.args.self.board (map g.N.NativeSource.meaning c.args.self.roster.natives.items) c.args.limit in
    let written : WroteFront plan old new whole.emitted = subst (WroteUntil plan old new whole.emitted) c.in-Write.is c.in-Err.ensures.written in
    wrote_front plan whole old new written
