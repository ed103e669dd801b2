use Rattle.std.proofs.Common.{◌≡◌, ap, map, rules, subst, sym, ◌∙◌, Ok, Err}
use Rattle.std.specs.Io.KnownBytes.{Appends}
use Rattle.std.proofs.lemmas.Result.{err_from_is_err_and}
use Rattle.bb_run.specs.Emitting.{WritesBy, WroteUntil, at}
use Rattle.bb_run.specs.Run.{start}
use Rattle.bb_run.specs.Seen.{seen}
use Rattle.bb_run.specs.Serving.{MayServe}
use Rattle.bb_run.specs.TraceText.{trace_text}
use Rattle.bb_run.proofs.Laws.{may_serve, none_written, start_steady, steady_lasts}
use Rattle.bb_run_held.specs.Making.{stands}
use Rattle.bb_run_held.specs.Moves.{started}
use Rattle.bb_run_held.proofs.HeldLemmas.{begins_whole, wrote_by}
use Rattle.bb_run_held.proofs.running.Running.start.Goals as goal

pub returns-in_err-state-clause-begun : goal.returns-in_err-state-clause-begun
returns-in_err-state-clause-begun g c =
    let p = err_from_is_err_and c.from_residual.result c.from_residual.ensures.1 in
    rw (p.1, p.2) (none_written c.args.plan (g.O.Out.taken c.args.out.now) (started c.args.plan c.args.start.board (map g.N.NativeSource.meaning c.args.start.roster.natives.items)).emitted)

pub begin-emitted-requires-clause-serves : goal.begin-emitted-requires-clause-serves
begin-emitted-requires-clause-serves g c =
    let plan = c.args.plan in
    subst (MayServe plan) (sym c.in_ok-state.ensures.board)
    (may_serve plan c.args.start.board c.schema.ensures c.fits.ensures c.requires.made c.sources.ensures.sound c.requires.of_schema c.fits-2.ensures)

pub invariant_of-result : goal.invariant_of-result
invariant_of-result g c =
    let plan = c.args.plan in
    let board = c.args.start.board in
    let natives = map g.N.NativeSource.meaning c.args.start.roster.natives.items in
    let t = seen g.N.NativeSource.meaning c.begin-emitted.new.state in
    let taken = g.O.Out.taken in
    let p = start plan c.in_ok-state.state.board (map g.N.NativeSource.meaning c.in_ok-state.state.roster.natives.items) in
    let same : p ≡ start plan board natives =
    ap (λ b. start plan b (map g.N.NativeSource.meaning c.in_ok-state.state.roster.natives.items)) c.in_ok-state.ensures.board ∙ ap (λ ns. start plan board ns) c.in_ok-state.ensures.natives in
    let wrote : WritesBy (λ e. e) plan (taken c.args.out.now) (taken c.written.new.self.out.now) p t (Ok c.in-Ok.end) =
    wrote_by (λ e. e) plan (at taken c.begin-emitted.new.self) (taken c.args.out.now) (taken c.written.new.self.out.now) c.new-page.result p t
    c.begin-emitted.result (Ok c.in-Ok.end) c.new-page.ensures c.begin-emitted.ensures.made c.in-Ok.ensures.writes in
    record {
      lasts = λ whole. steady_lasts plan t (start_steady plan board natives t c.in_ok-state.ensures.may
          (may_serve plan board c.schema.ensures c.fits.ensures c.requires.made c.sources.ensures.sound c.requires.of_schema c.fits-2.ensures)
          (wrote.1.state ∙ ap (λ q. q.state) same));
    }

pub returns-in-Ok-clause-begun : goal.returns-in-Ok-clause-begun
returns-in-Ok-clause-begun g c =
    let plan = c.args.plan in
    let board = c.args.start.board in
    let natives = map g.N.NativeSource.meaning c.args.start.roster.natives.items in
    let t = seen g.N.NativeSource.meaning c.begin-emitted.new.state in
    let taken = g.O.Out.taken in
    let old = taken c.args.out.now in
    let new = taken c.written.new.self.out.now in
    let p = start plan c.in_ok-state.state.board (map g.N.NativeSource.meaning c.in_ok-state.state.roster.natives.items) in
    let same : p ≡ start plan board natives =
    ap (λ b. start plan b (map g.N.NativeSource.meaning c.in_ok-state.state.roster.natives.items)) c.in_ok-state.ensures.board ∙ ap (λ ns. start plan board ns) c.in_ok-state.ensures.natives in
    let wrote : WritesBy (λ e. e) plan old new p t (Ok c.in-Ok.end) =
    wrote_by (λ e. e) plan (at taken c.begin-emitted.new.self) old new c.new-page.result p t
    c.begin-emitted.result (Ok c.in-Ok.end) c.new-page.ensures c.begin-emitted.ensures.made c.in-Ok.ensures.writes in
    subst (λ o. (stands t 0 c.pause_by.result ≡ (started plan board natives).standing) × Appends old (taken o) (trace_text plan (started plan board natives).emitted)) (search rules)
    (begins_whole plan old new (start plan board natives) t c.in-Ok.end c.pause_by.result c.pause_by.ensures
    (subst (λ q. WritesBy (λ e. e) plan old new q t (Ok c.in-Ok.end)) same wrote))

pub returns-in-Err-clause-begun : goal.returns-in-Err-clause-begun
returns-in-Err-clause-begun g c =
    let plan = c.args.plan in
    let board = c.args.start.board in
    let natives = map g.N.NativeSource.meaning c.args.start.roster.natives.items in
    let t = seen g.N.NativeSource.meaning c.begin-emitted.new.state in
    let taken = g.O.Out.taken in
    let old = taken c.args.out.now in
    let new = taken c.written.new.self.out.now in
    let p = start plan c.in_ok-state.state.board (map g.N.NativeSource.meaning c.in_ok-state.state.roster.natives.items) in
    let same : p ≡ start plan board natives =
    ap (λ b. start plan b (map g.N.NativeSource.meaning c.in_ok-state.state.roster.natives.items)) c.in_ok-state.ensures.board ∙ ap (λ ns. start plan board ns) c.in_ok-state.ensures.natives in
    subst (λ o. WroteUntil plan old (taken o) (started plan board natives).emitted c.in-Err.halt) (search rules)
    (subst (λ q. WroteUntil plan old new q.emitted c.in-Err.halt) same
    (wrote_by (λ e. e) plan (at taken c.begin-emitted.new.self) old new c.new-page.result p t
    c.begin-emitted.result (Err c.in-Err.halt) c.new-page.ensures c.begin-emitted.ensures.made c.in-Err.ensures.writes))
