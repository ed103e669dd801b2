use Rattle.std.proofs.Common.{refl, rules, subst, Ok, Err}
use Rattle.bb_run.specs.Emitting.{WritesBy, WroteUntil, at}
use Rattle.bb_run.specs.Seen.{seen}
use Rattle.bb_run.specs.Turns.{answering}
use Rattle.bb_run.proofs.Laws.{answer_steady, steady_again, steady_lasts}
use Rattle.bb_run_held.specs.Making.{Makes, stands}
use Rattle.bb_run_held.specs.Moves.{after}
use Rattle.bb_run_held.proofs.HeldLemmas.{makes_whole, wrote_by}
use Rattle.bb_run_held.proofs.running.Running.answer_on.Goals as goal

pub answer-emitted-requires-clause-serves : goal.answer-emitted-requires-clause-serves
answer-emitted-requires-clause-serves g c =
    (steady_again c.args.self.now.plan (seen g.N.NativeSource.meaning c.args.self.now.state) (c.args.self.now.lasts c.requires.whole)
    c.schema.ensures c.fits.ensures c.sources.ensures.sound c.fits-2.ensures).serves

pub invariant_of-self : goal.invariant_of-self
invariant_of-self g c =
    let plan = c.args.self.now.plan in
    let s = seen g.N.NativeSource.meaning c.args.self.now.state in
    let t = seen g.N.NativeSource.meaning c.answer-emitted.new.state in
    let taken = g.O.Out.taken in
    let p = answering plan c.args.asks.items s in
    let steady = steady_again plan s (c.args.self.now.lasts c.requires.whole) c.schema.ensures c.fits.ensures c.sources.ensures.sound c.fits-2.ensures in
    let wrote : WritesBy (λ e. e) plan (taken c.args.out.now) (taken c.written.new.self.out.now) p t (Ok c.in-Ok.end) =
    wrote_by (λ e. e) plan (at taken c.answer-emitted.new.self) (taken c.args.out.now) (taken c.written.new.self.out.now) c.new-page.result p t
    c.answer-emitted.result (Ok c.in-Ok.end) c.new-page.ensures c.answer-emitted.ensures.made c.in-Ok.ensures.writes in
    record { lasts = λ whole. steady_lasts plan t (answer_steady plan s t steady c.args.asks.items wrote.1.state) }

pub returns-in-Ok-clause-made : goal.returns-in-Ok-clause-made
returns-in-Ok-clause-made g c =
    let plan = c.args.self.now.plan in
    let t = seen g.N.NativeSource.meaning c.answer-emitted.new.state in
    let taken = g.O.Out.taken in
    let old = taken c.args.out.now in
    let new = taken c.written.new.self.out.now in
    let p = answering plan c.args.asks.items (seen g.N.NativeSource.meaning c.args.self.now.state) in
    subst (λ o. Makes plan (after c.args.self.now.made p) (stands t c.args.self.now.made c.pause_by-self.result) old (taken o) (Ok c.pause_by-self.result)) (search rules)
    (makes_whole plan old new p t (λ e. e) c.args.self.now.made c.args.self.now.made c.in-Ok.end c.pause_by-self.result refl c.pause_by-self.ensures
    (wrote_by (λ e. e) plan (at taken c.answer-emitted.new.self) old new c.new-page.result p t
    c.answer-emitted.result (Ok c.in-Ok.end) c.new-page.ensures c.answer-emitted.ensures.made c.in-Ok.ensures.writes))

pub returns-clause-made : goal.returns-clause-made
returns-clause-made g c =
    let plan = c.args.self.now.plan in
    let taken = g.O.Out.taken in
    let p = answering plan c.args.asks.items (seen g.N.NativeSource.meaning c.args.self.now.state) in
    subst (λ o. WroteUntil plan (taken c.args.out.now) (taken o) p.emitted c.in-Err.halt) (search rules)
    (wrote_by (λ e. e) plan (at taken c.answer-emitted.new.self) (taken c.args.out.now) (taken c.written.new.self.out.now) c.new-page.result
    p (seen g.N.NativeSource.meaning c.answer-emitted.new.state)
    c.answer-emitted.result (Err c.in-Err.halt) c.new-page.ensures c.answer-emitted.ensures.made c.in-Err.ensures.writes)
