use Rattle.std.proofs.Common.{rules, subst, Ok, Err}
use Rattle.bb_run.specs.Emitting.{WritesBy, WroteUntil, at}
use Rattle.bb_run.specs.Run.{choice}
use Rattle.bb_run.specs.Seen.{seen}
use Rattle.bb_run.specs.Turns.{turn}
use Rattle.bb_run.proofs.Laws.{steady_again, steady_lasts, turn_steady}
use Rattle.bb_run_held.specs.Making.{Makes, stands}
use Rattle.bb_run_held.specs.Moves.{after, made_by}
use Rattle.bb_run_held.proofs.HeldLemmas.{makes_whole, wrote_by}
use Rattle.bb_run_held.proofs.running.Running.turn_on.Goals as goal

pub take_turn-emitted-requires-clause-knows : goal.take_turn-emitted-requires-clause-knows
take_turn-emitted-requires-clause-knows g c =
    (steady_again c.args.self.now.plan (seen g.N.NativeSource.meaning c.args.self.now.state) (c.args.self.now.lasts c.requires.whole)
    c.schema.ensures c.fits.ensures c.sources.ensures.sound c.fits-2.ensures).knows

pub take_turn-emitted-requires-clause-serves : goal.take_turn-emitted-requires-clause-serves
take_turn-emitted-requires-clause-serves g c =
    (steady_again c.args.self.now.plan (seen g.N.NativeSource.meaning c.args.self.now.state) (c.args.self.now.lasts c.requires.whole)
    c.schema.ensures c.fits.ensures c.sources.ensures.sound c.fits-2.ensures).serves

pub invariant_of-self-in-Ok : goal.invariant_of-self-in-Ok
invariant_of-self-in-Ok g c =
    let plan = c.args.self.now.plan in
    let made = c.args.self.now.made in
    let s = seen g.N.NativeSource.meaning c.args.self.now.state in
    let t = seen g.N.NativeSource.meaning c.take_turn-emitted.new.state in
    let taken = g.O.Out.taken in
    let p = turn plan made s in
    let steady = steady_again plan s (c.args.self.now.lasts c.requires.whole) c.schema.ensures c.fits.ensures c.sources.ensures.sound c.fits-2.ensures in
    let wrote : WritesBy (λ e. e) plan (taken c.args.out.now) (taken c.written.new.self.out.now) p t (Ok c.in-Ok.end) =
    wrote_by (λ e. e) plan (at taken c.take_turn-emitted.new.runner) (taken c.args.out.now) (taken c.written.new.self.out.now) c.new-page.result p t
    c.take_turn-emitted.result (Ok c.in-Ok.end) c.new-page.ensures c.take_turn-emitted.ensures.made c.in-Ok.ensures.writes in
    record { lasts = λ whole. steady_lasts plan t (turn_steady plan s t steady made wrote.1.state) }

pub returns-in-Ok-clause-made : goal.returns-in-Ok-clause-made
returns-in-Ok-clause-made g c =
    let plan = c.args.self.now.plan in
    let made = c.args.self.now.made in
    let s = seen g.N.NativeSource.meaning c.args.self.now.state in
    let t = seen g.N.NativeSource.meaning c.take_turn-emitted.new.state in
    let taken = g.O.Out.taken in
    let old = taken c.args.out.now in
    let new = taken c.written.new.self.out.now in
    let p = turn plan made s in
    subst (λ o. Makes plan (after (made_by made (choice plan s)) p) (stands t c.take_turn-emitted.new.made c.pause_by-self.result) old (taken o) (Ok c.pause_by-self.result)) (search rules)
    (makes_whole plan old new p t (λ e. e) (made_by made (choice plan s)) c.take_turn-emitted.new.made c.in-Ok.end c.pause_by-self.result c.take_turn-emitted.ensures.counted c.pause_by-self.ensures
    (wrote_by (λ e. e) plan (at taken c.take_turn-emitted.new.runner) old new c.new-page.result p t
    c.take_turn-emitted.result (Ok c.in-Ok.end) c.new-page.ensures c.take_turn-emitted.ensures.made c.in-Ok.ensures.writes))

pub returns-clause-made : goal.returns-clause-made
returns-clause-made g c =
    let plan = c.args.self.now.plan in
    let taken = g.O.Out.taken in
    let p = turn plan c.args.self.now.made (seen g.N.NativeSource.meaning c.args.self.now.state) in
    subst (λ o. WroteUntil plan (taken c.args.out.now) (taken o) p.emitted c.in-Err.halt) (search rules)
    (wrote_by (λ e. e) plan (at taken c.take_turn-emitted.new.runner) (taken c.args.out.now) (taken c.written.new.self.out.now) c.new-page.result
    p (seen g.N.NativeSource.meaning c.take_turn-emitted.new.state)
    c.take_turn-emitted.result (Err c.in-Err.halt) c.new-page.ensures c.take_turn-emitted.ensures.made c.in-Err.ensures.writes)
