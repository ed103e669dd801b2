use Rattle.std.proofs.Common.{◌≡◌, ◌+◌, ◌-◌, Some, Ok, Err, arith, rules, subst}
use Rattle.bb_run.specs.Emitting.{WritesBy, WroteUntil, at}
use Rattle.bb_run.specs.Run.{cycles}
use Rattle.bb_run.specs.Seen.{seen}
use Rattle.bb_run.specs.Serving.{IsSteady}
use Rattle.bb_run.specs.Turns.{choices_of}
use Rattle.bb_run.proofs.Laws.{cycles_steady, steady_again, steady_lasts}
use Rattle.bb_run_held.specs.Making.{Makes, stands}
use Rattle.bb_run_held.specs.Moves.{advanced}
use Rattle.bb_run_held.proofs.HeldLemmas.{advances_whole, emitted_whole, wrote_by}
use Rattle.bb_run_held.proofs.running.Running.advance_on.Goals as goal

pub make_cycles-emitted-requires-clause-knows : goal.make_cycles-emitted-requires-clause-knows
make_cycles-emitted-requires-clause-knows g c =
    (steady_again c.args.self.now.plan (seen g.N.NativeSource.meaning c.args.self.now.state) (c.args.self.now.lasts c.requires.whole)
    c.schema.ensures c.fits.ensures c.sources.ensures.sound c.fits-2.ensures).knows

pub make_cycles-emitted-requires-clause-serves : goal.make_cycles-emitted-requires-clause-serves
make_cycles-emitted-requires-clause-serves g c =
    (steady_again c.args.self.now.plan (seen g.N.NativeSource.meaning c.args.self.now.state) (c.args.self.now.lasts c.requires.whole)
    c.schema.ensures c.fits.ensures c.sources.ensures.sound c.fits-2.ensures).serves

pub invariant_of-self-in-Ok : goal.invariant_of-self-in-Ok
invariant_of-self-in-Ok g c =
    let plan = c.args.self.now.plan in
    let made = c.args.self.now.made in
    let s = seen g.N.NativeSource.meaning c.args.self.now.state in
    let t = seen g.N.NativeSource.meaning c.make_cycles-emitted.new.state in
    let taken = g.O.Out.taken in
    let p = cycles plan made (c.in-Some.last - made) s in
    let steady : IsSteady plan s = steady_again plan s (c.args.self.now.lasts c.requires.whole) c.schema.ensures c.fits.ensures c.sources.ensures.sound c.fits-2.ensures in
    let wrote : WritesBy (λ e. Some e) plan (taken c.args.out.now) (taken c.written.new.self.out.now) p t (Ok c.in-Ok.end) =
    wrote_by (λ e. Some e) plan (at taken c.make_cycles-emitted.new.self) (taken c.args.out.now) (taken c.written.new.self.out.now) c.new-page.result p t
    c.make_cycles-emitted.result (Ok c.in-Ok.end) c.new-page.ensures c.make_cycles-emitted.ensures.made c.in-Ok.ensures.writes in
    record { lasts = λ whole. steady_lasts plan t (cycles_steady plan s t steady made (c.in-Some.last - made) wrote.1.state) }

pub returns-in-Ok-clause-made : goal.returns-in-Ok-clause-made
returns-in-Ok-clause-made g c =
    let plan = c.args.self.now.plan in
    let made = c.args.self.now.made in
    let s = seen g.N.NativeSource.meaning c.args.self.now.state in
    let t = seen g.N.NativeSource.meaning c.make_cycles-emitted.new.state in
    let taken = g.O.Out.taken in
    let old = taken c.args.out.now in
    let new = taken c.written.new.self.out.now in
    let p = cycles plan made (c.in-Some.last - made) s in
    let place = at taken c.make_cycles-emitted.new.self in
    let number : c.in-Some.last - made ≡ c.args.count = omega (arith, c.in-Some.ensures.1, c.from.ensures) in
    let wrote : WritesBy (λ e. Some e) plan old new p t (Ok c.in-Ok.end) =
    wrote_by (λ e. Some e) plan place old new c.new-page.result p t
    c.make_cycles-emitted.result (Ok c.in-Ok.end) c.new-page.ensures c.make_cycles-emitted.ensures.made c.in-Ok.ensures.writes in
    let counted : c.make_cycles-emitted.new.made ≡ made + choices_of p =
    emitted_whole (λ e. Some e) plan place old new c.new-page.result p t
    c.make_cycles-emitted.result c.in-Ok.end (c.make_cycles-emitted.new.made ≡ made + choices_of p) c.new-page.ensures c.make_cycles-emitted.ensures.made c.in-Ok.ensures.writes c.make_cycles-emitted.ensures.counted in
    subst (λ o. Makes plan (advanced plan made c.args.count s) (stands t c.make_cycles-emitted.new.made c.pause_by-self.result) old (taken o) (Ok c.pause_by-self.result)) (search rules)
    (advances_whole plan made c.in-Some.last c.args.count c.make_cycles-emitted.new.made s t old new c.in-Ok.end c.pause_by-self.result number counted c.pause_by-self.ensures wrote)

pub returns-clause-made : goal.returns-clause-made
returns-clause-made g c =
    let plan = c.args.self.now.plan in
    let made = c.args.self.now.made in
    let s = seen g.N.NativeSource.meaning c.args.self.now.state in
    let t = seen g.N.NativeSource.meaning c.make_cycles-emitted.new.state in
    let taken = g.O.Out.taken in
    let old = taken c.args.out.now in
    let new = taken c.written.new.self.out.now in
    let number : c.in-Some.last - made ≡ c.args.count = omega (arith, c.in-Some.ensures.1, c.from.ensures) in
    subst (λ o. WroteUntil plan old (taken o) (cycles plan made c.args.count s).emitted c.in-Err.halt) (search rules)
    (subst (λ n. WroteUntil plan old new (cycles plan made n s).emitted c.in-Err.halt) number
    (wrote_by (λ e. Some e) plan (at taken c.make_cycles-emitted.new.self) old new c.new-page.result (cycles plan made (c.in-Some.last - made) s) t
    c.make_cycles-emitted.result (Err c.in-Err.halt) c.new-page.ensures c.make_cycles-emitted.ensures.made c.in-Err.ensures.writes))
