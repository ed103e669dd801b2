use Rattle.std.proofs.Common.{◌≡◌, Result, Some, rules, subst, sym}
use Rattle.std.specs.Prelude.{IfOk}
use Rattle.bb_run.specs.End.{End}
use Rattle.bb_run.specs.Halt.{Halt}
use Rattle.bb_run.specs.Finish.{WritesFront}
use Rattle.bb_run.specs.declared.finish.Finish.TheVariants as finishes
use Rattle.bb_run.specs.Run.{with_finish}
use Rattle.bb_run.specs.Seen.{seen}
use Rattle.bb_run.specs.Turns.{settled}
use Rattle.bb_run.specs.Unstuck.{NotDue}
use Rattle.bb_run.proofs.Laws.{settled_not_due, steady_again}
use Rattle.bb_run_held.specs.Moves.{ended}
use Rattle.bb_run_held.proofs.HeldLemmas.{ended_not_due, front_memory, front_write}
use Rattle.bb_run_held.proofs.running.Running.finish.Goals as goal

pub finish-ended-requires-clause-knows : goal.finish-ended-requires-clause-knows
finish-ended-requires-clause-knows g c =
    (steady_again c.args.self.plan (seen g.N.NativeSource.meaning c.args.self.state) (c.args.self.lasts c.requires.whole)
    c.schema.ensures c.fits.ensures c.sources.ensures.sound c.fits-2.ensures).knows

pub finish-ended-requires-clause-serves : goal.finish-ended-requires-clause-serves
finish-ended-requires-clause-serves g c =
    (steady_again c.args.self.plan (seen g.N.NativeSource.meaning c.args.self.state) (c.args.self.lasts c.requires.whole)
    c.schema.ensures c.fits.ensures c.sources.ensures.sound c.fits-2.ensures).serves

pub of-requires : goal.of-requires
of-requires g c =
    let plan = c.args.self.plan in
    let s = seen g.N.NativeSource.meaning c.args.self.state in
    let p = settled plan c.args.self.made c.ended.result s in
    let ends : p.end ≡ Some c.in-Ok.end = subst (λ (r : Result End Halt). IfOk r (λ e. p.end ≡ Some e)) c.in-Ok.is c.finish-ended.ensures.ends.end in
    record {
      not_due = subst NotDue ends (settled_not_due plan c.args.self.made c.ended.result s (subst NotDue (sym c.ended.ensures) (ended_not_due c.args.self.pause c.requires.rests)));
    }

pub returns-in-Err-Memory-clause-front : goal.returns-in-Err-Memory-clause-front
returns-in-Err-Memory-clause-front g c =
    let plan = c.args.self.plan in
    let s = seen g.N.NativeSource.meaning c.args.self.state in
    let old = g.O.Out.taken c.args.out.now in
    let new = g.O.Out.taken c.finish-ended.new.self.out.now in
    subst (λ o. WritesFront plan (with_finish (settled plan c.args.self.made (ended c.args.self.pause) s)) finishes.Memory old (g.O.Out.taken o)) (search rules)
    (subst (λ e. WritesFront plan (with_finish (settled plan c.args.self.made e s)) finishes.Memory old new) c.ended.ensures
    (front_memory plan old new (with_finish (settled plan c.args.self.made c.ended.result s)) s
    c.finish-ended.result.0 c.in-Err-Memory.field-0 c.in-Err-Memory.is (search rules) c.finish-ended.ensures.ends.written))

pub returns-clause-front : goal.returns-clause-front
returns-clause-front g c =
    let plan = c.args.self.plan in
    let s = seen g.N.NativeSource.meaning c.args.self.state in
    let old = g.O.Out.taken c.args.out.now in
    let new = g.O.Out.taken c.finish-ended.new.self.out.now in
    subst (λ o. WritesFront plan (with_finish (settled plan c.args.self.made (ended c.args.self.pause) s)) finishes.Write old (g.O.Out.taken o)) (search rules)
    (subst (λ e. WritesFront plan (with_finish (settled plan c.args.self.made e s)) finishes.Write old new) c.ended.ensures
    (front_write plan old new (with_finish (settled plan c.args.self.made c.ended.result s)) s
    c.finish-ended.result.0 c.in-Err-Write.field-0 c.in-Err-Write.is (search rules) c.finish-ended.ensures.ends.written))
