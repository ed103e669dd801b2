use Rattle.std.proofs.Common.{ℕ, List, subst}
use Rattle.bb_run.specs.Seen.{seen}
use Rattle.bb_run.specs.Emitting.{Finishes, at, at_page}
use Rattle.bb_run.specs.Turns.{settled}
use Rattle.bb_run.proofs.emitting.WholeLemmas.{left_board}
use Rattle.bb_run.proofs.runner.Runner.finish.Goals as goal

pub returns-clause-ends : goal.returns-clause-ends
returns-clause-ends g c =
    let taken = g.O.Out.taken c.args.self.now.out.now in
    let here = at g.O.Out.taken c.settle-settled.new.self in
    let p = settled c.args.plan.now c.args.made c.args.ended (seen g.N.NativeSource.meaning c.args.state) in
    let s = seen g.N.NativeSource.meaning c.settle-settled.new.state in
    c.end_by.ensures.ends taken p s c.close-closed.ensures.closed
    (subst (λ (page : List ℕ). Finishes c.args.plan.now (at_page taken page) here p s c.settle-settled.result) c.requires.empty c.settle-settled.ensures.made)

pub returns-clause-board : goal.returns-clause-board
returns-clause-board g c =
    let p = settled c.args.plan.now c.args.made c.args.ended (seen g.N.NativeSource.meaning c.args.state) in
    let s = seen g.N.NativeSource.meaning c.settle-settled.new.state in
    left_board c.args.plan.now (at g.O.Out.taken c.args.self.now) (at g.O.Out.taken c.settle-settled.new.self) p s c.settle-settled.result c.end_by.result
    c.close-closed.result.1 c.close-closed.ensures.board c.settle-settled.ensures.made c.end_by.ensures.made
