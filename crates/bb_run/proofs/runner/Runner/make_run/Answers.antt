use Rattle.std.proofs.Common.{◌≡◌, ◌-◌, ℕ, List, Some, arith, map, subst}
use Rattle.bb_run.specs.Run.{cycles, start, unfinished}
use Rattle.bb_run.specs.Seen.{seen}
use Rattle.bb_run.specs.Emitting.{Finishes, at, at_page}
use Rattle.bb_run.proofs.keeping.KnowLemmas.{start_known}
use Rattle.bb_run.proofs.serving.ServeCycles.{start_serves}
use Rattle.bb_run.proofs.emitting.EmitLemmas.{nothing_emitted, makes_last, part_cut, part_made, part_over}
use Rattle.bb_run.proofs.emitting.WholeLemmas.{left_board}
use Rattle.bb_run.proofs.runner.Runner.make_run.Given as given
use Rattle.bb_run.proofs.runner.Runner.make_run.Goals.{Joined-begin, in-Ok-None, in-Ok-Some, in-Err}
use Rattle.bb_run.proofs.runner.Runner.make_run.Goals as goal

pub make_cycles-made-requires-clause-knows : goal.make_cycles-made-requires-clause-knows
make_cycles-made-requires-clause-knows g c =
    start_known c.args.plan.now c.args.state.board (map g.N.NativeSource.meaning c.args.state.roster.natives.items) (seen g.N.NativeSource.meaning c.begin.new.state) c.requires.may c.in-Ok-None.ensures.made.1.state

pub make_cycles-made-requires-clause-serves : goal.make_cycles-made-requires-clause-serves
make_cycles-made-requires-clause-serves g c =
    start_serves c.args.plan.now c.args.state.board (map g.N.NativeSource.meaning c.args.state.roster.natives.items) c.requires.serves (seen g.N.NativeSource.meaning c.begin.new.state) c.in-Ok-None.ensures.made.1.state

-- what was made before the last segment: the start, and the cycles unless the run is over
finishes : (g : given.Over) (c : Joined-begin g) → Finishes c.args.plan.now (at g.O.Out.taken c.args.self.now) (at g.O.Out.taken c.match-begin.self)
    (unfinished c.args.plan.now c.args.state.board (map g.N.NativeSource.meaning c.args.state.roster.natives.items) c.args.limit) (seen g.N.NativeSource.meaning c.match-begin.state) c.match-begin.made
finishes g c =
    let plan = c.args.plan.now in
    let natives = map g.N.NativeSource.meaning c.args.state.roster.natives.items in
    let first = at g.O.Out.taken c.args.self.now in
    let begun = at g.O.Out.taken c.begin.new.self in
    let p = start plan c.args.state.board natives in
    let rest = cycles plan 0 c.args.limit in
    let whole = unfinished plan c.args.state.board natives c.args.limit in
    let none = nothing_emitted plan first whole in
    let same : c.args.limit - 0 ≡ c.args.limit = omega arith in
    elim c.match-begin.branch [
      | in-Ok-None w ↦
          let s = seen g.N.NativeSource.meaning c.begin.new.state in
          let t = seen g.N.NativeSource.meaning w.make_cycles-made.new.state in
          let here = at g.O.Out.taken w.make_cycles-made.new.self in
          rw (w.self-is, w.state-is, w.made-is)
          (makes_last (λ e. Some e) plan first begun here whole (rest s) t w.make_cycles-made.result
          (part_made plan first first begun whole p rest s w.in-Ok-None.field-0 none w.in-Ok-None.ensures.made w.in-Ok-None.field-0-is)
          (subst (λ n. Finishes plan begun here (cycles plan 0 n s) t w.make_cycles-made.result) same w.make_cycles-made.ensures.made))
      | in-Ok-Some w ↦
          rw (w.self-is, w.state-is, w.made-is)
          (part_over plan first first begun whole p rest (seen g.N.NativeSource.meaning c.begin.new.state) w.in-Ok-Some.field-0 w.in-Ok-Some.end none w.in-Ok-Some.ensures.made w.in-Ok-Some.field-0-is)
      | in-Err w ↦
          rw (w.self-is, w.state-is, w.made-is)
          (part_cut plan first first begun whole p rest w.in-Err.halt none w.in-Err.ensures.made)
    ]

pub returns-clause-written : goal.returns-clause-written
returns-clause-written g c =
    let p = unfinished c.args.plan.now c.args.state.board (map g.N.NativeSource.meaning c.args.state.roster.natives.items) c.args.limit in
    let s = seen g.N.NativeSource.meaning c.match-begin.state in
    let here = at g.O.Out.taken c.match-begin.self in
    let taken = g.O.Out.taken c.args.self.now.out.now in
    let made = finishes g (goal.at.returns-clause-written g c).Joined-begin in
    (c.end_by.ensures.ends taken p s c.close-closed.ensures.closed (subst (λ (page : List ℕ). Finishes c.args.plan.now (at_page taken page) here p s c.match-begin.made) c.requires.empty made)).written

pub returns-clause-end : goal.returns-clause-end
returns-clause-end g c =
    let p = unfinished c.args.plan.now c.args.state.board (map g.N.NativeSource.meaning c.args.state.roster.natives.items) c.args.limit in
    let s = seen g.N.NativeSource.meaning c.match-begin.state in
    let here = at g.O.Out.taken c.match-begin.self in
    let taken = g.O.Out.taken c.args.self.now.out.now in
    let made = finishes g (goal.at.returns-clause-end g c).Joined-begin in
    (c.end_by.ensures.ends taken p s c.close-closed.ensures.closed (subst (λ (page : List ℕ). Finishes c.args.plan.now (at_page taken page) here p s c.match-begin.made) c.requires.empty made)).end

pub returns-clause-board : goal.returns-clause-board
returns-clause-board g c =
    let p = unfinished c.args.plan.now c.args.state.board (map g.N.NativeSource.meaning c.args.state.roster.natives.items) c.args.limit in
    let s = seen g.N.NativeSource.meaning c.match-begin.state in
    left_board c.args.plan.now (at g.O.Out.taken c.args.self.now) (at g.O.Out.taken c.match-begin.self) p s c.match-begin.made c.end_by.result
    c.close-closed.result.1 c.close-closed.ensures.board (finishes g (goal.at.returns-clause-board g c).Joined-begin) c.end_by.ensures.made
