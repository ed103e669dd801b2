use Rattle.std.proofs.Common.{◌≡◌, ◌∷◌, [], Ok, Err, map, ap, refl, rules, subst, sym, ◌∙◌}
use Rattle.std.specs.Vec.Iter.{into_iter_items}
use Rattle.std.proofs.lemmas.List.{nil_from_length}
use Rattle.std.proofs.lemmas.Result.{err_from_is_err_and}
use Rattle.bb_run_held.specs.Making.{Makes, stands}
use Rattle.bb_run_held.specs.Moves.{moved, played}
use Rattle.bb_shell.specs.Seen.{seen}
use Rattle.bb_moves.specs.Meant.{meant}
use Rattle.bb_moves.proofs.PlayLemmas.{IsPlayed, none_played, one_played, cut_in_one, all_played}
use Rattle.bb_moves.proofs.replaying.play.Goals as goal

pub loop-each-init : goal.loop-each-init
loop-each-init g c =
    let plan = c.args.running.now.plan in
    let t = stands (seen g.N.NativeSource.meaning c.args.running.now.state) c.args.running.now.made c.args.running.now.pause in
    let taken = g.O.Out.taken c.args.out.now in
    let moves = map meant c.args.moves.items in
    let items : into_iter_items c.into_iter-each-iterator.result ≡ c.args.moves.items = search rules in
    record {
      whole = c.requires.whole;
      same_plan = refl;
      takes = c.requires.open;
      so_far = subst (λ l. IsPlayed plan (played plan moves t) (map meant l) t taken taken) (sym items) (none_played plan moves t taken);
    }

pub loop-each-preserved : goal.loop-each-preserved
loop-each-preserved g c =
    let plan = c.args.running.now.plan in
    let meaning = g.N.NativeSource.meaning in
    let first = stands (seen meaning c.args.running.now.state) c.args.running.now.made c.args.running.now.pause in
    let t = stands (seen meaning c.loop-each.running.state) c.loop-each.running.made c.loop-each.running.pause in
    let u = stands (seen meaning c.make.new.running.state) c.make.new.running.made c.make.new.running.pause in
    let taken = g.O.Out.taken in
    let m = meant c.in-Some.each in
    let all = map meant (into_iter_items c.loop-each.each-iterator) in
    let ms = map meant (into_iter_items c.next.new.self) in
    let is : all ≡ m ∷ ms = ap (map meant) c.in-Some.ensures.steps.0 in
    let made : Makes plan (moved plan m t) u (taken c.loop-each.out) (taken c.make.new.out) (Ok c.in_ok-make.field-0) =
    subst (λ p. Makes p (moved p m t) u (taken c.loop-each.out) (taken c.make.new.out) (Ok c.in_ok-make.field-0)) c.loop-each.invariant.same_plan c.in_ok-make.ensures.made in
    record {
      whole = c.in_ok-make.ensures.kept.1;
      same_plan = c.in_ok-make.ensures.kept.0 ∙ c.loop-each.invariant.same_plan;
      takes = c.in_ok-make.ensures.failed;
      so_far = one_played plan (played plan (map meant c.args.moves.items) first) m ms all t (taken c.args.out.now) (taken c.loop-each.out) (taken c.make.new.out) is c.loop-each.invariant.so_far u c.in_ok-make.field-0 made;
    }

pub returns-in_err-make-clause-made : goal.returns-in_err-make-clause-made
returns-in_err-make-clause-made g c =
    let p = err_from_is_err_and c.from_residual.result c.from_residual.ensures.1 in
    let plan = c.args.running.now.plan in
    let meaning = g.N.NativeSource.meaning in
    let first = stands (seen meaning c.args.running.now.state) c.args.running.now.made c.args.running.now.pause in
    let t = stands (seen meaning c.loop-each.running.state) c.loop-each.running.made c.loop-each.running.pause in
    let u = stands (seen meaning c.make.new.running.state) c.make.new.running.made c.make.new.running.pause in
    let taken = g.O.Out.taken in
    let halt = c.in_err-make.field-0.0 in
    let m = meant c.in-Some.each in
    let all = map meant (into_iter_items c.loop-each.each-iterator) in
    let ms = map meant (into_iter_items c.next.new.self) in
    let is : all ≡ m ∷ ms = ap (map meant) c.in-Some.ensures.steps.0 in
    let made : Makes plan (moved plan m t) u (taken c.loop-each.out) (taken c.make.new.out) (Err halt) =
    subst (λ q. Makes q (moved q m t) u (taken c.loop-each.out) (taken c.make.new.out) (Err halt)) c.loop-each.invariant.same_plan c.in_err-make.ensures.made in
    rw (p.1, p.2) (cut_in_one plan (played plan (map meant c.args.moves.items) first) m ms all t (taken c.args.out.now) (taken c.loop-each.out) (taken c.make.new.out) is c.loop-each.invariant.so_far u halt made)

pub returns-clause-made : goal.returns-clause-made
returns-clause-made g c =
    let plan = c.args.running.now.plan in
    let meaning = g.N.NativeSource.meaning in
    let first = stands (seen meaning c.args.running.now.state) c.args.running.now.made c.args.running.now.pause in
    let t = stands (seen meaning c.loop-each.running.state) c.loop-each.running.made c.loop-each.running.pause in
    let taken = g.O.Out.taken in
    let left = into_iter_items c.loop-each.each-iterator in
    let none : left ≡ [] = nil_from_length left (sym c.loop-each.each-iterator.rest.ok.0 ∙ c.in-None.ensures.steps.0) in
    all_played plan (played plan (map meant c.args.moves.items) first) (map meant left) t (taken c.args.out.now) (taken c.loop-each.out) c.pause.result (ap (map meant) none) c.pause.ensures c.loop-each.invariant.so_far
