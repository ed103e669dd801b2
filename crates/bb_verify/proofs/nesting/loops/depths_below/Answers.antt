use Rattle.std.proofs.Common.{◌≡◌, ◌+◌, ◌≤◌, ◌∷◌, ◌++◌, [], inr, ap, arith, sym, subst, ◌∙◌, filter, length, map, take}
use Rattle.std.specs.List.{range_with_len}
use Rattle.std.proofs.lemmas.List.FromFn.{map-range_with_len_more}
use Rattle.std.proofs.lemmas.Result.{err_from_is_err_and}
use Rattle.bb_verify.specs.nesting.Loops.{depth, loop_at}
use Rattle.bb_verify.specs.nesting.proving.OpenLoops.{loops_at, passed, entered, stays, IsPassed}
use Rattle.bb_code.proofs.Laws.{range_next}
use Rattle.bb_verify.proofs.nesting_lemmas.OpenLemmas.{jump_here, passed_few, passed_on, entered_stays, entered_at, one_depth}
use Rattle.bb_verify.proofs.nesting_lemmas.SortedLemmas.{below_fails, below_made}
use Rattle.bb_verify.proofs.nesting.loops.depths_below.Goals as goal

pub loop-place-preserved : goal.loop-place-preserved
loop-place-preserved c =
    let code = c.args.code.now in
    let place = c.loop-place.place in
    let next = c.loop-place.next in
    let ok = c.requires.rises place c.loop-place-test.true in
    let count : c.passed-next.result ≡ passed next (loops_at place next code.loops) = c.passed-next.ensures ∙ ap (passed next) c.loops_at-here.ensures in
    let made : c.enter.new.around.items ≡ entered place c.loop-place.around.items (loops_at place next code.loops) = c.in_ok-enter.ensures ∙ ap (entered place c.loop-place.around.items) c.loops_at-here.ensures in
    let long : c.len.result ≡ length c.enter.new.around.items = c.len.ensures ∙ (sym c.deref.ensures.len ∙ ap (λ l. length l) c.deref.ensures.value) in
    let at = entered_at code place next c.loop-place.around.items c.enter.new.around.items ok c.loop-place.invariant.met c.loop-place.invariant.around made in
    record {
      few = subst (λ k. k ≤ place + 1) (sym c.passed-next.ensures) (passed_few next place c.loops_at-here.result c.loop-place.invariant.few);
      met = subst (λ k. IsPassed (place + 1) k code.loops) (sym count) (passed_on place next code.loops ok c.loop-place.invariant.met);
      around =
          entered_stays place next code.loops c.loop-place.around.items c.enter.new.around.items ok c.loop-place.invariant.met c.loop-place.invariant.around made
          ∙ ap (λ k. filter (stays (place + 1)) (take k code.loops)) (sym count);
      depths =
          c.in_ok-push.ensures.items
          ∙ (ap (λ l. l ++ c.len.result ∷ []) c.loop-place.invariant.depths
          ∙ (ap (λ d. map (depth code) (range_with_len 0 place) ++ d ∷ []) (long ∙ one_depth code place (loops_at place next code.loops) c.enter.new.around.items at)
          ∙ sym (map-range_with_len_more (depth code) 0 place place (omega arith))));
      so_far = range_next (loop_at code) place c.args.sorted c.in_ok-loop_at.field-0 _ c.loop-place-test.true c.in_ok-loop_at.ensures c.loop-place.invariant.so_far;
    }

pub loop_at-requires-clause-at : goal.loop_at-requires-clause-at
loop_at-requires-clause-at c =
    let code = c.args.code.now in
    let place = c.loop-place.place in
    let next = c.loop-place.next in
    let ok = c.requires.rises place c.loop-place-test.true in
    let made : c.deref.result.now ≡ entered place c.loop-place.around.items (loops_at place next code.loops) = c.deref.ensures.value ∙ (c.in_ok-enter.ensures ∙ ap (entered place c.loop-place.around.items) c.loops_at-here.ensures) in
    rw c.loops_at-here.ensures (entered_at code place next c.loop-place.around.items c.deref.result.now ok c.loop-place.invariant.met c.loop-place.invariant.around made)

pub loop_at-requires-clause-right : goal.loop_at-requires-clause-right
loop_at-requires-clause-right c = jump_here c.args.code.now c.loop-place.place c.requires.right (omega (arith, c.loop-place-test.true, c.requires.inside))

pub returns-in_err-loop_at : goal.returns-in_err-loop_at
returns-in_err-loop_at c =
    let p = err_from_is_err_and c.from_residual-in_err-loop_at.result c.from_residual-in_err-loop_at.ensures.1 in
    rw (p.1, p.2) (inr (below_fails c.args.code.now c.loop-place.place c.args.sorted c.in_err-loop_at.field-0.0 c.loop-place-test.true c.in_err-loop_at.ensures c.loop-place.invariant.so_far))

pub returns : goal.returns
returns c =
    below_made c.args.code.now c.loop-place.place c.args.sorted c.from.result c.loop-place-test.false c.loop-place.auto.place-end (c.from.ensures ∙ c.loop-place.invariant.depths) c.loop-place.invariant.so_far
