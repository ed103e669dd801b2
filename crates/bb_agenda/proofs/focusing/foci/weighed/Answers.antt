use Rattle.std.proofs.Common.{◌≡◌, ◌+◌, ◌≤◌, ◌^◌, ◌∙◌, ◌++◌, [], ◌∷◌, length, List, sym, ap, subst, rules, arith, length-append, filter, ◌+ℤ◌, cond, pos, w64, to_z}
use mir.Val.{SFits}
use Rattle.std.specs.Int.{w128}
use Rattle.std.specs.BTreeMap.{values}
use Rattle.std.specs.Map.Iter.{deref}
use Rattle.std.proofs.lemmas.Int.{to_z-of_z}
use Rattle.std.proofs.lemmas.Map.Iter.{rest_more, rest_all}
use Rattle.bb_agenda.specs.declared.focusing.focus.Focus.{Focus}
use Rattle.bb_agenda.specs.focusing.Matching.{matches, matches_at}
use Rattle.bb_agenda.specs.focusing.Rating.{rating, total_weight}
use Rattle.bb_agenda.specs.focusing.proving.Aims.{aimed_part}
use Rattle.bb_basis.proofs.EntryLemmas.{values_are}
use Rattle.bb_agenda.proofs.focusing_lemmas.WeightLemmas.{sum_with, sum_more, sum_all, IsNear, near_more, added}
use Rattle.bb_agenda.proofs.focusing.foci.weighed.Goals as goal

pub loop-focus-preserved : goal.loop-focus-preserved
loop-focus-preserved c =
    let p = matches_at c.args.setting.now.schema c.args.setting.now.sources c.args.place in
    let sum = to_z w128 c.loop-focus.sum-bits in
    let focus = c.in-Some.focus.now in
    let left = c.next.new.self in
    let split : c.loop-focus.focus-iterator ≡ focus ∷ left = rest_more deref c.loop-focus.focus-iterator left c.next.result c.in-Some.focus c.in-Some.is c.next.ensures.steps in
    let count = length c.loop-focus.yielded + 1 in
    let one_more : length (c.loop-focus.yielded ++ c.in-Some.focus ∷ []) ≡ count = length-append c.loop-focus.yielded (c.in-Some.focus ∷ []) in
    let all = ap length split in
    let few : count ≤ 2 ^ 63 = omega (arith, all, c.loop-focus.invariant.counted, c.values-focus-items.ensures.fits) in
    let part = c.part.result in
    let fits : SFits w64 part = search rules in
    let is : part ≡ cond (p focus) focus.weight (pos 0) = c.part.ensures ∙ ap (aimed_part c.args.place) c.new.ensures in
    let summed = added count sum part c.from-sum-in-loop-focus.result c.loop-focus.invariant.near few fits c.from-sum-in-loop-focus.ensures in
    record {
      so_far = ap (λ z. sum_with p z left) (summed ∙ ap (λ z. sum +ℤ z) is) ∙ sum_more p sum focus left ∙ ap (sum_with p sum) (sym split) ∙ c.loop-focus.invariant.so_far;
      counted = omega (arith, one_more, all, c.loop-focus.invariant.counted);
      near = subst (IsNear (length (c.loop-focus.yielded ++ c.in-Some.focus ∷ []) + 1)) (sym summed)
          (near_more count (length (c.loop-focus.yielded ++ c.in-Some.focus ∷ []) + 1) sum part c.loop-focus.invariant.near fits (ap (λ n. n + 1) one_more));
    }

pub returns : goal.returns
unfolding rating matches
returns c =
    let p = matches_at c.args.setting.now.schema c.args.setting.now.sources c.args.place in
    let none = rest_all deref c.loop-focus.focus-iterator c.next.new.self c.next.result c.in-None.is c.next.ensures.steps in
    sum_all p (to_z w128 c.loop-focus.sum-bits) c.loop-focus.focus-iterator none ∙ c.loop-focus.invariant.so_far
    ∙ ap (λ z. sum_with p z (values c.args.foci.now)) (to_z-of_z w64 c.args.base c.ranges.base)
    ∙ ap (λ (l : List Focus). c.args.base +ℤ total_weight (filter p l)) (sym (values_are c.args.foci.now.entries c.values-focus-items.ensures.ordered))
