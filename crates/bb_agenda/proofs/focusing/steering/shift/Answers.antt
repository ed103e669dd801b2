use Rattle.std.proofs.Common.{◌≡◌, ◌+◌, ◌<◌, ◌∙◌, length, length-set, sym, ap, subst, rules, arith, set, w64, Some, neg_ℤ, ◌+ℤ◌, pos, option_map, refl}
use mir.Val.{SFits}
use Rattle.std.specs.Prelude.{slice_get}
use Rattle.std.proofs.lemmas.Option.{slice_get_read}
use Rattle.bb_agenda.specs.focusing.Matching.{matches_at}
use Rattle.bb_agenda.specs.focusing.proving.Weights.{AreShifted, part_of, shift_at}
use Rattle.std.specs.Option.{option_map_or}
use Rattle.bb_agenda.specs.focusing.proving.Aims.{aimed_part}
use Rattle.bb_agenda.proofs.focusing_lemmas.AimLemmas.{aimed_is}
use Rattle.bb_agenda.proofs.focusing_lemmas.ShiftLemmas.{one_shifted, next_sum, fits_moved, is_moved}
use Rattle.bb_agenda.proofs.focusing.steering.shift.Goals as goal

pub overflow_add-index_mut : goal.overflow_add-index_mut
overflow_add-index_mut c =
    let k = c.loop-place.place in
    let items = c.loop-place.weights.items in
    let w = c.index_mut.result.now in
    let lt : k < length items = omega (arith, c.loop-place-test.true, c.loop-place.invariant.same, c.len-place-end.ensures, c.args.weights.now.ok) in
    let at : slice_get items k ≡ Some w = slice_get_read items (length items) k w refl lt c.index_mut.ensures.value in
    let less_fits : SFits w64 c.part_of.result = search rules in
    let more_fits : SFits w64 c.part_of-in-loop-place.result = search rules in
    fits_moved w c.part_of-in-loop-place.result c.part_of.result c.from-more.result c.from-less.result more_fits less_fits
    (next_sum c.args.setting.now (option_map (λ f. f.now) c.args.gone) (option_map (λ f. f.now) c.args.new) c.args.weights.now.items items k w c.loop-place.invariant.shifted at c.requires)
    c.from-more.ensures c.from-less.ensures

pub loop-place-preserved : goal.loop-place-preserved
loop-place-preserved c =
    let s = c.args.setting.now in
    let gone = option_map (λ f. f.now) c.args.gone in
    let new = option_map (λ f. f.now) c.args.new in
    let k = c.loop-place.place in
    let items = c.loop-place.weights.items in
    let w = c.index_mut.result.now in
    let lt : k < length items = omega (arith, c.loop-place-test.true, c.loop-place.invariant.same, c.len-place-end.ensures, c.args.weights.now.ok) in
    let at : slice_get items k ≡ Some w = slice_get_read items (length items) k w refl lt c.index_mut.ensures.value in
    let less_fits : SFits w64 c.part_of.result = search rules in
    let more_fits : SFits w64 c.part_of-in-loop-place.result = search rules in
    let is = is_moved w c.part_of-in-loop-place.result c.part_of.result c.from-more.result c.from-less.result more_fits less_fits
    (next_sum s gone new c.args.weights.now.items items k w c.loop-place.invariant.shifted at c.requires)
    c.from-more.ensures c.from-less.ensures in
    let less_is : c.part_of.result ≡ part_of (matches_at s.schema s.sources k) gone =
    c.part_of.ensures ∙ (ap (λ o. option_map_or (aimed_part k) o (pos 0)) c.aim-gone.ensures ∙ aimed_is s k (λ f. f.now) c.args.gone) in
    let more_is : c.part_of-in-loop-place.result ≡ part_of (matches_at s.schema s.sources k) new =
    c.part_of-in-loop-place.ensures ∙ (ap (λ o. option_map_or (aimed_part k) o (pos 0)) c.aim-new.ensures ∙ aimed_is s k (λ f. f.now) c.args.new) in
    let same : w +ℤ (c.part_of-in-loop-place.result +ℤ neg_ℤ c.part_of.result) ≡ w +ℤ shift_at s gone new k =
    ap (λ z. w +ℤ (z +ℤ neg_ℤ c.part_of.result)) more_is
    ∙ ap (λ z. w +ℤ (part_of (matches_at s.schema s.sources k) new +ℤ neg_ℤ z)) less_is in
    record {
      shifted = subst (λ v. AreShifted s gone new (k + 1) c.args.weights.now.items (set items k v)) (sym (is ∙ same))
          (one_shifted s gone new c.args.weights.now.items items k w c.loop-place.invariant.shifted at);
      same = length-set items k _ ∙ c.loop-place.invariant.same;
    }
