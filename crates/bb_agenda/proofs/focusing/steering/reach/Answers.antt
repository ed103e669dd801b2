use Rattle.std.proofs.Common.{◌≡◌, ◌+◌, ◌∷◌, [], length, sym, ap, subst, ◌∙◌, length-append, to_z, of_z, rules}
use mir.Val.{SFits}
use Rattle.std.specs.Int.{w128}
use Rattle.std.proofs.lemmas.Int.{to_z-of_z}
use Rattle.std.specs.Prelude.{pos}
use Rattle.bb_agenda.specs.focusing.Matching.{matches_at}
use Rattle.bb_agenda.specs.focusing.proving.Weights.{weight_by, IsSum}
use Rattle.bb_agenda.proofs.focusing_lemmas.ShiftLemmas.{rating_by_weight, weights_more, no_base}
use Rattle.bb_agenda.proofs.focusing.steering.reach.Goals as goal

pub loop-place-preserved : goal.loop-place-preserved
loop-place-preserved c =
    let s = c.args.setting.now in
    let items = c.loop-place.weights.items in
    let fits : SFits w128 c.rating.result = search rules in
    let x = to_z w128 (of_z w128 c.rating.result) in
    let is : x ≡ weight_by (matches_at s.schema s.sources (length items)) c.args.foci.now =
    to_z-of_z w128 c.rating.result fits ∙ c.rating.ensures ∙ rating_by_weight s.schema s.sources c.args.foci.now c.loop-place.place (pos 0)
    ∙ no_base (weight_by (matches_at s.schema s.sources c.loop-place.place) c.args.foci.now)
    ∙ ap (λ n. weight_by (matches_at s.schema s.sources n) c.args.foci.now) c.loop-place.invariant.at in
    let more = weights_more s c.args.foci.now items x c.loop-place.invariant.weights is (subst IsSum (sym is) (c.fits.ensures (matches_at s.schema s.sources (length items)))) in
    record {
      weights = rw c.in_ok-push.ensures.items more;
      at = rw c.in_ok-push.ensures.items (ap (λ n. n + 1) c.loop-place.invariant.at ∙ sym (length-append items (x ∷ [])));
    }
