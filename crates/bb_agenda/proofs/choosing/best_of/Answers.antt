use Rattle.std.proofs.Common.{◌≡◌, ◌∙◌, rules, refl, ap, length, Some, w64, filter, ℕ, ℤ}
use Rattle.std.specs.Prelude.{slice_get}
use mir.Val.{SFits}
use Rattle.std.specs.Int.{w128}
use Rattle.std.proofs.lemmas.Int.{to_z-of_z}
use Rattle.std.proofs.lemmas.Option.{slice_get_read}
use Rattle.std.specs.FinMap as fin
use Rattle.bb_agenda.specs.focusing.Rating.{total_weight}
use Rattle.bb_agenda.specs.declared.choosing.Candidate.{Candidate}
use Rattle.bb_agenda.specs.proving.Best.{rate_by, better}
use Rattle.bb_agenda.specs.focusing.Matching.{matches_at}
use Rattle.bb_agenda.proofs.BestLemmas.{rate_is, best_same, best_more, best_all, no_keys, it_stands}
use Rattle.bb_agenda.proofs.choosing.best_of.Goals as goal

pub loop-place-preserved : goal.loop-place-preserved
loop-place-preserved c =
    let s = c.args.steering.now in
    let orders = c.args.orders.now in
    let place = c.loop-place.place in
    let o = c.index-orders-place.result in
    let next : Candidate = record { rating = c.rating_at.result; number = c.in-Some.first.now.number } in
    let is : slice_get orders place ≡ Some o = slice_get_read orders (length orders) place o refl c.loop-place-test.true c.index-orders-place.is in
    let base_fits : SFits w64 c.in-Some.first.now.base.0 = search rules in
    let fits : SFits w128 c.rating_at.result = search rules in
    let rated : c.rating_at.result ≡ rate_by s place c.in-Some.first.now.base.0 = c.rating_at.ensures ∙ ap (rate_by s place) (to_z-of_z w64 c.in-Some.first.now.base.0 base_fits) in
    let made : c.better.result ≡ better c.loop-place.best next = c.better.ensures ∙ ap (λ z. better c.loop-place.best (record { rating = z; number = c.in-Some.first.now.number })) (to_z-of_z w128 c.rating_at.result fits) in
    rw made (best_more (rate_by s) (λ n. total_weight (filter (matches_at s.setting.schema s.setting.sources n) (fin.values s.foci))) (rate_is s) orders place o c.in-Some.first.now c.loop-place.best next is
    c.in-Some.ensures.member c.in-Some.ensures.least rated refl c.loop-place.invariant)

pub loop-place-preserved-in_default : goal.loop-place-preserved-in_default
loop-place-preserved-in_default c =
    let s = c.args.steering.now in
    let orders = c.args.orders.now in
    let place = c.loop-place.place in
    let o = c.index-orders-place.result in
    best_same (rate_by s) (λ n. total_weight (filter (matches_at s.setting.schema s.setting.sources n) (fin.values s.foci))) (rate_is s) orders place o c.loop-place.best
    (slice_get_read orders (length orders) place o refl c.loop-place-test.true c.index-orders-place.is) (no_keys o.keys c.in_default.ensures.variant.1) c.loop-place.invariant

pub returns : goal.returns
returns c =
    let s = c.args.steering.now in
    let orders = c.args.orders.now in
    let weight : ℕ → ℤ = λ n. total_weight (filter (matches_at s.setting.schema s.setting.sources n) (fin.values s.foci)) in
    record {
      some = it_stands (rate_by s) weight (rate_is s) orders c.loop-place.place c.loop-place.best c.loop-place.invariant;
      all = best_all (rate_by s) weight (rate_is s) orders c.loop-place.place c.loop-place.best c.loop-place-test.false c.loop-place.invariant;
    }
