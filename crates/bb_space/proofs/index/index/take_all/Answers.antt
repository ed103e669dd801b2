use Rattle.std.proofs.Common.{◌≡◌, get_or, pos, ◌<◌, ◌≤◌, ◌∙◌, false, ap, sym, cond, length, is_eq, arith}
use Rattle.std.proofs.lemmas.Option.{slice_get-get_or}
use Rattle.bb_space.specs.index.proving.Places.{place_cmp, place_of, is_at, has}
use Rattle.bb_pattern.specs.declared.value.DimValue.TheVariants.{Interval}
use Rattle.bb_space.specs.declared.index.place.Place.{Place}
use Rattle.bb_space.proofs.index_lemmas.PlaceLemmas.{place_in, stays_at, taking_over, taking_more, taking_all}
use Rattle.bb_space.proofs.index.index.take_all.Goals as goal

pub loop-dim-preserved-then-stays : goal.loop-dim-preserved-then-stays
loop-dim-preserved-then-stays c =
    let values = c.args.values.now in
    let n = c.loop-dim.dim in
    let lt : n < length values = omega (arith, c.loop-dim-test.true, c.loop-dim.auto.dim-end) in
    let there = slice_get-get_or values n (Interval (pos 0) (pos 0)) lt in
    taking_over c.args.unit values c.args.except.now n _ there c.args.places.now c.loop-dim.places c.loop-dim.places c.loop-dim.invariant (stays_at c.args.unit n values c.args.except.now _ there (c.stays.ensures c.if-stays.true))

pub loop-dim-preserved-then-is_of : goal.loop-dim-preserved-then-is_of
loop-dim-preserved-then-is_of c =
    let values = c.args.values.now in
    let n = c.loop-dim.dim in
    let lt : n < length values = omega (arith, c.loop-dim-test.true, c.loop-dim.auto.dim-end) in
    taking_over c.args.unit values c.args.except.now n _ (slice_get-get_or values n (Interval (pos 0) (pos 0)) lt) c.args.places.now c.loop-dim.places c.loop-dim.places c.loop-dim.invariant
    (ap (is_at c.args.except.now) (sym (c.of-place.ensures ∙ ap (place_of n c.args.unit (get_or values n (Interval (pos 0) (pos 0)))) c.next_of.ensures)) ∙ (sym c.is_of.ensures ∙ c.if-is_of.true))

pub loop-dim-preserved : goal.loop-dim-preserved
loop-dim-preserved c =
    let values = c.args.values.now in
    let n = c.loop-dim.dim in
    let lt : n < length values = omega (arith, c.loop-dim-test.true, c.loop-dim.auto.dim-end) in
    let less : (q : Place) → has c.remove.new.self q ≡ cond (is_eq (place_cmp (place_in n c.args.unit values (get_or values n (Interval (pos 0) (pos 0)))) q)) false (has c.loop-dim.places q) = λ q. c.remove.ensures.updates.0 q ∙ ap (λ k. cond (is_eq (place_cmp k q)) false (has c.loop-dim.places q)) (c.of-place.ensures ∙ ap (place_of n c.args.unit (get_or values n (Interval (pos 0) (pos 0)))) c.next_of.ensures) in
    taking_more c.args.unit values c.args.except.now n _ (slice_get-get_or values n (Interval (pos 0) (pos 0)) lt) c.args.places.now c.loop-dim.places c.remove.new.self c.loop-dim.invariant
    (ap (is_at c.args.except.now) (sym (c.of-place.ensures ∙ ap (place_of n c.args.unit (get_or values n (Interval (pos 0) (pos 0)))) c.next_of.ensures)) ∙ (sym c.is_of.ensures ∙ c.if-is_of.false)) less

pub returns : goal.returns
returns c =
    let le : length c.args.values.now ≤ c.loop-dim.dim = omega (arith, c.loop-dim-test.false, c.loop-dim.auto.dim-end) in
    taking_all c.loop-dim.dim c.args.unit c.args.values.now c.args.except.now c.args.places.now c.loop-dim.places le c.loop-dim.invariant
