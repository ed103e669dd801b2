use Rattle.std.proofs.Common.{◌≡◌, get_or, pos, ◌<◌, ◌≤◌, ◌∙◌, true, ap, sym, cond, length, is_eq, arith}
use Rattle.std.proofs.lemmas.Option.{slice_get-get_or}
use Rattle.bb_space.specs.index.proving.Places.{place_cmp, place_of, is_at, has}
use Rattle.bb_pattern.specs.declared.value.DimValue.TheVariants.{Interval}
use Rattle.bb_space.specs.declared.index.place.Place.{Place}
use Rattle.bb_space.proofs.index_lemmas.PlaceLemmas.{place_in, stays_at, put_none, put_more, in_more, in_over, in_all}
use Rattle.bb_space.proofs.index.index.put_all.Goals as goal

pub loop-dim-init : goal.loop-dim-init
loop-dim-init c = (put_none c.args.unit c.args.values.now c.args.places.now, λ p h off lt. absurd (omega (arith, lt)))

pub loop-dim-preserved-then-stays : goal.loop-dim-preserved-then-stays
loop-dim-preserved-then-stays c =
    let values = c.args.values.now in
    let n = c.loop-dim.dim in
    let lt : n < length values = omega (arith, c.loop-dim-test.true, c.loop-dim.auto.dim-end) in
    let there = slice_get-get_or values n (Interval (pos 0) (pos 0)) lt in
    (c.loop-dim.invariant.0, in_over c.args.unit values c.args.except.now n _ there c.loop-dim.places (stays_at c.args.unit n values c.args.except.now _ there (c.stays.ensures c.if-stays.true)) c.loop-dim.invariant.1)

pub loop-dim-preserved-then-is_of : goal.loop-dim-preserved-then-is_of
loop-dim-preserved-then-is_of c =
    let values = c.args.values.now in
    let n = c.loop-dim.dim in
    let lt : n < length values = omega (arith, c.loop-dim-test.true, c.loop-dim.auto.dim-end) in (
      c.loop-dim.invariant.0,
      in_over c.args.unit values c.args.except.now n _ (slice_get-get_or values n (Interval (pos 0) (pos 0)) lt) c.loop-dim.places
          (ap (is_at c.args.except.now) (sym (c.of-place.ensures ∙ ap (place_of n c.args.unit (get_or values n (Interval (pos 0) (pos 0)))) c.next_of.ensures)) ∙ (sym c.is_of.ensures ∙ c.if-is_of.true)) c.loop-dim.invariant.1,
    )

pub loop-dim-preserved : goal.loop-dim-preserved
loop-dim-preserved c =
    let values = c.args.values.now in
    let n = c.loop-dim.dim in
    let lt : n < length values = omega (arith, c.loop-dim-test.true, c.loop-dim.auto.dim-end) in
    let there = slice_get-get_or values n (Interval (pos 0) (pos 0)) lt in
    let more : (q : Place) → has c.insert.new.self q ≡ cond (is_eq (place_cmp (place_in n c.args.unit values (get_or values n (Interval (pos 0) (pos 0)))) q)) true (has c.loop-dim.places q) = λ q. c.in_ok-insert.ensures.updates.0 q ∙ ap (λ k. cond (is_eq (place_cmp k q)) true (has c.loop-dim.places q)) (c.of-place.ensures ∙ ap (place_of n c.args.unit (get_or values n (Interval (pos 0) (pos 0)))) c.next_of.ensures) in (
      put_more c.args.unit values n _ there c.args.places.now c.loop-dim.places c.insert.new.self more c.loop-dim.invariant.0,
      in_more c.args.unit values n _ there c.args.places.now c.loop-dim.places c.insert.new.self more c.args.except.now c.loop-dim.invariant.1,
    )

pub returns-clause-all : goal.returns-clause-all
returns-clause-all c =
    let le : length c.args.values.now ≤ c.loop-dim.dim = omega (arith, c.loop-dim-test.false, c.loop-dim.auto.dim-end) in
    in_all c.loop-dim.dim c.args.unit c.args.values.now c.args.except.now c.loop-dim.places le c.loop-dim.invariant.1
