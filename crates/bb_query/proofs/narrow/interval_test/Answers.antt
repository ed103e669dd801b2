use Rattle.std.proofs.Common.{◌≡◌, sym, subst, Some, slice_get, rules, w64, to_z, of_z}
use Rattle.std.proofs.lemmas.Int.{to_z-of_z}
use Rattle.bb_pattern.specs.declared.value.DimValue.TheVariants.{Interval}
use Rattle.bb_pattern.specs.Holds.{ordered_holds}
use Rattle.bb_space.specs.declared.index.leaf.Leaf.TheVariants.{Ordered}
use Rattle.bb_query.specs.proving.Tests.{Asks}
use Rattle.bb_query.proofs.NarrowLemmas.{interval_asks}
use Rattle.bb_query.proofs.narrow.interval_test.Goals as goal

pub returns-in-Some-Interval : goal.returns-in-Some-Interval
returns-in-Some-Interval c =
    let r = c.args.relation in
    let dim = c.args.dim in
    let low = c.in-Some-Interval.low in
    let high = c.in-Some-Interval.high in
    let operand : c.args.operand ≡ Some (Interval low high) = search rules in
    let whole_high : to_z w64 (of_z w64 high) ≡ high = to_z-of_z w64 high (search rules) in
    let whole_low : to_z w64 (of_z w64 low) ≡ low = to_z-of_z w64 low (search rules) in
    subst (λ o. Asks (λ values. ordered_holds r (slice_get values dim) o) (Ordered r dim (to_z w64 (of_z w64 low)) (to_z w64 (of_z w64 high)))) (sym operand)
    (subst (λ z. Asks (λ values. ordered_holds r (slice_get values dim) (Some (Interval low high))) (Ordered r dim (to_z w64 (of_z w64 low)) z)) (sym whole_high)
    (subst (λ z. Asks (λ values. ordered_holds r (slice_get values dim) (Some (Interval low high))) (Ordered r dim z high)) (sym whole_low) (interval_asks r dim low high)))
