use Rattle.std.proofs.Common.{◌≡◌, sym, subst, Some, slice_get, rules}
use Rattle.bb_pattern.specs.declared.value.DimValue.TheVariants.{Label}
use Rattle.bb_pattern.specs.Holds.{is_holds}
use Rattle.bb_space.specs.declared.index.leaf.Leaf.TheVariants.{Is}
use Rattle.bb_query.specs.proving.Tests.{Asks}
use Rattle.bb_query.proofs.NarrowLemmas.{label_asks}
use Rattle.bb_query.proofs.narrow.label_test.Goals as goal

pub returns-in-Some-Label : goal.returns-in-Some-Label
returns-in-Some-Label c =
    let dim = c.args.dim in
    let set = c.in-Some-Label.set in
    let label = c.in-Some-Label.label in
    let operand : c.args.operand ≡ Some (Label set label) = search rules in
    subst (λ o. Asks (λ values. is_holds (slice_get values dim) o) (Is dim set label)) (sym operand) (label_asks dim set label)
