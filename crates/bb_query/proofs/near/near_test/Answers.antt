use Rattle.std.proofs.Common.{Bool, List}
use Rattle.std.proofs.lemmas.Option.{IfSome_then}
use Rattle.bb_basis.proofs.ListLemmas.{if_some}
use Rattle.bb_pattern.specs.declared.value.DimValue.{DimValue}
use Rattle.bb_pattern.specs.Holds.{holds}
use Rattle.bb_query.specs.proving.Tests.{Asks}
use Rattle.bb_query.proofs.NearLemmas.{asked_enough}
use Rattle.bb_query.proofs.near.near_test.Goals as goal

pub returns : goal.returns
returns c =
    let search = c.args.search.now in
    let asked : List DimValue → Bool = λ values. holds search.operands.now values c.args.pattern.now in
    let asks = if_some (Asks asked) c.test_of.result c.in-Some.test c.in-Some.is c.test_of.ensures in
    IfSome_then c.in_ok-few.few c.in_ok-few.ensures (λ list k. asked_enough search.spaces.now search.query.now.space asked c.in-Some.test list.items asks k)
