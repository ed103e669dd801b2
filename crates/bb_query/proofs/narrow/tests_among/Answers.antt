use Rattle.std.proofs.Common.{◌≡◌, ◌<◌, ◌++◌, ◌∷◌, [], Some, length, refl, rules, arith, slice_get}
use Rattle.std.proofs.lemmas.Option.{slice_get_read}
use Rattle.bb_basis.proofs.ListLemmas.{if_some}
use Rattle.bb_pattern.specs.Holds.{holds}
use Rattle.bb_query.specs.proving.Tests.{Asks}
use Rattle.bb_query.proofs.NarrowLemmas.{one_asked}
use Rattle.bb_query.proofs.narrow.tests_among.Goals as goal

pub loop-pattern-preserved : goal.loop-pattern-preserved
loop-pattern-preserved c =
    let ps = c.args.patterns.now in
    let operands = c.args.operands.now in
    let k = c.loop-pattern.pattern-index in
    let p = c.pattern-item.result in
    let test = c.in-Some.test in
    let lt : k < length ps = omega (arith, c.loop-pattern-test.true, c.loop-pattern.auto.pattern-index-end) in
    let there : slice_get ps k ≡ Some p = slice_get_read ps (length ps) k p refl lt c.pattern-item.is in
    let more : c.push.new.self.items ≡ c.loop-pattern.tests.items ++ test ∷ [] = search rules in
    one_asked operands ps k p test c.loop-pattern.tests.items c.push.new.self.items there (if_some (Asks (λ values. holds operands values p)) c.test_of.result test c.in-Some.is c.test_of.ensures) more c.loop-pattern.invariant
