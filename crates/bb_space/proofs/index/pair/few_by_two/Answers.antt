use Rattle.std.proofs.Common.{◌≡◌, ◌<◌, true, rules, Some, length, get_or, pos, sym, ap, ap₂, subst, ◌∙◌, arith, slice_get}
use Rattle.std.proofs.lemmas.Option.{slice_get-get_or}
use Rattle.bb_basis.proofs.ListLemmas.{if_some}
use Rattle.bb_pattern.specs.declared.pattern.Relation.TheVariants.{Within}
use Rattle.bb_space.specs.declared.index.leaf.Leaf.TheVariants.{Ordered}
use Rattle.bb_space.specs.index.Candidates.{dim_of}
use Rattle.bb_space.specs.index.proving.Pairs.{Tells, IsAsked, AreNearBoth}
use Rattle.bb_space.specs.index.proving.Stretches.{stretch_of, has_one_key, all_beside}
use Rattle.bb_space.specs.declared.index.stretch.Stretch.{Stretch}
use Rattle.bb_space.proofs.index_lemmas.MarkLemmas.{each_fits}
use Rattle.bb_space.proofs.index_lemmas.PairLemmas.{all_near}
use Rattle.bb_space.proofs.index.pair.few_by_two.Goals as goal

pub returns-then-are_few : goal.returns-then-are_few
returns-then-are_few c =
    let places = c.args.places.now in
    let tests = c.args.tests.now in
    let k = c.loop-test.test-index in
    let test = get_or tests k (Ordered Within 0 (pos 0) (pos 0)) in
    let next = c.in-Some.next in
    let lt : k < length tests = omega (arith, c.loop-test-test.true, c.loop-test.auto.test-index-end) in
    let there : slice_get tests k ≡ Some test = slice_get-get_or tests k (Ordered Within 0 (pos 0) (pos 0)) lt in
    let on = if_some (λ t. (dim_of t ≡ c.next_dim.result) × IsAsked tests t) c.test_on.result next c.in-Some.is c.test_on.ensures in
    let tells : Tells places (dim_of test) (dim_of next) =
    subst (λ d. Tells places d (dim_of next)) c.dim.ensures (subst (Tells places c.dim.result) (sym on.0) c.next_dim.ensures) in
    let key : c.has_one_key.result ≡ true = search rules in
    let first : c.of-values.result ≡ stretch_of test = c.of-values.ensures in
    let both : c.beside-both.result ≡ all_beside (stretch_of test).first (stretch_of next) = c.beside-both.ensures ∙ ap₂ (λ (f : Stretch) s. all_beside f.first s) first c.of.ensures in
    all_near tests test next places c.in_ok-near_both.field-0.items (λ values h. each_fits tests values k test there h) on.1
    (ap has_one_key (sym first) ∙ (sym c.has_one_key.ensures ∙ key)) tells
    (subst (λ (f : Stretch). AreNearBoth f.first (all_beside (stretch_of test).first (stretch_of next)) places c.in_ok-near_both.field-0.items) first
    (subst (λ s. AreNearBoth c.of-values.result.first s places c.in_ok-near_both.field-0.items) both c.in_ok-near_both.ensures))
