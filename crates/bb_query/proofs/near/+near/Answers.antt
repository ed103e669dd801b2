use Rattle.std.proofs.Common.{◌≡◌, ◌<◌, ◌≤◌, Some, arith, sym, ap, subst, ◌∙◌, length, refl, slice_get, drop, ◌+◌, ◌++◌}
use Rattle.std.proofs.lemmas.Option.{slice_get_read, IfSome_then}
use Rattle.std.proofs.lemmas.Result.{IfOk-weaker}
use Rattle.bb_basis.proofs.ListLemmas.{if_some}
use Rattle.bb_pattern.specs.Trees.{and_of, or_of}
use Rattle.bb_pattern.specs.Holds.{holds}
use Rattle.bb_pattern.specs.View.{tree_of, trees_of}
use Rattle.bb_pattern.proofs.Laws.{parts_below_and, parts_below_or}
use Rattle.bb_query.specs.proving.Enough.{AreEnough}
use Rattle.bb_query.proofs.NearLemmas.{HasBut, each_enough, has_but_less, some_enough, and_enough, or_enough}
use Rattle.bb_query.proofs.near.+near.Goals as goal

pub near_pattern-near_each-requires : goal.near_pattern-near_each-requires
near_pattern-near_each-requires t c =
    let below = parts_below_and c.args.pattern.now c.in-And.parts.items c.as_slice.result.now (sym (ap tree_of c.in-And.is) ∙ c.node.ensures) c.as_slice.ensures.value in
    (omega (arith, below), c.requires)

pub near_pattern-near_some-requires : goal.near_pattern-near_some-requires
near_pattern-near_some-requires t c =
    let below = parts_below_or c.args.pattern.now c.in-Or.parts.items c.as_slice-in-Or.result.now (sym (ap tree_of c.in-Or.is) ∙ c.node.ensures) c.as_slice-in-Or.ensures.value in
    (omega (arith, below), c.requires)

pub near_each-returns-in-Some : goal.near_each-returns-in-Some
near_each-returns-in-Some t c =
    let ps = c.args.patterns.now in
    let k = c.loop-pattern.pattern-index in
    let p = c.pattern-item.result in
    let lt : k < length ps = omega (arith, c.loop-pattern-test.true, c.loop-pattern.auto.pattern-index-end) in
    let there : slice_get ps k ≡ Some p = slice_get_read ps (length ps) k p refl lt c.pattern-item.is in
    each_enough c.args.search.now.spaces.now c.args.search.now.query.now.space c.args.search.now.operands.now ps k p c.in-Some.list.items there
    (if_some (λ list. AreEnough c.args.search.now.spaces.now c.args.search.now.query.now.space (λ values. holds c.args.search.now.operands.now values p) list.items) c.in_ok-near.near c.in-Some.list c.in-Some.is c.in_ok-near.ensures)

pub near_some-loop-pattern-preserved : goal.near_some-loop-pattern-preserved
near_some-loop-pattern-preserved t c =
    let t = c.args.search.now.spaces.now in
    let space = c.args.search.now.query.now.space in
    let operands = c.args.search.now.operands.now in
    let ps = c.args.patterns.now in
    let k = c.loop-pattern.pattern-index in
    let p = c.pattern-item.result in
    let list = c.in-Some.list.items in
    let found = c.loop-pattern.found.items in
    let lt : k < length ps = omega (arith, c.loop-pattern-test.true, c.loop-pattern.auto.pattern-index-end) in
    let there : slice_get ps k ≡ Some p = slice_get_read ps (length ps) k p refl lt c.pattern-item.is in
    let enough = if_some (λ list. AreEnough t space (λ values. holds operands values p) list.items) c.in_ok-list.field-0 c.in-Some.list c.in-Some.is c.in_ok-list.ensures in
    let more : c.extend_from_slice.new.self.items ≡ found ++ list = c.in_ok-extend_from_slice.ensures.items ∙ ap (λ ys. found ++ ys) c.deref.ensures.value in
    subst (λ units. HasBut t space operands ps (drop (k + 1) ps) units) (sym more) (has_but_less t space operands ps k p list found there enough c.loop-pattern.invariant)

pub near_some-returns : goal.near_some-returns
near_some-returns t c =
    let ps = c.args.patterns.now in
    let le : length ps ≤ c.loop-pattern.pattern-index = omega (arith, c.loop-pattern-test.false, c.loop-pattern.auto.pattern-index-end) in
    some_enough c.args.search.now.spaces.now c.args.search.now.query.now.space c.args.search.now.operands.now ps c.loop-pattern.pattern-index c.loop-pattern.found.items c.rise.new.list.items le c.loop-pattern.invariant c.rise.ensures.same c.rise.ensures.rises

pub near_pattern-returns-in-And : goal.near_pattern-returns-in-And
near_pattern-returns-in-And t c =
    let parts : and_of (trees_of c.as_slice.result.now) ≡ c.args.pattern.now = ap (λ ps. and_of (trees_of ps)) c.as_slice.ensures.value ∙ (sym (ap tree_of c.in-And.is) ∙ c.node.ensures) in
    IfOk-weaker c.near_each.result _ _ (λ near h. IfSome_then near h (λ list e. and_enough c.args.search.now.spaces.now c.args.search.now.query.now.space c.args.search.now.operands.now c.args.pattern.now (trees_of c.as_slice.result.now) list.items parts e)) c.near_each.ensures

pub near_pattern-returns-in-Or : goal.near_pattern-returns-in-Or
near_pattern-returns-in-Or t c =
    let parts : or_of (trees_of c.as_slice-in-Or.result.now) ≡ c.args.pattern.now = ap (λ ps. or_of (trees_of ps)) c.as_slice-in-Or.ensures.value ∙ (sym (ap tree_of c.in-Or.is) ∙ c.node.ensures) in
    IfOk-weaker c.near_some.result _ _ (λ near h. IfSome_then near h (λ list e. or_enough c.args.search.now.spaces.now c.args.search.now.query.now.space c.args.search.now.operands.now c.args.pattern.now (trees_of c.as_slice-in-Or.result.now) list.items parts e)) c.near_some.ensures
