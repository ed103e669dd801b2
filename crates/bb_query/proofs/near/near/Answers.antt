use Rattle.std.proofs.Common.{ap, ◌∙◌}
use Rattle.std.specs.Prelude.{filter}
use Rattle.bb_basis.proofs.ListLemmas.{if_some}
use Rattle.bb_space.specs.Passing.{passes}
use Rattle.bb_space.specs.Spaces.{membership}
use Rattle.bb_query.specs.proving.Searches.{HasAll, matches}
use Rattle.bb_query.proofs.NarrowLemmas.{left_enough}
use Rattle.bb_query.proofs.near.near.Goals as goal

pub returns : goal.returns
returns c =
    let search = c.args.search.now in
    let members = membership search.spaces.now search.query.now.space in
    let tests = c.in_ok-tests.tests.items in
    let list = c.in-Some.list.items in
    let enough = if_some (λ list. HasAll search (matches search) list.items) c.in_ok-list.field-0 c.in-Some.list c.in-Some.is c.in_ok-list.ensures in
    left_enough search.spaces.now search.query.now.space (matches search) tests list c.in_ok-left.left.items c.in_ok-tests.ensures
    (c.in_ok-left.ensures ∙ (ap (λ ts. filter (passes members ts) c.deref-3.result.now) c.deref-2.ensures.value ∙ ap (filter (passes members tests)) c.deref-3.ensures.value))
    enough
