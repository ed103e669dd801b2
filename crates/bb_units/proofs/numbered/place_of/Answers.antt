use Rattle.std.proofs.Common.{rules, ◌∙◌}
use Rattle.std.proofs.lemmas.List.Sorted.{answers_always}
use Rattle.bb_units.proofs.EntryLemmas.{place_here, place_found}
use Rattle.bb_units.proofs.numbered.place_of.Goals as goal

pub returns-in-Some : goal.returns-in-Some
returns-in-Some c = place_here c.args.entries.now c.in-Some.place c.args.unit c.requires c.in-Some.ensures

pub returns-in-Some-place_from_last : goal.returns-in-Some-place_from_last
returns-in-Some-place_from_last c = place_here c.args.entries.now c.in-Some-place_from_last.place c.args.unit c.requires c.in-Some-place_from_last.ensures

pub returns : goal.returns
returns c =
    let said = c.binary_search_by_key.ensures in
    let searched = said.position (λ e. e.0) (answers_always _ _ _ (λ f a r g called. search rules)) in
    c.ok.ensures.value ∙ place_found c.args.entries.now c.args.unit c.binary_search_by_key.result c.requires said.bound searched
