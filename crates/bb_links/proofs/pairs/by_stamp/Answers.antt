use Rattle.std.proofs.Common.{◌≡◌, ℕ, List, ◌∷◌, ◌∙◌, sym, ap, subst, rules}
use Rattle.std.specs.Map.{lookup}
use Rattle.std.specs.Ordering.{nat_cmp}
use Rattle.std.specs.BTreeMap.{is_at}
use Rattle.std.proofs.lemmas.List.Elements.{recursion_from_All}
use Rattle.bb_links.proofs.ListedLemmas.{Stamped, IsMade, made_none, made_more, made_all}
use Rattle.bb_links.proofs.pairs.by_stamp.Goals as goal

pub loop-pair-init : goal.loop-pair-init
loop-pair-init c =
    let stamps = c.args.stamps.now in
    subst (λ (es : Stamped). IsMade stamps c.new-pairs.result es) (sym (c.into_iter-pair-iterator.ensures.into_iter_gives ∙ c.iter-pair-items.ensures.rest))
    (made_none stamps c.requires c.new-pairs.result (λ s. ap (λ (es : List (ℕ × (ℕ × ℕ))). lookup (is_at (nat_cmp s)) es) c.new-pairs.ensures.empty) (recursion_from_All _ _ c.iter-pair-items.ensures.found))

pub loop-pair-preserved : goal.loop-pair-preserved
loop-pair-preserved c =
    let stamps = c.args.stamps.now in
    let next : c.loop-pair.pair-iterator ≡ (c.in-Some.pair.now, c.in-Some.stamp.now) ∷ c.next.new.self = search rules in
    let made = subst (λ (es : Stamped). IsMade stamps c.loop-pair.pairs es) next c.loop-pair.invariant in
    made_more stamps c.requires c.loop-pair.pairs c.insert.new.self c.in-Some.pair.now c.in-Some.stamp.now c.next.new.self c.in_ok-insert.ensures.updates.0 made

pub returns : goal.returns
returns c =
    let stamps = c.args.stamps.now in
    made_all stamps c.requires c.loop-pair.pairs (subst (λ (es : Stamped). IsMade stamps c.loop-pair.pairs es) c.in-None.ensures.steps.0 c.loop-pair.invariant)
