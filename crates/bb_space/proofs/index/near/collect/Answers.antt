use Rattle.std.proofs.Common.{◌≡◌, ◌||◌, ◌==◌, List, [], ◌∷◌, ◌++◌, sym, ap, ◌∙◌, rules}
use Rattle.std.specs.List.{list_any}
use Rattle.bb_space.specs.index.Among.{is_among}
use Rattle.bb_space.specs.declared.index.place.Place.{Place}
use Rattle.bb_space.proofs.index_lemmas.AmongLemmas.{among_more}
use Rattle.bb_space.proofs.index.near.collect.Goals as goal

pub loop-place-preserved : goal.loop-place-preserved
loop-place-preserved c = λ n.
    let unit = c.in-Some.place.now.unit in
    let old = c.loop-place.found.items in
    let new = c.push.new.self.items in
    let more : new ≡ old ++ unit ∷ [] = search rules in
    let next : c.loop-place.place-iterator ≡ c.in-Some.place.now ∷ c.next.new.self = search rules in
    among_more n unit old new (list_any (λ p. p.unit == n) c.next.new.self) more
    ∙ (sym (ap (λ (ps : List Place). is_among n old || list_any (λ p. p.unit == n) ps) next) ∙ c.loop-place.invariant n)
