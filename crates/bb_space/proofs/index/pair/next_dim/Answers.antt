use Rattle.std.proofs.Common.{◌+◌, nat_le, length, refl, sym, ap₂, ◌∙◌}
use Rattle.bb_space.specs.index.proving.Stretches.{places_in}
use Rattle.bb_space.proofs.index_lemmas.PairLemmas.{tells_first}
use Rattle.bb_space.proofs.index.pair.next_dim.Goals as goal

pub returns-then-are_few : goal.returns-then-are_few
returns-then-are_few c =
    let places = c.args.places.now in
    tells_first places c.args.dim (c.args.dim + 1) refl (ap₂ (λ first end. nat_le (length (places_in (record { first = first; end = end }) places)) 0) (sym c.spot.ensures) (sym c.spot-2.ensures) ∙ (sym c.are_few.ensures.few ∙ c.if-are_few.true))
