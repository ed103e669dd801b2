use Rattle.std.proofs.Common.{◌≡◌, ◌∙◌, sym, ap, length, rules, arith, inl}
use Rattle.bb_space.specs.declared.index.stretch.Stretch.{Stretch}
use Rattle.bb_space.specs.index.proving.Stretches.{places_in}
use Rattle.bb_space.proofs.index.near.count_passing.Goals as goal

pub count-requires-clause-fits : goal.count-requires-clause-fits
count-requires-clause-fits c = let few = c.places.ensures.fits in inl (omega (arith, few))

pub returns : goal.returns
returns c =
    let long : c.count.result ≡ length c.places.result = search rules in
    record {
      number = long ∙ (ap length c.places.ensures.stand ∙ ap (λ (s : Stretch). length (places_in s c.args.places.now)) c.of.ensures);
      ordered = c.places.ensures.ordered;
      exact = sym c.is_exact.ensures ∙ c.if-not-is_exact.false;
      not_turned = c.has_no_turned.ensures c.if-not-has_no_turned.false;
    }
