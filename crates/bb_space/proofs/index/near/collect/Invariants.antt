use Rattle.std.proofs.Common.{◌≡◌, ℕ, ◌||◌, ◌==◌}
use Rattle.std.specs.List.{list_any}
use Rattle.bb_space.specs.index.Among.{is_among}
use Rattle.bb_space.specs.index.proving.Stretches.{stands_in}
use Rattle.bb_space.proofs.index.near.collect.Given as goal

abbrev pub invariant-loop-place : goal.invariant-loop-place
invariant-loop-place l = (n : ℕ) →
    (is_among n l.found.items || list_any (λ p. p.unit == n) l.place-iterator) ≡ (is_among n l.fn.found.items || stands_in l.fn.stretch l.places n)
