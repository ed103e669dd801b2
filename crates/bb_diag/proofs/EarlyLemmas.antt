-- The bytes of a code show no fault before the first.
use Rattle.std.proofs.Common.{◌≡◌, ◌<◌, ℕ, List, [], ◌∷◌, true, false, length, refl, arith}
use Rattle.bb_code.specs.Reading.{code_of, code_at, head_at}
use Rattle.bb_diag.specs.Early.{is_early}

pub nothing_is_early : is_early [] ≡ true
unfolding code_of code_at head_at
nothing_is_early = refl

pub late_is_some : (bytes : List ℕ) → is_early bytes ≡ false → 0 < length bytes
late_is_some [] late = let early = nothing_is_early in absurd cc
late_is_some (b ∷ bytes) late = grind (arith)
