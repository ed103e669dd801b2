-- What reads take from a reader, one after another.
use Rattle.std.proofs.Common.{◌≡◌, ◌≤◌, ◌+◌, ℕ, List, ◌++◌, length, take, length-append, Option, None, Some, sym, ◌∙◌, arith}
use Rattle.std.specs.Io.KnownBytes.{Consumes, Keeps}
use Rattle.std.proofs.KnownBytes.{Consumes-trans}
use Rattle.std.proofs.lemmas.List.{length-take-le}

pub keeps-consumes : (a b d : Option (List ℕ)) (bytes : List ℕ) → Keeps a b → Consumes b d bytes → Consumes a d bytes
keeps-consumes None b d bytes p q = tt
keeps-consumes (Some xs) None d bytes p q = absurd p
keeps-consumes (Some xs) (Some ys) None bytes p q = absurd q
keeps-consumes (Some xs) (Some ys) (Some zs) bytes p q = sym p ∙ q

-- some bytes, and then the n that one read put in front of its buffer
pub takes-read : (a b d : Option (List ℕ)) (so_far buffer : List ℕ) (n : ℕ) → n ≤ length buffer → Consumes a b so_far → Consumes b d (take n buffer) → (bytes : List ℕ) × Consumes a d bytes × (length bytes ≡ length so_far + n)
takes-read a b d so_far buffer n within p q =
    (so_far ++ take n buffer, Consumes-trans a b d so_far (take n buffer) p q, let taken = length-take-le n buffer within in omega (arith, length-append so_far (take n buffer)))
