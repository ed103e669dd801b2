-- The lines of a text, each with the LF that ends it.
use Rattle.std.specs.Prelude.{ℕ, List, [], ◌∷◌, ◌==◌, if◌then◌else◌}

-- a byte put in front of the first line
abbrev pub onto_first : ℕ → List (List ℕ) → List (List ℕ)
onto_first b [] = (b ∷ []) ∷ []
onto_first b (line ∷ others) = (b ∷ line) ∷ others

-- the lines of a text; the last may lack an LF
abbrev pub lines : List ℕ → List (List ℕ)
lines [] = []
lines (b ∷ bytes) = if b == 10 then (b ∷ []) ∷ lines bytes else onto_first b (lines bytes)
