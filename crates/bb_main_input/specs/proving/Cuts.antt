-- Where a text is cut into sections.
use Rattle.std.specs.Prelude.{◌≡◌, ◌≢◌, MatchOption, Bool, ◌||◌, List, [], ◌∷◌, ℕ, Option}
use Rattle.std.specs.Str.{bytes_eq}
use Rattle.std.specs.Borrow.{Bor}
use Rattle.bb_main_input.specs.declared.sections.Header.{Header}
use Rattle.bb_main_input.specs.Lines.{lines}
use Rattle.bb_main_input.specs.Sections.{before, parts, Part, part}

-- what follows the word of a header line: nothing, LF or CR LF
abbrev pub is_end : List ℕ → Bool
is_end text = bytes_eq text [] || bytes_eq text (10 ∷ []) || bytes_eq text (13 ∷ 10 ∷ [])

-- the text is empty or begins with a header
abbrev pub Begins : List ℕ → Type 0
Begins text = before (lines text) ≡ []

-- the text begins with that header; its section is the first of the two, and the second is everything from the next
-- header
abbrev pub Takes : Header → List ℕ → Option (Bor (List ℕ) × Bor (List ℕ)) → Type 0
Takes header text taken = MatchOption taken
    (Begins text → (s : List ℕ) (others : List Part) → parts (lines text) ≢ part header s ∷ others)
    (λ p. Begins text × (parts (lines text) ≡ part header p.0.now ∷ parts (lines p.1.now)) × Begins p.1.now)
