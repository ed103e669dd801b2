-- How far a text was written.
use Rattle.std.specs.Prelude.{ℕ, Bool, true, false, List, take, Option}
use Rattle.std.specs.Io.KnownBytes.{Appends}
use Rattle.bb_shell.specs.declared.written.Done.{Done}
use Rattle.bb_shell.specs.declared.written.Done.TheVariants.{Written, Write}

-- the output failed
abbrev pub is_cut : Done → Bool
is_cut Written = false
is_cut Write = true

-- the output took a text, or a prefix of it if the output failed
abbrev pub Wrote : (text : List ℕ) → Done → (taken given : Option (List ℕ)) → Type 0
Wrote text Written taken given = Appends taken given text
Wrote text Write taken given = (count : ℕ) × Appends taken given (take count text)
