-- What the writer of a bundle proves about what it wrote: reading it gives the same again.
use Rattle.std.specs.Prelude.{◌≡◌, ℕ, ℤ, true, nat_le, Option, Some, None, Ok, FitsSigned}
use Rattle.std.specs.Int.{w64}
use Rattle.std.specs.List.{list_all}
use Rattle.bb_code.specs.Code.{Code}
use Rattle.bb_bundle.specs.declared.draft.ActDraft.{ActDraft}
use Rattle.bb_bundle.specs.declared.draft.ActDraft.TheVariants.{Do, Native}
use Rattle.bb_bundle.specs.declared.draft.ReactionDraft.{ReactionDraft}
use Rattle.bb_bundle.specs.declared.draft.SourceDraft.{SourceDraft}
use Rattle.bb_bundle.specs.Spelled.{IsSpelled}
use Rattle.bb_bundle.specs.Bundle.{code_in}
use Rattle.bb_bundle.specs.Written.{code_digits}

-- the hex digits of a code spell it, and contain no spaces
pub record IsAgain (code : Code) : Type 0 where
  pub word : list_all (nat_le 33) (code_digits code) ≡ true
  pub read : (line : ℕ) → code_in line (code_digits code) ≡ Ok code

-- if the part is present, the hex digits of its code spell it
abbrev pub AreAgain : Option Code → Type 0
AreAgain None = Unit {0}
AreAgain (Some code) = IsAgain code

-- if the reaction is present, the hex digits of its code spell it
abbrev pub IsReactionAgain : Option (ReactionDraft Code) → Type 0
IsReactionAgain None = Unit {0}
IsReactionAgain (Some reaction) = IsAgain reaction.code

-- if the act is a code, its hex digits spell it
abbrev pub IsActAgain : ActDraft Code → Type 0
IsActAgain (Do code) = IsAgain code
IsActAgain Native = Unit {0}

-- a rate fits in 64 bits
abbrev pub IsRate : ℤ → Type 0
IsRate rate = FitsSigned w64 rate

-- all codes of a source are spelled by their hex digits, and its rate fits in 64 bits
pub record IsSourceAgain (s : SourceDraft Code) : Type 0 where
  pub rate : IsRate s.header.rate
  pub require : AreAgain s.parts.require
  pub obviate : IsReactionAgain s.parts.obviate
  pub retrigger : IsReactionAgain s.parts.retrigger
  pub revalidate : AreAgain s.parts.revalidate
  pub act : IsActAgain s.act

-- a bundle can spell the source, and reading it gives the same codes and rate
pub record IsSpelledAgain (s : SourceDraft Code) : Type 0 where
  pub spelled : IsSpelled s
  pub again : IsSourceAgain s
