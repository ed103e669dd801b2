-- The rating of an activation: its base (GBBopen Reference Manual, ratings of KSAs) and what foci add to it (of this
-- project).
use Rattle.std.specs.Prelude.{ℕ, ℤ, pos, ◌+ℤ◌, List, [], ◌∷◌, filter}
use Rattle.std.specs.FinMap as fin
use Rattle.bb_schema.specs.Schema.{Schema}
use Rattle.bb_agenda.specs.declared.focusing.activation.Activation.{Activation}
use Rattle.bb_agenda.specs.declared.focusing.focus.Focus.{Focus}
use Rattle.bb_agenda.specs.declared.focusing.setting.RatedSource.{RatedSource}
use Rattle.bb_agenda.specs.focusing.Foci.{Foci}
use Rattle.bb_agenda.specs.focusing.Matching.{matches, one_at}

-- the sum of the weights of some foci
abbrev pub total_weight : List Focus → ℤ
total_weight [] = pos 0
total_weight (focus ∷ foci) = focus.weight +ℤ total_weight foci

-- the base plus the weights of all foci that match
unfoldable pub rating : Schema → List RatedSource → Foci → Activation → ℤ
rating s sources foci a = a.base +ℤ total_weight (filter (matches s sources a) (fin.values foci))

-- the rating of activations of the source at a place, with a base
abbrev pub rating_at : Schema → List RatedSource → Foci → ℕ → ℤ → ℤ
rating_at s sources foci place base = rating s sources foci (one_at place base)
