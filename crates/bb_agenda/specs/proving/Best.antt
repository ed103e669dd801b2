-- The best pending activation, found among the first of each source. No public clause cites it.
use Rattle.std.specs.Prelude.{◌≡◌, ◌<◌, ◌&&◌, ◌||◌, ℕ, ℤ, Bool, true, false, nat_lt, int_lt, List, Option, Some, None, if◌then◌else◌}
use Rattle.std.specs.Ordering.{int_eq}
use Rattle.std.specs.BTreeSet.{BTreeSet}
use Rattle.bb_agenda.specs.focusing.Foci.{Steered}
use Rattle.bb_agenda.specs.declared.choosing.Candidate.{Candidate}
use Rattle.bb_agenda.specs.declared.rank.Rank.{Rank}
use Rattle.bb_agenda.specs.proving.Ranks.{is_ranked}
use Rattle.bb_agenda.specs.focusing.Rating.{rating_at}

-- the rating of activations of a source, with a base
abbrev pub rate_by : Steered → ℕ → ℤ → ℤ
rate_by s place base = rating_at s.setting.schema s.setting.sources s.foci place base

-- a rating and a number come before another rating and number
abbrev pub precedes : ℤ → ℕ → ℤ → ℕ → Bool
precedes rating number other_rating other_number =
    int_lt other_rating rating || (int_eq other_rating rating && nat_lt number other_number)

-- the better of the best so far, if any, and another candidate
abbrev pub better : Option Candidate → Candidate → Candidate
better None next = next
better (Some best) next = if precedes next.rating next.number best.rating best.number then next else best

-- the candidate has the rating and the number of a pending activation
abbrev pub StandsFor : (ℕ → ℤ → ℤ) → List (BTreeSet Rank) → Candidate → Type 0
StandsFor rate orders b =
    (s : ℕ) × (r : Rank) × (is_ranked orders s r ≡ true) × (b.rating ≡ rate s r.base.0) × (b.number ≡ r.number)

-- there is a best, and a candidate with this rating and number does not come before it
abbrev pub IsFirst : ℤ → ℕ → Option Candidate → Type 0
IsFirst rating number None = ⊥
IsFirst rating number (Some b) = precedes rating number b.rating b.number ≡ false

-- the best of the first count sources
pub record BestOf (rate : ℕ → ℤ → ℤ) (orders : List (BTreeSet Rank)) (count : ℕ) (best : Option Candidate) : Type 0 where
  pub stands : (b : Candidate) → best ≡ Some b → StandsFor rate orders b
  pub first : (s : ℕ) (r : Rank) → s < count → is_ranked orders s r ≡ true → IsFirst (rate s r.base.0) r.number best
