-- The total weight of the foci that match a source, as a kept sum. No public clause cites it.
use Rattle.std.specs.Prelude.{◌≡◌, ℕ, ◌^◌, nat_lt, ℤ, pos, ◌+ℤ◌, ◌≤ℤ◌, neg_ℤ, Bool, cond, List, filter, slice_get, Option, Some, None, option_map}
use Rattle.std.specs.FinMap as fin
use Rattle.bb_agenda.specs.declared.focusing.focus.Focus.{Focus}
use Rattle.bb_agenda.specs.focusing.Foci.{Foci, Setting}
use Rattle.bb_agenda.specs.focusing.Matching.{matches_at}
use Rattle.bb_agenda.specs.focusing.Rating.{total_weight}

-- the total weight of the foci that pass a test
abbrev pub weight_by : (Focus → Bool) → Foci → ℤ
weight_by p foci = total_weight (filter p (fin.values foci))

-- what a focus, if there is one, adds to the total weight of those that pass a test
abbrev pub part_of : (Focus → Bool) → Option Focus → ℤ
part_of p None = pos 0
part_of p (Some focus) = cond (p focus) focus.weight (pos 0)

-- the number is a weight of 64 bits
pub record IsWeight (z : ℤ) : Type 0 where
  pub low : neg_ℤ (pos (2 ^ 63)) ≤ℤ z
  pub high : z ≤ℤ pos (2 ^ 63)

-- the number is in the range of sums: the maximum number of weights has no larger sum
pub record IsSum (z : ℤ) : Type 0 where
  pub low : neg_ℤ (pos (2 ^ 126)) ≤ℤ z
  pub high : z ≤ℤ pos (2 ^ 126)

-- each number is the total weight of the foci that match the source at its place
abbrev pub AreWeights : Setting → Foci → List ℤ → Type 0
AreWeights setting foci weights =
    (place : ℕ) (w : ℤ) → slice_get weights place ≡ Some w
    → (w ≡ weight_by (matches_at setting.schema setting.sources place) foci) × IsSum w

-- each number is in the range of sums
abbrev pub AreSums : List ℤ → Type 0
AreSums weights = (place : ℕ) (w : ℤ) → slice_get weights place ≡ Some w → IsSum w

-- the change of the sum at a place, after one focus was removed and another set
abbrev pub shift_at : Setting → (gone new : Option Focus) → ℕ → ℤ
shift_at setting gone new place =
    let p = matches_at setting.schema setting.sources place in part_of p new +ℤ neg_ℤ (part_of p gone)

-- the sums at the first count places are changed
abbrev pub AreShifted : Setting → (gone new : Option Focus) → (count : ℕ) → (from to : List ℤ) → Type 0
AreShifted setting gone new count from to =
    (place : ℕ) → slice_get to place
    ≡ option_map (λ w. cond (nat_lt place count) (w +ℤ shift_at setting gone new place) w) (slice_get from place)
