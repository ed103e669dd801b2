-- The weights of the foci that match, summed while they are gone through.
use Rattle.std.proofs.Common.{◌≡◌, ℕ, ◌+◌, ◌*◌, ◌^◌, ◌≤◌, Bool, true, false, cond, w64, to_z, of_z, ℤ, pos, ◌+ℤ◌, ◌≤ℤ◌, neg_ℤ, List, [], ◌∷◌, filter, refl, sym, ap, ◌∙◌, arith}
use mir.Val.{SFits}
use Rattle.std.specs.Int.{w128}
use Rattle.std.proofs.lemmas.Int.{ints, to_z-of_z}
use Rattle.bb_agenda.specs.declared.focusing.focus.Focus.{Focus}
use Rattle.bb_schema.specs.Schema.{Schema}
use Rattle.bb_agenda.specs.declared.focusing.activation.Activation.{Activation}
use Rattle.bb_agenda.specs.declared.focusing.setting.RatedSource.{RatedSource}
use Rattle.bb_agenda.specs.focusing.Foci.{Foci}
use Rattle.bb_agenda.specs.focusing.Matching.{matches}
use Rattle.bb_agenda.specs.focusing.Rating.{total_weight, rating, rating_at}

-- a rating goes by the source and the base alone
pub rating_is : (s : Schema) (sources : List RatedSource) (foci : Foci) (a : Activation) → rating_at s sources foci a.source a.base ≡ rating s sources foci a
unfolding rating matches
rating_is s sources foci a = refl

-- the sum so far, and what those that are left will add
abbrev pub sum_with : (Focus → Bool) → ℤ → List Focus → ℤ
sum_with p sum left = sum +ℤ total_weight (filter p left)

add_zero : (sum : ℤ) → sum +ℤ pos 0 ≡ sum
add_zero sum = omega (arith, ints)

taken : (sum weight rest : ℤ) → (sum +ℤ weight) +ℤ rest ≡ sum +ℤ (weight +ℤ rest)
taken sum weight rest = omega (arith, ints)

module _ (p : Focus → Bool) where
  -- one more
  more_by : (sum : ℤ) (focus : Focus) (left : List Focus) (b : Bool) → (sum +ℤ cond b focus.weight (pos 0)) +ℤ total_weight (filter p left) ≡ sum +ℤ total_weight (cond b (focus ∷ filter p left) (filter p left))
  more_by sum focus left true = taken sum focus.weight (total_weight (filter p left))
  more_by sum focus left false = ap (λ z. z +ℤ total_weight (filter p left)) (add_zero sum)

  pub sum_more : (sum : ℤ) (focus : Focus) (left : List Focus) → sum_with p (sum +ℤ cond (p focus) focus.weight (pos 0)) left ≡ sum_with p sum (focus ∷ left)
  sum_more sum focus left = more_by sum focus left (p focus)

  -- none is left
  pub sum_all : (sum : ℤ) (left : List Focus) → left ≡ [] → sum ≡ sum_with p sum left
  sum_all sum left none = sym (ap (sum_with p sum) none ∙ add_zero sum)

-- ---- no sum is too large

-- the sum of count numbers of 64 bits is near 0
pub record IsNear (count : ℕ) (sum : ℤ) : Type 0 where
  pub low : neg_ℤ (pos (2 ^ 63 * count)) ≤ℤ sum
  pub high : sum ≤ℤ pos (2 ^ 63 * count)

pub near_more : (count next : ℕ) (sum weight : ℤ) → IsNear count sum → SFits w64 weight → next ≡ count + 1 → IsNear next (sum +ℤ weight)
near_more count next sum weight near fits more = record {
  low = let low = near.low in omega (arith, ints);
  high = let high = near.high in omega (arith, ints);
}

near_fits : (count : ℕ) (sum : ℤ) → IsNear count sum → count ≤ 2 ^ 63 + 1 → SFits w128 sum
near_fits count sum near few = let low = near.low in let high = near.high in omega (arith, ints)

-- a weight that is added in 128 bits
pub added : (count : ℕ) (sum weight taken : ℤ) → IsNear count sum → count ≤ 2 ^ 63 → SFits w64 weight → taken ≡ to_z w64 (of_z w64 weight)
    → to_z w128 (of_z w128 (sum +ℤ to_z w128 (of_z w128 taken))) ≡ sum +ℤ weight
added count sum weight taken near few fits is =
    let same : to_z w128 (of_z w128 taken) ≡ weight =
    ap (λ z. to_z w128 (of_z w128 z)) (is ∙ to_z-of_z w64 weight fits) ∙ to_z-of_z w128 weight (wider weight fits) in
    ap (λ z. to_z w128 (of_z w128 (sum +ℤ z))) same ∙ to_z-of_z w128 (sum +ℤ weight) (near_fits (count + 1) (sum +ℤ weight) (near_more count (count + 1) sum weight near fits refl) (omega (arith, few)))
  where
    wider : (z : ℤ) → SFits w64 z → SFits w128 z
    wider z fits = omega (arith, ints)
