-- The sums that are kept for each source, and what a focus that is gone and one that came change of them.
use Rattle.std.proofs.Common.{◌≡◌, ◌≢◌, inl, inr, ℕ, ◌+◌, ◌<◌, ◌≤◌, Bool, true, false, cond, nat_lt, ◌==◌, w64, to_z, of_z, ℤ, pos, ◌+ℤ◌, ◌-ℤ◌, neg_ℤ, List, [], ◌∷◌, ◌++◌, length, Option, Some, None, refl, sym, ap, subst, ◌∙◌, arith, set}
use mir.Val.{SFits}
use Rattle.std.specs.Int.{w128}
use Rattle.std.specs.Prelude.{slice_get, option_map}
use Rattle.std.proofs.lemmas.Bool.{ltb-true, ltb-false, lt-ltb, le-ltb, eqb-true, eqb-false}
use Rattle.std.proofs.lemmas.Int.{ints, to_z-of_z}
use Rattle.std.proofs.lemmas.Option.{slice_get_within, slice_get-get_or, slice_get_past, same_Some}
use Rattle.std.proofs.lemmas.List.{get_or-set_same, get_or-set_other, length-set}
use Rattle.bb_basis.proofs.AppendLemmas.{snoc_cases}
use Rattle.bb_schema.specs.Schema.{Schema}
use Rattle.bb_agenda.specs.declared.focusing.focus.Focus.{Focus}
use Rattle.bb_agenda.specs.declared.focusing.setting.RatedSource.{RatedSource}
use Rattle.bb_agenda.specs.focusing.Foci.{Foci, Setting}
use Rattle.bb_agenda.specs.focusing.Matching.{matches, matches_at}
use Rattle.bb_agenda.specs.focusing.Rating.{rating, rating_at}
use Rattle.bb_agenda.specs.focusing.proving.Weights.{weight_by, part_of, shift_at, IsSum, AreWeights, AreSums, AreShifted}

-- ---- an element of a list that was changed

at_set : (xs : List ℤ) (k : ℕ) (v : ℤ) → k < length xs → slice_get (set xs k v) k ≡ Some v
at_set xs k v lt =
    slice_get-get_or (set xs k v) k v (subst (λ n. k < n) (sym (length-set xs k v)) lt) ∙ ap (λ x. Some x) (get_or-set_same xs k v v lt)

other_by : (xs : List ℤ) (k q : ℕ) (v : ℤ) → q ≢ k → (b : Bool) → nat_lt q (length xs) ≡ b → slice_get (set xs k v) q ≡ slice_get xs q
other_by xs k q v other true lt =
    let within : q < length xs = ltb-true q (length xs) lt in
    slice_get-get_or (set xs k v) q v (subst (λ n. q < n) (sym (length-set xs k v)) within) ∙ ap (λ x. Some x) (get_or-set_other xs k q v v other)
    ∙ sym (slice_get-get_or xs q v within)
other_by xs k q v other false ge =
    let past : length xs ≤ q = (let over = ltb-false q (length xs) ge in omega (arith, over)) in
    slice_get_past (set xs k v) q (subst (λ n. n ≤ q) (sym (length-set xs k v)) past) ∙ sym (slice_get_past xs q past)

other_at : (xs : List ℤ) (k q : ℕ) (v : ℤ) → q ≢ k → slice_get (set xs k v) q ≡ slice_get xs q
other_at xs k q v other = other_by xs k q v other (nat_lt q (length xs)) refl

-- ---- one sum after another is changed

-- the sum at a place, once the first count sums are changed
abbrev shifted : Setting → (gone new : Option Focus) → (count place : ℕ) → ℤ → ℤ
shifted setting gone new count place w = cond (nat_lt place count) (w +ℤ shift_at setting gone new place) w

same_by : (q k : ℕ) → q ≢ k → (b : Bool) → nat_lt q k ≡ b → nat_lt q k ≡ nat_lt q (k + 1)
same_by q k other true is = let lt = ltb-true q k is in is ∙ sym (lt-ltb q (k + 1) (omega (arith, lt)))
same_by q k other false is = let ge = ltb-false q k is in is ∙ sym (le-ltb q (k + 1) (omega (arith, other, ge)))

same_below : (q k : ℕ) → q ≢ k → nat_lt q k ≡ nat_lt q (k + 1)
same_below q k other = same_by q k other (nat_lt q k) refl

now_below : (k : ℕ) → nat_lt k (k + 1) ≡ true
now_below k = lt-ltb k (k + 1) (omega arith)

not_below : (k : ℕ) → nat_lt k k ≡ false
not_below k = le-ltb k k (omega arith)

module _ (setting : Setting) (gone new : Option Focus) where
  -- the sum at a place was not changed yet
  unchanged_by : (k : ℕ) (w : ℤ) (o : Option ℤ) → Some w ≡ option_map (shifted setting gone new k k) o → o ≡ Some w
  unchanged_by k w None is = absurd cc
  unchanged_by k w (Some v) is = sym (is ∙ ap (λ b. Some (cond b (v +ℤ shift_at setting gone new k) v)) (not_below k))

  changed_now : (k : ℕ) (w : ℤ) (o : Option ℤ) → o ≡ Some w → Some (w +ℤ shift_at setting gone new k) ≡ option_map (shifted setting gone new (k + 1) k) o
  changed_now k w None is = absurd cc
  changed_now k w (Some v) is =
      ap (λ x. Some (x +ℤ shift_at setting gone new k)) (sym (same_Some v w is)) ∙ sym (ap (λ b. Some (cond b (v +ℤ shift_at setting gone new k) v)) (now_below k))

  as_before : (q k : ℕ) (o : Option ℤ) → q ≢ k → option_map (shifted setting gone new k q) o ≡ option_map (shifted setting gone new (k + 1) q) o
  as_before q k None other = refl
  as_before q k (Some v) other = ap (λ b. Some (cond b (v +ℤ shift_at setting gone new q) v)) (same_below q k other)

  step_by : (from to : List ℤ) (k q : ℕ) (w : ℤ) → AreShifted setting gone new k from to → slice_get to k ≡ Some w → (b : Bool) → (q == k) ≡ b
      → slice_get (set to k (w +ℤ shift_at setting gone new k)) q ≡ option_map (shifted setting gone new (k + 1) q) (slice_get from q)
  step_by from to k q w so_far at true same =
      let is : q ≡ k = eqb-true q k same in
      subst (λ n. slice_get (set to k (w +ℤ shift_at setting gone new k)) n ≡ option_map (shifted setting gone new (k + 1) n) (slice_get from n)) (sym is)
      (at_set to k (w +ℤ shift_at setting gone new k) (slice_get_within to k w at)
      ∙ changed_now k w (slice_get from k) (unchanged_by k w (slice_get from k) (sym at ∙ so_far k)))
  step_by from to k q w so_far at false differ =
      let other : q ≢ k = eqb-false q k differ in
      other_at to k q (w +ℤ shift_at setting gone new k) other ∙ so_far q ∙ as_before q k (slice_get from q) other

  -- one more is changed
  pub one_shifted : (from to : List ℤ) (k : ℕ) (w : ℤ) → AreShifted setting gone new k from to → slice_get to k ≡ Some w
      → AreShifted setting gone new (k + 1) from (set to k (w +ℤ shift_at setting gone new k))
  one_shifted from to k w so_far at = λ q. step_by from to k q w so_far at (q == k) refl

  -- the sum that is changed next is one of those before
  pub next_sum : (from to : List ℤ) (k : ℕ) (w : ℤ) → AreShifted setting gone new k from to → slice_get to k ≡ Some w → AreSums from → IsSum w
  next_sum from to k w so_far at sums = sums k w (unchanged_by k w (slice_get from k) (sym at ∙ so_far k))

-- ---- all sums are changed

moved : (old new gone came : ℤ) → new +ℤ gone ≡ old +ℤ came → new ≡ old +ℤ (came +ℤ neg_ℤ gone)
moved old new gone came is = omega (arith, ints, is)

module _ (setting : Setting) (gone new : Option Focus) (from : List ℤ) where
  shifted_by : (place : ℕ) (w : ℤ) (o : Option ℤ) → slice_get from place ≡ o → Some w ≡ option_map (shifted setting gone new (length from) place) o
      → (v : ℤ) × (slice_get from place ≡ Some v) × (w ≡ v +ℤ shift_at setting gone new place)
  shifted_by place w None at is = absurd cc
  shifted_by place w (Some v) at is =
      let lt : place < length from = slice_get_within from place v at in
      let below : nat_lt place (length from) ≡ true = lt-ltb place (length from) lt in
      (v, at, same_Some w (v +ℤ shift_at setting gone new place) (is ∙ ap (λ b. Some (cond b (v +ℤ shift_at setting gone new place) v)) below))

  pub weights_shifted : (foci after : Foci) (to : List ℤ) → AreWeights setting foci from → AreShifted setting gone new (length from) from to
      → ((p : Focus → Bool) → weight_by p after +ℤ part_of p gone ≡ weight_by p foci +ℤ part_of p new) → ((p : Focus → Bool) → IsSum (weight_by p after))
      → AreWeights setting after to
  weights_shifted foci after to are shifts sum fits = λ place w at.
      let p = matches_at setting.schema setting.sources place in
      let s = shifted_by place w (slice_get from place) refl (sym at ∙ shifts place) in
      let is : w ≡ weight_by p after =
      s.2 ∙ ap (λ z. z +ℤ shift_at setting gone new place) (are place s.0 s.1).0
      ∙ sym (moved (weight_by p foci) (weight_by p after) (part_of p gone) (part_of p new) (sum p)) in
      (is, subst IsSum (sym is) (fits p))

-- where nothing is gone all sums are as they were
pub weights_same : (setting : Setting) (foci after : Foci) (weights : List ℤ) → AreWeights setting foci weights → ((p : Focus → Bool) → weight_by p after +ℤ part_of p None ≡ weight_by p foci) → AreWeights setting after weights
weights_same setting foci after weights are same = λ place w at.
    let p = matches_at setting.schema setting.sources place in
    let is : weight_by p foci ≡ weight_by p after = sym (same p) ∙ (let e : weight_by p after +ℤ pos 0 ≡ weight_by p after = omega (arith, ints) in e) in
    ((are place w at).0 ∙ is, (are place w at).1)

-- ---- one sum more

pub no_base : (z : ℤ) → pos 0 +ℤ z ≡ z
no_base z = omega (arith, ints)

pub no_more : (z : ℤ) → z +ℤ pos 0 ≡ z
no_more z = omega (arith, ints)

-- a rating is the base, and the sum for its source
pub rating_by_weight : (s : Schema) (sources : List RatedSource) (foci : Foci) (place : ℕ) (base : ℤ) → rating_at s sources foci place base ≡ base +ℤ weight_by (matches_at s sources place) foci
unfolding rating matches
rating_by_weight s sources foci place base = refl

pub weights_more : (setting : Setting) (foci : Foci) (weights : List ℤ) (x : ℤ) → AreWeights setting foci weights → x ≡ weight_by (matches_at setting.schema setting.sources (length weights)) foci
    → IsSum x → AreWeights setting foci (weights ++ x ∷ [])
weights_more setting foci weights x are is fits = λ place w at. elim (snoc_cases weights x place w at) [
  | inl old ↦ are place w old.1
  | inr now ↦ (sym now.1 ∙ is ∙ ap (λ n. weight_by (matches_at setting.schema setting.sources n) foci) (sym now.0), subst IsSum now.1 fits)
]

-- ---- in 128 bits

wider : (z : ℤ) → SFits w64 z → SFits w128 z
wider z fits = omega (arith, ints)

sum_fits : (w : ℤ) → IsSum w → SFits w128 w
sum_fits w is = let low = is.low in let high = is.high in omega (arith, ints)

widened : (z taken : ℤ) → SFits w64 z → taken ≡ to_z w64 (of_z w64 z) → to_z w128 (of_z w128 taken) ≡ z
widened z taken fits is = ap (λ x. to_z w128 (of_z w128 x)) (is ∙ to_z-of_z w64 z fits) ∙ to_z-of_z w128 z (wider z fits)

rating_fits : (base w : ℤ) → SFits w64 base → IsSum w → SFits w128 (base +ℤ w)
rating_fits base w fits is = let low = is.low in let high = is.high in omega (arith, ints)

shift_fits : (more less : ℤ) → SFits w64 more → SFits w64 less → SFits w128 (more -ℤ less)
shift_fits more less m l = omega (arith, ints)

moved_fits : (w more less : ℤ) → SFits w64 more → SFits w64 less → IsSum w → SFits w128 (w +ℤ (more -ℤ less))
moved_fits w more less m l is = let low = is.low in let high = is.high in omega (arith, ints)

-- a base and a sum
pub rated_by : (base w taken : ℤ) → SFits w64 base → IsSum w → taken ≡ to_z w64 (of_z w64 base)
    → to_z w128 (of_z w128 (to_z w128 (of_z w128 taken) +ℤ to_z w128 (of_z w128 w))) ≡ base +ℤ w
rated_by base w taken fits is from =
    ap (λ x. to_z w128 (of_z w128 (x +ℤ to_z w128 (of_z w128 w)))) (widened base taken fits from)
    ∙ ap (λ x. to_z w128 (of_z w128 (base +ℤ x))) (to_z-of_z w128 w (sum_fits w is))
    ∙ to_z-of_z w128 (base +ℤ w) (rating_fits base w fits is)

module _ (w more less m l : ℤ) (more_fits : SFits w64 more) (less_fits : SFits w64 less) (is : IsSum w) (more_is : m ≡ to_z w64 (of_z w64 more)) (less_is : l ≡ to_z w64 (of_z w64 less)) where
  difference : to_z w128 (of_z w128 (to_z w128 (of_z w128 m) -ℤ to_z w128 (of_z w128 l))) ≡ more -ℤ less
  difference =
      ap (λ x. to_z w128 (of_z w128 (x -ℤ to_z w128 (of_z w128 l)))) (widened more m more_fits more_is)
      ∙ ap (λ x. to_z w128 (of_z w128 (more -ℤ x))) (widened less l less_fits less_is)
      ∙ to_z-of_z w128 (more -ℤ less) (shift_fits more less more_fits less_fits)

  inner : to_z w128 (of_z w128 w) +ℤ to_z w128 (of_z w128 (to_z w128 (of_z w128 m) -ℤ to_z w128 (of_z w128 l))) ≡ w +ℤ (more -ℤ less)
  inner = ap (λ x. x +ℤ to_z w128 (of_z w128 (to_z w128 (of_z w128 m) -ℤ to_z w128 (of_z w128 l)))) (to_z-of_z w128 w (sum_fits w is)) ∙ ap (λ x. w +ℤ x) difference

  -- a sum, and the difference of two weights
  pub fits_moved : SFits w128 (to_z w128 (of_z w128 w) +ℤ to_z w128 (of_z w128 (to_z w128 (of_z w128 m) -ℤ to_z w128 (of_z w128 l))))
  fits_moved = subst (SFits w128) (sym inner) (moved_fits w more less more_fits less_fits is)

  pub is_moved : to_z w128 (of_z w128 (to_z w128 (of_z w128 w) +ℤ to_z w128 (of_z w128 (to_z w128 (of_z w128 m) -ℤ to_z w128 (of_z w128 l))))) ≡ w +ℤ (more +ℤ neg_ℤ less)
  is_moved = ap (λ x. to_z w128 (of_z w128 x)) inner ∙ to_z-of_z w128 (w +ℤ (more -ℤ less)) (moved_fits w more less more_fits less_fits is) ∙ (let e : w +ℤ (more -ℤ less) ≡ w +ℤ (more +ℤ neg_ℤ less) = omega (arith, ints) in e)
