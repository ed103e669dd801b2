-- The weights of all foci that pass a test, where one of them is gone and another one comes.
use Rattle.std.proofs.Common.{◌≡◌, ℕ, suc, ◌*◌, ◌^◌, ◌<◌, Bool, true, false, cond, ℤ, pos, ◌+ℤ◌, ◌≤ℤ◌, neg_ℤ, List, [], ◌∷◌, length, filter, Option, Some, None, refl, sym, ap, subst, ◌∙◌, arith, w64}
use mir.Val.{SFits}
use Rattle.std.specs.declared.cmp.Ordering.{Ordering}
use Rattle.std.specs.declared.cmp.Ordering.TheVariants.{Less, Equal, Greater}
use Rattle.std.specs.Ordering.{nat_cmp, match_ordering, is_eq}
use Rattle.std.specs.Cmp.{nat_cmp_total}
use Rattle.std.specs.Map.{lookup, remove_entry, keys_of, values_of}
use Rattle.std.specs.BTreeMap.{is_at, insert_entry}
use Rattle.std.specs.List.{AllByRecursion}
use Rattle.std.specs.List.Sorted.{IsStrictlySortedBy}
use Rattle.std.proofs.lemmas.Int.{ints}
use Rattle.bb_agenda.specs.declared.focusing.focus.Focus.{Focus}
use Rattle.bb_agenda.specs.focusing.Rating.{total_weight}
use Rattle.bb_agenda.specs.focusing.proving.Entries.{foci_of}
use Rattle.bb_agenda.specs.focusing.proving.Weights.{weight_by, part_of, IsWeight, IsSum}
use Rattle.bb_basis.proofs.EntryLemmas.{values_are}

abbrev Entries : Type 0
Entries = List (ℕ × Focus)

-- ---- sums of whole numbers

zero_more : (z : ℤ) → z ≡ pos 0 +ℤ z
zero_more z = omega (arith, ints)

add_swapped : (a b : ℤ) → a +ℤ b ≡ b +ℤ a
add_swapped a b = omega (arith, ints)

first_kept : (a b c d : ℤ) → a +ℤ b ≡ c → (d +ℤ a) +ℤ b ≡ d +ℤ c
first_kept a b c d is = omega (arith, ints, is)

both_kept : (a b c v d : ℤ) → a +ℤ b ≡ c +ℤ v → (d +ℤ a) +ℤ b ≡ (d +ℤ c) +ℤ v
both_kept a b c v d is = omega (arith, ints, is)

none_gone : (v s : ℤ) → (v +ℤ s) +ℤ pos 0 ≡ s +ℤ v
none_gone v s = omega (arith, ints)

one_for_another : (v s e : ℤ) → (v +ℤ s) +ℤ e ≡ (e +ℤ s) +ℤ v
one_for_another v s e = omega (arith, ints)

-- ---- numbers in order

lower_all : (k n : ℕ) (ms : List ℕ) → nat_cmp k n ≡ Less → AllByRecursion (λ m. nat_cmp n m ≡ Less) ms → AllByRecursion (λ m. nat_cmp k m ≡ Less) ms
lower_all k n [] low all = tt
lower_all k n (m ∷ ms) low all = (nat_cmp_total.trans k n m low all.0, lower_all k n ms low all.1)

-- a number below all of these is at none of them
below_all : (k : ℕ) (es : Entries) → AllByRecursion (λ n. nat_cmp k n ≡ Less) (keys_of es) → lookup (is_at (nat_cmp k)) es ≡ None
below_all k [] all = refl
below_all k (e ∷ es) all = ap (λ r. cond (is_eq r) (Some e.1) (lookup (is_at (nat_cmp k)) es)) all.0 ∙ below_all k es all.1

-- ---- one entry more, or less

module _ (p : Focus → Bool) where
  -- what the foci of some entries add
  abbrev pub sum_of : Entries → ℤ
  sum_of es = total_weight (filter p (values_of es))

  by_test : (b : Bool) (focus : Focus) (fs : List Focus) → total_weight (cond b (focus ∷ fs) fs) ≡ cond b focus.weight (pos 0) +ℤ total_weight fs
  by_test true focus fs = refl
  by_test false focus fs = zero_more (total_weight fs)

  sum_with_one : (e : ℕ × Focus) (es : Entries) → sum_of (e ∷ es) ≡ part_of p (Some e.1) +ℤ sum_of es
  sum_with_one e es = by_test (p e.1) e.1 (filter p (values_of es))

  taken_by : (t : Bool) (e : ℕ × Focus) (es left : Entries) (found : Option Focus) → sum_of left +ℤ part_of p found ≡ sum_of es
      → sum_of (cond t es (e ∷ left)) +ℤ part_of p (cond t (Some e.1) found) ≡ sum_of (e ∷ es)
  taken_by true e es left found is = add_swapped (sum_of es) (part_of p (Some e.1)) ∙ sym (sum_with_one e es)
  taken_by false e es left found is =
      ap (λ z. z +ℤ part_of p found) (sum_with_one e left) ∙ first_kept (sum_of left) (part_of p found) (sum_of es) (part_of p (Some e.1)) is ∙ sym (sum_with_one e es)

  -- one is gone
  pub sum_without : (q : ℕ → Bool) (es : Entries) → sum_of (remove_entry q es) +ℤ part_of p (lookup q es) ≡ sum_of es
  sum_without q [] = refl
  sum_without q (e ∷ es) = taken_by (q e.0) e es (remove_entry q es) (lookup q es) (sum_without q es)

  put_by : (r : Ordering) (k : ℕ) (v : Focus) (e : ℕ × Focus) (es more : Entries) (found : Option Focus) → (r ≡ Less → found ≡ None)
      → sum_of more +ℤ part_of p found ≡ sum_of es +ℤ part_of p (Some v)
      → sum_of (match_ordering r ((k, v) ∷ e ∷ es) ((e.0, v) ∷ es) (e ∷ more)) +ℤ part_of p (cond (is_eq r) (Some e.1) found) ≡ sum_of (e ∷ es) +ℤ part_of p (Some v)
  put_by Less k v e es more found low is =
      ap (λ o. sum_of ((k, v) ∷ e ∷ es) +ℤ part_of p o) (low refl) ∙ ap (λ z. z +ℤ pos 0) (sum_with_one (k, v) (e ∷ es)) ∙ none_gone (part_of p (Some v)) (sum_of (e ∷ es))
  put_by Equal k v e es more found low is =
      ap (λ z. z +ℤ part_of p (Some e.1)) (sum_with_one (e.0, v) es) ∙ one_for_another (part_of p (Some v)) (sum_of es) (part_of p (Some e.1))
      ∙ ap (λ z. z +ℤ part_of p (Some v)) (sym (sum_with_one e es))
  put_by Greater k v e es more found low is =
      ap (λ z. z +ℤ part_of p found) (sum_with_one e more) ∙ both_kept (sum_of more) (part_of p found) (sum_of es) (part_of p (Some v)) (part_of p (Some e.1)) is
      ∙ ap (λ z. z +ℤ part_of p (Some v)) (sym (sum_with_one e es))

  -- one comes, perhaps in place of another
  pub sum_with : (k : ℕ) (v : Focus) (es : Entries) → IsStrictlySortedBy nat_cmp (keys_of es)
      → sum_of (insert_entry nat_cmp es k v) +ℤ part_of p (lookup (is_at (nat_cmp k)) es) ≡ sum_of es +ℤ part_of p (Some v)
  unfolding IsStrictlySortedBy
  sum_with k v [] s = ap (λ z. z +ℤ pos 0) (sum_with_one (k, v) []) ∙ none_gone (part_of p (Some v)) (pos 0)
  sum_with k v (e ∷ es) s =
      put_by (nat_cmp k e.0) k v e es (insert_entry nat_cmp es k v) (lookup (is_at (nat_cmp k)) es)
      (λ low. below_all k es (lower_all k e.0 (keys_of es) low s.0)) (sum_with k v es s.1)

-- ---- no sum is too large

-- each is in 64 bits
abbrev pub AreWeighed : Entries → Type 0
AreWeighed es = AllByRecursion (λ e. IsWeight e.1.weight) es

weighed_put : (r : Ordering) (k : ℕ) (v : Focus) (e : ℕ × Focus) (es more : Entries) → IsWeight v.weight → AreWeighed (e ∷ es) → AreWeighed more
    → AreWeighed (match_ordering r ((k, v) ∷ e ∷ es) ((e.0, v) ∷ es) (e ∷ more))
weighed_put Less k v e es more new all rest = (new, all)
weighed_put Equal k v e es more new all rest = (new, all.1)
weighed_put Greater k v e es more new all rest = (all.0, rest)

pub weighed_with : (k : ℕ) (v : Focus) (es : Entries) → IsWeight v.weight → AreWeighed es → AreWeighed (insert_entry nat_cmp es k v)
weighed_with k v [] new all = (new, tt)
weighed_with k v (e ∷ es) new all = weighed_put (nat_cmp k e.0) k v e es (insert_entry nat_cmp es k v) new all (weighed_with k v es new all.1)

weighed_taken : (t : Bool) (e : ℕ × Focus) (es left : Entries) → AreWeighed (e ∷ es) → AreWeighed left → AreWeighed (cond t es (e ∷ left))
weighed_taken true e es left all rest = all.1
weighed_taken false e es left all rest = (all.0, rest)

pub weighed_without : (q : ℕ → Bool) (es : Entries) → AreWeighed es → AreWeighed (remove_entry q es)
weighed_without q [] all = tt
weighed_without q (e ∷ es) all = weighed_taken (q e.0) e es (remove_entry q es) all (weighed_without q es all.1)

-- the sum of count weights is near 0
record IsWithin (count : ℕ) (sum : ℤ) : Type 0 where
  low : neg_ℤ (pos (2 ^ 63 * count)) ≤ℤ sum
  high : sum ≤ℤ pos (2 ^ 63 * count)

part_within : (b : Bool) (w : ℤ) → IsWeight w → IsWeight (cond b w (pos 0))
part_within true w is = is
part_within false w is = record { low = omega (arith, ints); high = omega (arith, ints) }

within_more : (count : ℕ) (part sum : ℤ) → IsWeight part → IsWithin count sum → IsWithin (suc count) (part +ℤ sum)
within_more count part sum is near = record {
  low = let a = is.low in let b = near.low in omega (arith, ints);
  high = let a = is.high in let b = near.high in omega (arith, ints);
}

sums_within : (p : Focus → Bool) (es : Entries) → AreWeighed es → IsWithin (length es) (sum_of p es)
sums_within p [] all = record { low = omega (arith, ints); high = omega (arith, ints) }
sums_within p (e ∷ es) all =
    subst (IsWithin (suc (length es))) (sym (sum_with_one p e es)) (within_more (length es) (part_of p (Some e.1)) (sum_of p es) (part_within (p e.1) e.1.weight all.0) (sums_within p es all.1))

-- as many as there can be
pub sums_fit : (p : Focus → Bool) (es : Entries) → AreWeighed es → length es < 2 ^ 63 → IsSum (sum_of p es)
sums_fit p es all few =
    let near = sums_within p es all in
    record { low = let a = near.low in omega (arith, ints, few); high = let a = near.high in omega (arith, ints, few) }

-- the weights of foci, where the code keeps these entries
pub weight_is : (p : Focus → Bool) (es : Entries) → IsStrictlySortedBy nat_cmp (keys_of es) → weight_by p (foci_of es) ≡ sum_of p es
weight_is p es sorted = ap (λ fs. total_weight (filter p fs)) (values_are es sorted)

pub is_weight : (w : ℤ) → SFits w64 w → IsWeight w
is_weight w fits = record { low = omega (arith, ints, fits); high = omega (arith, ints, fits) }
