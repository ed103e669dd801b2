-- The row of a unit has its partners in the order of their stamps.
use Rattle.std.proofs.Common.{◌≡◌, ℕ, zero, suc, ◌≤◌, ◌==◌, Bool, true, false, not, cond, ◌&&◌, nat_lt, List, [], ◌∷◌, ◌++◌, map, filter, Option, Some, None, refl, sym, ap, subst, ◌∙◌, arith}
use Rattle.std.specs.Prelude.{option_and_then}
use Rattle.std.specs.Option.{option_to_list}
use Rattle.std.specs.List.{AllByRecursion}
use Rattle.std.specs.List.Sorted.{IsStrictlySortedBy}
use Rattle.std.specs.declared.cmp.Ordering.TheVariants.{Less, Equal, Greater}
use Rattle.std.specs.declared.ops.Bound.TheVariants.{Included, Excluded}
use Rattle.std.specs.Ordering.{nat_cmp, is_le, ordering_then}
use Rattle.std.specs.Map.{lookup, keys_of, values_of}
use Rattle.std.specs.BTreeMap.{is_at, IsOrdered}
use Rattle.std.specs.BTreeMap.Range.{range_contains}
use Rattle.std.proofs.lemmas.Bool.{eqb-true, eqb-false, eq-eqb, ne_eqb, le-ltb, lt-ltb, ltb-true, ltb-false}
use Rattle.std.proofs.lemmas.List.{map-append}
use Rattle.std.proofs.lemmas.List.Elements.{filter-append}
use Rattle.std.proofs.lemmas.Map.Views.{tells_apart}
use Rattle.bb_schema.specs.declared.couple.Side.{Side}
use Rattle.bb_links.specs.declared.partners.Partners.{Partners}
use Rattle.bb_links.specs.Pairs.{near, far}
use Rattle.bb_links.specs.Links.{partners}
use Rattle.bb_links.specs.proving.Maps.{pair_cmp, value_at}
use Rattle.bb_links.specs.proving.Partners.{map_of, listed_at, partner_in, Follow}
use Rattle.bb_links.specs.proving.Stamps.{in_order}
use Rattle.bb_links.proofs.StampLemmas.{Under, exact}

abbrev Keyed : Type 0
Keyed = List ((ℕ × ℕ) × ℕ)

module _ (n : ℕ) where
  abbrev inside : ℕ → ℕ × ℕ → Bool
  inside end k = range_contains pair_cmp (Included (n, 0)) (Excluded (n, end)) k

  abbrev part : ℕ → Keyed → Keyed
  part end es = filter (λ e. inside end e.0) es

  -- ---- which keys are in a row

  inside_is : (end : ℕ) (k : ℕ × ℕ) → inside end k ≡ ((n == k.0) && nat_lt k.1 end)
  inside_is end k = at (nat_lt n k.0) refl (n == k.0) refl
    where
      low : is_le (nat_cmp 0 k.1) ≡ true
      low = grind (arith)

      high : (b : Bool) → nat_lt k.1 end ≡ b → not (is_le (nat_cmp end k.1)) ≡ b
      high true lt = let less = ltb-true k.1 end lt in rw (le-ltb end k.1 (omega (arith, less)), ne_eqb end k.1 (λ same. omega (arith, less, same))) refl
      high false ge = by (nat_lt end k.1) (end == k.1) refl refl
        where
          by : (c d : Bool) → nat_lt end k.1 ≡ c → (end == k.1) ≡ d → not (is_le (cond c Less (cond d Equal Greater))) ≡ false
          by true d h g = refl
          by false true h g = refl
          by false false h g = absurd (omega (arith, ltb-false k.1 end ge, ltb-false end k.1 h, eqb-false end k.1 g))

      at : (b : Bool) → nat_lt n k.0 ≡ b → (c : Bool) → (n == k.0) ≡ c → inside end k ≡ ((n == k.0) && nat_lt k.1 end)
      at true h c g = rw (h, ne_eqb n k.0 (λ same. let lt = ltb-true n k.0 h in omega (arith, lt, same))) refl
      at false h true g = rw (h, g, low) (high (nat_lt k.1 end) refl)
      at false h false g = rw (h, g) refl

  -- behind a key of the row are those with a greater second number
  past : (s : ℕ) (k : ℕ × ℕ) → pair_cmp (n, s) k ≡ Less → (end : ℕ) → end ≤ suc s → inside end k ≡ false
  past s k less end le = inside_is end k ∙ at (n == k.0) refl
    where
      above : (b c : Bool) → nat_lt s k.1 ≡ b → cond b Less (cond c Equal Greater) ≡ Less → nat_lt k.1 end ≡ false
      above true c h o = let lt = ltb-true s k.1 h in le-ltb k.1 end (omega (arith, le, lt))
      above false true h o = absurd cc
      above false false h o = absurd cc

      at : (b : Bool) → (n == k.0) ≡ b → (b && nat_lt k.1 end) ≡ false
      at true h =
          let first : nat_cmp n k.0 ≡ Equal = rw (le-ltb n k.0 (let same = eqb-true n k.0 h in omega (arith, same)), h) refl in
          above (nat_lt s k.1) (s == k.1) refl (sym (ap (λ o. ordering_then o (nat_cmp s k.1)) first) ∙ less)
      at false h = refl

  none_past : (s : ℕ) (es : Keyed) → AllByRecursion (λ k. pair_cmp (n, s) k ≡ Less) (keys_of es) → (end : ℕ) → end ≤ suc s → part end es ≡ []
  none_past s [] all end le = refl
  none_past s (e ∷ es) all end le = rw (past s e.0 all.0 end le) (none_past s es all.1 end le)

  -- ---- a row up to the next number

  one_on : (s : ℕ) (k : ℕ × ℕ) → is_at (pair_cmp (n, s)) k ≡ false → inside (suc s) k ≡ inside s k
  one_on s k apart = inside_is (suc s) k ∙ (at (n == k.0) refl ∙ sym (inside_is s k))
    where
      other : n ≡ k.0 → s ≡ k.1 → ⊥
      other first second =
          let itself : is_at (pair_cmp (n, s)) (n, s) ≡ true = rw (le-ltb n n (omega arith), eq-eqb n n refl, le-ltb s s (omega arith), eq-eqb s s refl) refl in
          let same : (n, s) ≡ k = ap (λ m. (m, s)) first ∙ ap (λ m. (k.0, m)) second in
          absurd (let e : true ≡ false = sym itself ∙ (ap (is_at (pair_cmp (n, s))) same ∙ apart) in cc)

      by : n ≡ k.0 → (b : Bool) → nat_lt k.1 s ≡ b → nat_lt k.1 (suc s) ≡ b
      by first true h = let lt = ltb-true k.1 s h in lt-ltb k.1 (suc s) (omega (arith, lt))
      by first false h = le-ltb k.1 (suc s) (omega (arith, ltb-false k.1 s h, other first))

      at : (b : Bool) → (n == k.0) ≡ b → (b && nat_lt k.1 (suc s)) ≡ (b && nat_lt k.1 s)
      at true h = by (eqb-true n k.0 h) (nat_lt k.1 s) refl
      at false h = refl

  row_more : (s : ℕ) (es : Keyed) → IsStrictlySortedBy pair_cmp (keys_of es) → values_of (part (suc s) es) ≡ values_of (part s es) ++ option_to_list (lookup (is_at (pair_cmp (n, s))) es)
  unfolding IsStrictlySortedBy
  row_more s [] sorted = refl
  row_more s (e ∷ es) sorted = at (is_at (pair_cmp (n, s)) e.0) refl (row_more s es sorted.1)
    where
      by : (b : Bool) → inside s e.0 ≡ b → is_at (pair_cmp (n, s)) e.0 ≡ false → values_of (part (suc s) es) ≡ values_of (part s es) ++ option_to_list (lookup (is_at (pair_cmp (n, s))) es)
          → values_of (part (suc s) (e ∷ es)) ≡ values_of (part s (e ∷ es)) ++ option_to_list (lookup (is_at (pair_cmp (n, s))) (e ∷ es))
      by true g h later = rw (one_on s e.0 h, g, h) (ap (λ vs. e.1 ∷ vs) later)
      by false g h later = rw (one_on s e.0 h, g, h) later

      at : (b : Bool) → is_at (pair_cmp (n, s)) e.0 ≡ b → values_of (part (suc s) es) ≡ values_of (part s es) ++ option_to_list (lookup (is_at (pair_cmp (n, s))) es)
          → values_of (part (suc s) (e ∷ es)) ≡ values_of (part s (e ∷ es)) ++ option_to_list (lookup (is_at (pair_cmp (n, s))) (e ∷ es))
      at true h later =
          let here : (n, s) ≡ e.0 = tells_apart exact (n, s) e.0 h in
          let rest = none_past s es (subst (λ q. AllByRecursion (λ k. pair_cmp q k ≡ Less) (keys_of es)) (sym here) sorted.0) in
          let now : inside (suc s) e.0 ≡ true = ap (inside (suc s)) (sym here) ∙ (inside_is (suc s) (n, s) ∙ rw (eq-eqb n n refl, lt-ltb s (suc s) (omega arith)) refl) in
          let before : inside s e.0 ≡ false = ap (inside s) (sym here) ∙ (inside_is s (n, s) ∙ rw (eq-eqb n n refl, le-ltb s s (omega arith)) refl) in
          rw (now, before, h, rest (suc s) (omega arith), rest s (omega arith)) refl
      at false h later = by (inside s e.0) refl h later

  row_zero : (es : Keyed) → part 0 es ≡ []
  row_zero [] = refl
  row_zero (e ∷ es) =
      let out : inside 0 e.0 ≡ false = inside_is 0 e.0 ∙ rw (le-ltb e.0.1 0 (omega arith)) (at (n == e.0.0)) in
      rw out (row_zero es)
    where
      at : (b : Bool) → (b && false) ≡ false
      at true = refl
      at false = refl

-- ---- the row of a unit

module _ (side : Side) (n : ℕ) where
  partners_more : (ps : List (ℕ × ℕ)) (o : Option (ℕ × ℕ)) → partners side n (ps ++ option_to_list o) ≡ partners side n ps ++ option_to_list (option_and_then (partner_in side n) o)
  partners_more ps o =
      ap (map (far side)) (filter-append (λ p. near side p == n) ps (option_to_list o))
      ∙ (map-append (far side) (filter (λ p. near side p == n) ps) (filter (λ p. near side p == n) (option_to_list o)) ∙ ap (λ l. partners side n ps ++ l) (one o))
    where
      by : (q : ℕ × ℕ) (b : Bool) → map (far side) (cond b (q ∷ []) []) ≡ option_to_list (cond b (Some (far side q)) None)
      by q true = refl
      by q false = refl

      one : (r : Option (ℕ × ℕ)) → partners side n (option_to_list r) ≡ option_to_list (option_and_then (partner_in side n) r)
      one None = refl
      one (Some q) = by q (near side q == n)

  -- the row of a unit up to a stamp
  pub row_is : (u : Under) (p : Partners) → Follow u p → IsOrdered pair_cmp (map_of side p) → (end : ℕ) → listed_at side p n end ≡ partners side n (in_order end u)
  row_is u p follow ordered zero = ap values_of (row_zero n (map_of side p).entries)
  row_is u p follow ordered (suc s) =
      row_more n s (map_of side p).entries ordered
      ∙ (ap (λ l. l ++ option_to_list (value_at (map_of side p) (n, s))) (row_is u p follow ordered s)
      ∙ (ap (λ o. partners side n (in_order s u) ++ option_to_list o) (follow side (n, s)) ∙ sym (partners_more (in_order s u) (u s))))
