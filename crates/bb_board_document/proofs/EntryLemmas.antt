-- Units in the order of their numbers: what each is, and which number it gets.
use Rattle.std.proofs.Common.{◌≡◌, ℕ, ◌+◌, ◌<◌, List, [], ◌∷◌, ◌++◌, map, length, Some, Less, refl, sym, ap, subst, ◌∙◌, arith, eq-eqb, ne_eqb}
use Rattle.std.specs.List.{AllByRecursion}
use Rattle.std.specs.List.Sorted.{IsStrictlySortedBy}
use Rattle.std.specs.Ordering.{nat_cmp}
use Rattle.std.specs.Cmp.{unsigned_tied}
use Rattle.std.specs.FinMap.{FinMap, get, find, keys, entries, get-entries}
use Rattle.std.proofs.lemmas.Cmp.{ranked}
use Rattle.std.proofs.lemmas.List.{length-map, map-append}
use Rattle.bb_space.proofs.Laws.{keys_rise}
use Rattle.bb_units.specs.Units.{live_units}
use Rattle.bb_board.specs.State.{World}
use Rattle.bb_board_document.specs.Renumbered.{renamed}
use Rattle.bb_board_document.proofs.CountLemmas.{below, below_at}

module _ {X : Type 0} where
  abbrev firsts : List (ℕ × X) → List ℕ
  firsts es = map (λ e. e.0) es

  first_below : (n : ℕ) (pre : List (ℕ × X)) (e : ℕ × X) (post : List (ℕ × X)) → AllByRecursion (λ m. nat_cmp n m ≡ Less) (firsts (pre ++ e ∷ post)) → n < e.0
  first_below n [] e post all = ranked n e.0 Less (sym all.0)
  first_below n (p ∷ pre) e post all = first_below n pre e post all.1

  find_here : (pre : List (ℕ × X)) (e : ℕ × X) (post : List (ℕ × X)) → IsStrictlySortedBy nat_cmp (firsts (pre ++ e ∷ post)) → find nat_cmp e.0 (pre ++ e ∷ post) ≡ Some e.1
  unfolding IsStrictlySortedBy
  find_here [] e post rise = rw (unsigned_tied e.0 e.0, eq-eqb e.0 e.0 refl) refl
  find_here (p ∷ pre) e post rise =
      let lt : p.0 < e.0 = first_below p.0 pre e post rise.0 in
      rw (unsigned_tied e.0 p.0, ne_eqb e.0 p.0 (λ same. omega (arith, lt, same))) (find_here pre e post rise.1)

  -- what a map has under the key of one of its entries
  pub get_here : (m : FinMap nat_cmp X) (pre : List (ℕ × X)) (e : ℕ × X) (post : List (ℕ × X)) → pre ++ e ∷ post ≡ entries m → get m e.0 ≡ Some e.1
  get_here m pre e post is =
      get-entries m e.0 ∙ (ap (find nat_cmp e.0) (sym is)
      ∙ find_here pre e post (subst (λ es. IsStrictlySortedBy nat_cmp (firsts es)) (sym is) (keys_rise m)))

-- the unit of an entry gets the number of those before it and one
pub renamed_here : {X : Type 0} (w : World) (m : FinMap nat_cmp X) (pre : List (ℕ × X)) (e : ℕ × X) (post : List (ℕ × X)) → keys m ≡ live_units w.units → pre ++ e ∷ post ≡ entries m → renamed w e.0 ≡ length pre + 1
renamed_here {X} w m pre e post same is =
    let to_keys : firsts pre ++ e.0 ∷ firsts post ≡ keys m = sym (map-append (λ (f : ℕ × X). f.0) pre (e ∷ post)) ∙ ap firsts is in
    let rise = subst (IsStrictlySortedBy nat_cmp) (sym to_keys) (keys_rise m) in
    ap (λ ns. below e.0 ns + 1) (sym (to_keys ∙ same)) ∙ ap (λ i. i + 1) (below_at (firsts pre) e.0 (firsts post) rise ∙ length-map pre (λ (f : ℕ × X). f.0))
