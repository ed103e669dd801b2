-- A live unit has its place among the entries; what is kept of it under its new number; and no two units have one.
use Rattle.std.proofs.Common.{◌≡◌, ℕ, suc, ◌+◌, ◌-◌, ◌<◌, ◌≤◌, Bool, true, false, cond, List, [], ◌∷◌, ◌++◌, map, length, get_or, Option, Some, None, Less, refl, sym, ap, ◌∙◌, arith, append_assoc, length-append}
use Rattle.std.specs.Prelude.{◌==◌, is_some}
use Rattle.std.specs.List.{AllByRecursion}
use Rattle.std.specs.List.Sorted.{IsStrictlySortedBy}
use Rattle.std.specs.Map.{keys_of}
use Rattle.std.specs.Ordering.{nat_cmp}
use Rattle.std.specs.Cmp.{unsigned_tied}
use Rattle.std.specs.FinMap as fin
use Rattle.std.proofs.lemmas.Bool.{eqb-true, eqb-false}
use Rattle.std.proofs.lemmas.Bool.Decides.{nat_tests}
use Rattle.std.proofs.lemmas.List.{length-map, map-append}
use Rattle.bb_basis.proofs.EntryLemmas.{entries_are}
use Rattle.bb_units.specs.declared.unit.Unit.{Unit as OneUnit}
use Rattle.bb_units.specs.Units.{live_units, is_live}
use Rattle.bb_board.specs.State.{World}
use Rattle.bb_board_document.specs.Renumbered.{renamed}
use Rattle.bb_board_document.proofs.EntryLemmas.{get_here, renamed_here}

module _ {X : Type 0} where
  -- where an entry stands
  pub record Placed (es : List (ℕ × X)) (n : ℕ) (x : X) : Type 0 where
    pub pre : List (ℕ × X)
    pub post : List (ℕ × X)
    pub is : pre ++ (n, x) ∷ post ≡ es

  place_by : (es : List (ℕ × X)) (n : ℕ) (x : X) → fin.find nat_cmp n es ≡ Some x → Placed es n x
  place_by [] n x found = absurd cc
  place_by (e ∷ es) n x found = by (n == e.0) refl (ap (λ b. cond b (Some e.1) (fin.find nat_cmp n es)) (sym (unsigned_tied n e.0)) ∙ found) (place_by es n x)
    where
      by : (b : Bool) → (n == e.0) ≡ b → cond b (Some e.1) (fin.find nat_cmp n es) ≡ Some x → (fin.find nat_cmp n es ≡ Some x → Placed es n x) → Placed (e ∷ es) n x
      by true same is rest =
          let value : e.1 ≡ x = cc in
          record { pre = []; post = es; is = ap (λ k. (k, x) ∷ es) (eqb-true n e.0 same) ∙ ap (λ v. (e.0, v) ∷ es) (sym value) }
      by false other is rest = let p = rest is in record { pre = e ∷ p.pre; post = p.post; is = ap (λ fs. e ∷ fs) p.is }

  pub place : (m : fin.FinMap nat_cmp X) (n : ℕ) (x : X) → fin.get m n ≡ Some x → Placed (fin.entries m) n x
  place m n x held = place_by (fin.entries m) n x (sym (fin.get-entries m n) ∙ held)

middle : (pre : List ℕ) (n : ℕ) (post : List ℕ) → get_or (pre ++ n ∷ post) (length pre) 0 ≡ n
middle [] n post = refl
middle (p ∷ pre) n post = middle pre n post

module _ (w : World) where
  abbrev pub units_of : fin.FinMap nat_cmp OneUnit
  units_of = w.units.units

  abbrev pub Entries : Type 0
  Entries = List (ℕ × OneUnit)

  abbrev pub under_new : Entries → Entries
  under_new es = map (λ e. (renamed w e.0, e.1)) es

  -- the unit that has a new number
  abbrev old : ℕ → ℕ
  old i = get_or (live_units w.units) (i - 1) 0

  -- the number of a unit that is placed
  pub number_of : (n : ℕ) (x : OneUnit) → (p : Placed (fin.entries units_of) n x) → renamed w n ≡ length p.pre + 1
  number_of n x p = renamed_here w units_of p.pre (n, x) p.post refl p.is

  old_new : (n : ℕ) (x : OneUnit) → Placed (fin.entries units_of) n x → old (renamed w n) ≡ n
  old_new n x p =
      let ks : map (λ (e : ℕ × OneUnit). e.0) p.pre ++ n ∷ map (λ (e : ℕ × OneUnit). e.0) p.post ≡ live_units w.units = sym (map-append (λ (e : ℕ × OneUnit). e.0) p.pre ((n, x) ∷ p.post)) ∙ ap (λ (es : Entries). map (λ e. e.0) es) p.is in
      let at : renamed w n - 1 ≡ length (map (λ (e : ℕ × OneUnit). e.0) p.pre) = omega (arith, number_of n x p, length-map p.pre (λ (e : ℕ × OneUnit). e.0)) in
      ap (λ i. get_or (live_units w.units) i 0) at
      ∙ (ap (λ ns. get_or ns (length (map (λ (e : ℕ × OneUnit). e.0) p.pre)) 0) (sym ks)
      ∙ middle (map (λ (e : ℕ × OneUnit). e.0) p.pre) n (map (λ (e : ℕ × OneUnit). e.0) p.post))

  -- the place of a unit that is live
  pub record Lives (n : ℕ) : Type 0 where
    pub unit : OneUnit
    pub held : fin.get units_of n ≡ Some unit
    pub placed : Placed (fin.entries units_of) n unit

  lives_by : (n : ℕ) (o : Option OneUnit) → fin.get units_of n ≡ o → is_some o ≡ true → Lives n
  lives_by n None held live = absurd cc
  lives_by n (Some x) held live = record { unit = x; held = held; placed = place units_of n x held }

  pub lives : (n : ℕ) → is_live w.units n ≡ true → Lives n
  lives n live = lives_by n (fin.get units_of n) refl live

  -- two live units with one new number are one
  pub same_number : (a b : ℕ) → Lives a → Lives b → (renamed w a == renamed w b) ≡ (a == b)
  same_number a b one other = by (renamed w a == renamed w b) refl (a == b) refl
    where
      by : (c : Bool) → (renamed w a == renamed w b) ≡ c → (d : Bool) → (a == b) ≡ d → c ≡ d
      by true h true g = refl
      by false h false g = refl
      by true h false g =
          let same : renamed w a ≡ renamed w b = eqb-true (renamed w a) (renamed w b) h in
          absurd (eqb-false a b g (sym (old_new a one.unit one.placed) ∙ (ap old same ∙ old_new b other.unit other.placed)))
      by false h true g = absurd (eqb-false (renamed w a) (renamed w b) h (ap (renamed w) (eqb-true a b g)))

  -- what a map has under the numbers of live units alone
  pub each_live : {X : Type 0} (t : fin.FinMap nat_cmp X) → ((n : ℕ) (x : X) → fin.get t n ≡ Some x → is_live w.units n ≡ true) → (pre post : List (ℕ × X)) → pre ++ post ≡ fin.entries t → AllByRecursion (λ (e : ℕ × X). is_live w.units e.0 ≡ true) post
  each_live t live pre [] is = tt
  each_live t live pre (e ∷ post) is = (live e.0 e.1 (get_here t pre e post is), each_live t live (pre ++ e ∷ []) post (append_assoc pre (e ∷ []) post ∙ is))

  -- ---- the entries under their new numbers

  above_new : (pre post : Entries) (j : ℕ) → pre ++ post ≡ fin.entries units_of → j ≤ length pre → AllByRecursion (λ k. nat_cmp j k ≡ Less) (keys_of (under_new post))
  above_new pre [] j is le = tt
  above_new pre (e ∷ post) j is le =
      let number : renamed w e.0 ≡ length pre + 1 = renamed_here w units_of pre e post refl is in
      let lt : j < renamed w e.0 = omega (arith, number, le) in
      let longer : length (pre ++ e ∷ []) ≡ length pre + 1 = length-append pre (e ∷ []) in
      (grind (arith, nat_tests), above_new (pre ++ e ∷ []) post j (append_assoc pre (e ∷ []) post ∙ is) (omega (arith, longer, le)))

  rise_new : (pre post : Entries) → pre ++ post ≡ fin.entries units_of → IsStrictlySortedBy nat_cmp (keys_of (under_new post))
  unfolding IsStrictlySortedBy
  rise_new pre [] is = tt
  rise_new pre (e ∷ post) is =
      let number : renamed w e.0 ≡ length pre + 1 = renamed_here w units_of pre e post refl is in
      let longer : length (pre ++ e ∷ []) ≡ length pre + 1 = length-append pre (e ∷ []) in
      let whole = append_assoc pre (e ∷ []) post ∙ is in
      (above_new (pre ++ e ∷ []) post (renamed w e.0) whole (omega (arith, number, longer)), rise_new (pre ++ e ∷ []) post whole)

  -- the units of a document that is loaded
  abbrev pub new_units : fin.FinMap nat_cmp OneUnit
  new_units = fin.from_entries (under_new (fin.entries units_of))

  pub new_entries : fin.entries new_units ≡ under_new (fin.entries units_of)
  new_entries = entries_are (under_new (fin.entries units_of)) (rise_new [] (fin.entries units_of) refl)

  -- a unit is kept under its new number
  pub held_new : (n : ℕ) (l : Lives n) → fin.get new_units (renamed w n) ≡ Some l.unit
  held_new n l =
      let p = l.placed in
      get_here new_units (under_new p.pre) (renamed w n, l.unit) (under_new p.post)
      (sym (map-append (λ (e : ℕ × OneUnit). (renamed w e.0, e.1)) p.pre ((n, l.unit) ∷ p.post)) ∙ (ap under_new p.is ∙ sym new_entries))

  -- its new number is one of those
  pub number_within : (n : ℕ) (l : Lives n) → (0 < renamed w n) × (renamed w n ≤ length (fin.entries units_of))
  number_within n l =
      let number = number_of n l.unit l.placed in
      let long : length l.placed.pre + suc (length l.placed.post) ≡ length (fin.entries units_of) = sym (length-append l.placed.pre ((n, l.unit) ∷ l.placed.post)) ∙ ap length l.placed.is in
      (omega (arith, number), omega (arith, number, long))
