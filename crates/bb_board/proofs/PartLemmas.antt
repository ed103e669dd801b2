-- A unit with its parts: they are live and rise, and what is found step by step, until no step finds more, is all of them.
use Rattle.std.proofs.Common.{◌≡◌, ℕ, suc, ◌+◌, ◌≤◌, ◌<◌, ◌⊎◌, inl, inr, Bool, true, false, cond, List, [], ◌∷◌, ◌++◌, length, take, get_or, take-suc, Option, Some, None, nat_eq, refl, sym, ap, ap₂, ◌∙◌, arith}
use Rattle.std.specs.Prelude.{◌==◌, ◌||◌, ◌&&◌, slice_get}
use Rattle.std.specs.List.{IsDistinct, flat_map, fold, list_all, list_any}
use Rattle.std.specs.List.Sorted.{IsStrictlyIncreasing}
use Rattle.std.specs.Option.{option_map_or}
use Rattle.std.specs.Ordering.{nat_cmp, eq_by_cmp}
use Rattle.std.specs.Cmp.{unsigned_tied}
use Rattle.std.specs.FinMap.{keys, contains_key-keys}
use Rattle.std.proofs.lemmas.Bool.{and_from, and_parts, eq-eqb, eqb-true}
use Rattle.std.proofs.lemmas.Cmp.{nat_eq_equiv}
use Rattle.std.proofs.lemmas.List.{take_all}
use Rattle.std.proofs.lemmas.List.Folds.{list_any-append}
use Rattle.std.proofs.lemmas.Map.Keys.{IsStrictlyIncreasing-from_sorted, any_passes_from_place, sorted_from_strictly_increasing}
use Rattle.std.proofs.lemmas.Option.{slice_get_cases, slice_get_within, get_or_from_slice_get}
use Rattle.bb_basis.proofs.BoolLemmas.{or_true, or_false, same_truth}
use Rattle.bb_basis.proofs.ListLemmas.{list_any-last}
use Rattle.bb_schema.specs.declared.couple.Side.{Side}
use Rattle.bb_schema.specs.Schema.{Schema, slots_of}
use Rattle.bb_schema.specs.Couples.{couple_of}
use Rattle.bb_schema.specs.Fits as schemas
use Rattle.bb_units.specs.declared.units.TheConstants.{UNIT_LIMIT}
use Rattle.bb_units.specs.Units.{Units, is_live}
use Rattle.bb_links.specs.Links.{partners, ends}
use Rattle.bb_links.specs.Couples.{pairs_of}
use Rattle.bb_space.proofs.Laws.{keys_rise, same_numbers}
use Rattle.bb_schema.specs.Ownership.{owns}
use Rattle.bb_board.specs.State.{World}
use Rattle.bb_board.specs.World.{class_at}
use Rattle.bb_board.specs.Fits.{Fits}
use Rattle.bb_board.specs.Deletion.{has_part, with_parts}
use Rattle.bb_board.specs.proving.Deleted.{is_of}
use Rattle.bb_board.specs.proving.Found.{found_more, parts_by, parts_of}
use Rattle.bb_basis.proofs.ClosureLemmas.{closure_first, closure_closed, closure_within, closure_least, closure_rising}
use Rattle.bb_board.proofs.FewLemmas.{few_live, partners_live}
use Rattle.bb_board.proofs.FoundLemmas.{of_all, distinct_all, passes_all, front_all, distinct_tied}
use Rattle.bb_board.proofs.LinkLemmas.{no_flat}

-- ---- numbers in a list

tied_of : (n : ℕ) (xs : List ℕ) → list_any (eq_by_cmp nat_cmp n) xs ≡ is_of xs n
tied_of n [] = refl
tied_of n (x ∷ xs) = ap₂ (λ a b. a || b) (unsigned_tied n x ∙ nat_eq_equiv.symm n x) (tied_of n xs)

live_among : (u : Units) (n : ℕ) → is_of (keys u.units) n ≡ is_live u n
live_among u n = sym (contains_key-keys u.units n ∙ tied_of n (keys u.units))

all_from : (p : ℕ → Bool) (xs : List ℕ) → ((n : ℕ) → is_of xs n ≡ true → p n ≡ true) → list_all p xs ≡ true
all_from p [] from = refl
all_from p (x ∷ xs) from =
    and_from (p x) (list_all p xs) (from x (rw (eq-eqb x x refl) refl)) (all_from p xs (λ n there. from n (rw (there, or_true (x == n)) refl)))

all_at_by : (p : ℕ → Bool) (x n : ℕ) (xs : List ℕ) (b : Bool) → (x == n) ≡ b → (b || is_of xs n) ≡ true → p x ≡ true → (is_of xs n ≡ true → p n ≡ true) → p n ≡ true
all_at_by p x n xs true same there one rest = ap p (sym (eqb-true x n same)) ∙ one
all_at_by p x n xs false same there one rest = rest there

pub all_at : (p : ℕ → Bool) (xs : List ℕ) (n : ℕ) → list_all p xs ≡ true → is_of xs n ≡ true → p n ≡ true
all_at p [] n all there = absurd cc
all_at p (x ∷ xs) n all there =
    let both = and_parts (p x) (list_all p xs) all in
    all_at_by p x n xs (x == n) refl there both.0 (all_at p xs n both.1)

-- the same numbers, both times rising
same_rising : (xs ys : List ℕ) → IsStrictlyIncreasing xs → IsStrictlyIncreasing ys → ((n : ℕ) → is_of xs n ≡ is_of ys n) → xs ≡ ys
same_rising xs ys one two same =
    same_numbers xs ys (sorted_from_strictly_increasing xs one) (sorted_from_strictly_increasing ys two)
    (λ n. tied_of n xs ∙ (same n ∙ sym (tied_of n ys)))

module _ (s : Schema) (w : World) where
  -- ---- the parts of a unit

  part_by : (n m slot : ℕ) (b : Bool) → is_of (cond b (ends w.links n slot) []) m ≡ (b && is_of (ends w.links n slot) m)
  part_by n m slot true = refl
  part_by n m slot false = refl

  part_among : (n m : ℕ) (slots : List ℕ) → list_any (λ slot. owns s slot && is_of (ends w.links n slot) m) slots ≡ is_of (flat_map (parts_by s w n) slots) m
  part_among n m [] = refl
  part_among n m (slot ∷ slots) =
      ap₂ (λ a b. a || b) (sym (part_by n m slot (owns s slot))) (part_among n m slots)
      ∙ sym (list_any-append (λ k. k == m) (parts_by s w n slot) (flat_map (parts_by s w n) slots))

  part_of : (n m : ℕ) → has_part s w n m ≡ is_of (parts_of s w n) m
  part_of n m = part_among n m (slots_of s (class_at w n))

  -- ---- all parts

  pub parts_rise : (n : ℕ) → IsStrictlyIncreasing (with_parts s w n)
  parts_rise n = closure_rising (has_part s w) (keys w.units.units) n (IsStrictlyIncreasing-from_sorted (keys w.units.units) (keys_rise w.units.units))

  part_live : (n m : ℕ) → is_of (with_parts s w n) m ≡ true → is_live w.units m ≡ true
  part_live n m there = sym (live_among w.units m) ∙ closure_within (has_part s w) (keys w.units.units) n m there

  pub parts_live : (n : ℕ) → list_all (is_live w.units) (with_parts s w n) ≡ true
  parts_live n = all_from (is_live w.units) (with_parts s w n) (part_live n)

  -- the unit itself is one of them
  pub whole_there : (n : ℕ) → is_live w.units n ≡ true → is_of (with_parts s w n) n ≡ true
  whole_there n live = closure_first (has_part s w) (keys w.units.units) n (live_among w.units n ∙ live)

  -- ---- a schema that owns nothing

  module _ (none : (slot : ℕ) → owns s slot ≡ false) where
    no_part : (n m : ℕ) (slots : List ℕ) → list_any (λ slot. owns s slot && is_of (ends w.links n slot) m) slots ≡ false
    no_part n m [] = refl
    no_part n m (slot ∷ slots) = rw (none slot) (no_part n m slots)

    only_whole : (n m : ℕ) → is_of (with_parts s w n) m ≡ true → m ≡ n
    only_whole n m there =
        closure_least (has_part s w) (keys w.units.units) n (λ k. k ≡ n) refl
        (λ k j same led. absurd (let e : false ≡ true = sym (no_part k j (slots_of s (class_at w k))) ∙ led in cc)) m there

    pub alone_there : (n : ℕ) → is_live w.units n ≡ true → n ∷ [] ≡ with_parts s w n
    alone_there n live =
        same_rising (n ∷ []) (with_parts s w n) (λ k within. absurd (omega (arith, within))) (parts_rise n)
        (λ m. same_truth (is_of (n ∷ []) m) (is_of (with_parts s w n) m)
        (λ one. ap (is_of (with_parts s w n)) (sym (eqb-true n m (sym (or_false (n == m)) ∙ one))) ∙ whole_there n live)
        (λ there. or_false (n == m) ∙ eq-eqb n m (sym (only_whole n m there))))

  -- ---- what was found so far, of which those before a place were looked at

  pub record AreParts (n : ℕ) (found : List ℕ) (place : ℕ) : Type 0 where
    pub distinct : IsDistinct nat_eq found
    pub live : list_all (is_live w.units) found ≡ true
    pub first : is_of found n ≡ true
    pub sound : (m : ℕ) → is_of found m ≡ true → is_of (with_parts s w n) m ≡ true
    pub closed : (m k : ℕ) → is_of (take place found) m ≡ true → has_part s w m k ≡ true → is_of found k ≡ true

  pub parts_begin : (n : ℕ) → is_live w.units n ≡ true → AreParts n (n ∷ []) 0
  unfolding IsDistinct
  parts_begin n live = record {
    distinct = (tt, tt);
    live = and_from (is_live w.units n) true live refl;
    first = rw (eq-eqb n n refl) refl;
    sound = λ m there. ap (is_of (with_parts s w n)) (sym (eqb-true n m (sym (or_false (n == m)) ∙ there))) ∙ whole_there n live;
    closed = λ m k there led. absurd cc;
  }

  module _ (sf : schemas.Fits s) (fits : Fits s w) where
    ends_live_by : (n slot : ℕ) (e : Option (ℕ × Side)) → couple_of s slot ≡ e
        → list_all (is_live w.units) (option_map_or (λ (e : ℕ × Side). partners e.1 n (pairs_of w.links e.0)) e []) ≡ true
    ends_live_by n slot None is = refl
    ends_live_by n slot (Some e) is = partners_live s w sf fits n slot e is

    ends_live : (n slot : ℕ) → list_all (is_live w.units) (ends w.links n slot) ≡ true
    ends_live n slot =
        ap (λ o. list_all (is_live w.units) (option_map_or (λ (e : ℕ × Side). partners e.1 n (pairs_of w.links e.0)) o [])) (fits.ends slot)
        ∙ ends_live_by n slot (couple_of s slot) refl

    live_by : (n slot : ℕ) (b : Bool) → list_all (is_live w.units) (cond b (ends w.links n slot) []) ≡ true
    live_by n slot true = ends_live n slot
    live_by n slot false = refl

    one_live : (n : ℕ) → list_all (is_live w.units) (parts_of s w n) ≡ true
    one_live n = no_flat (is_live w.units) (parts_by s w n) (λ slot. live_by n slot (owns s slot)) (slots_of s (class_at w n))

    -- the place of a unit that is looked at next
    module _ (n : ℕ) (found : List ℕ) (place whole : ℕ) (at : slice_get found place ≡ Some whole) (are : AreParts n found place) where
      abbrev more : List ℕ
      more = fold found_more found (parts_of s w whole)

      one_further : take (place + 1) more ≡ take place found ++ whole ∷ []
      one_further =
          let within = slice_get_within found place whole at in
          front_all (place + 1) found (parts_of s w whole) (omega (arith, within))
          ∙ (ap (λ k. take k found) (let e : place + 1 ≡ suc place = omega arith in e)
          ∙ (take-suc found place whole within ∙ ap (λ x. take place found ++ x ∷ []) (get_or_from_slice_get found place whole whole at)))

      among_whole : is_of found whole ≡ true
      among_whole = any_passes_from_place (λ k. k == whole) found place whole at (eq-eqb whole whole refl)

      more_has_found : (k : ℕ) → is_of found k ≡ true → is_of more k ≡ true
      more_has_found k there = of_all found (parts_of s w whole) k ∙ ap (λ b. b || is_of (parts_of s w whole) k) there

      sound_by : (m : ℕ) (b : Bool) → is_of found m ≡ b → (b || is_of (parts_of s w whole) m) ≡ true → is_of (with_parts s w n) m ≡ true
      sound_by m true is any = are.sound m is
      sound_by m false is any =
          closure_closed (has_part s w) (keys w.units.units) n whole m (are.sound whole among_whole) (part_of whole m ∙ any)
          (live_among w.units m ∙ all_at (is_live w.units) (parts_of s w whole) m (one_live whole) any)

      closed_by : (m k : ℕ) (b : Bool) → is_of (take place found) m ≡ b → (b || whole == m) ≡ true → has_part s w m k ≡ true → is_of more k ≡ true
      closed_by m k true is any led = more_has_found k (are.closed m k is led)
      closed_by m k false is any led =
          let part : is_of (parts_of s w whole) k ≡ true = sym (part_of whole k) ∙ (ap (λ j. has_part s w j k) (eqb-true whole m any) ∙ led) in
          of_all found (parts_of s w whole) k ∙ (ap (λ b. is_of found k || b) part ∙ or_true (is_of found k))

      pub parts_further : AreParts n more (place + 1)
      parts_further = record {
        distinct = distinct_all found (parts_of s w whole) are.distinct;
        live = passes_all (is_live w.units) found (parts_of s w whole) are.live (one_live whole);
        first = more_has_found n are.first;
        sound = λ m there. sound_by m (is_of found m) refl (sym (of_all found (parts_of s w whole) m) ∙ there);
        closed = λ m k there led. closed_by m k (is_of (take place found) m) refl
            (sym (ap (λ l. is_of l m) one_further ∙ list_any-last (λ j. j == m) (take place found) whole) ∙ there) led;
      }

    -- no more than can be live
    pub parts_few : (n : ℕ) (found : List ℕ) (place : ℕ) → AreParts n found place → length found ≤ UNIT_LIMIT
    parts_few n found place are = few_live w.units found fits.units (distinct_tied found are.distinct) are.live

  -- each was looked at
  all_of : (n : ℕ) (found : List ℕ) (place m : ℕ) → length found ≤ place → AreParts n found place → is_of (with_parts s w n) m ≡ true → is_of found m ≡ true
  all_of n found place m past are there =
      closure_least (has_part s w) (keys w.units.units) n (λ k. is_of found k ≡ true) are.first
      (λ k j is led. are.closed k j (ap (λ l. is_of l k) (take_all place found past) ∙ is) led) m there

  pub parts_done : (n : ℕ) (found : List ℕ) (place : ℕ) → slice_get found place ≡ None → AreParts n found place
      → (rising : List ℕ) → IsStrictlyIncreasing rising → ((m : ℕ) → is_of rising m ≡ is_of found m) → rising ≡ with_parts s w n
  parts_done n found place none are rising up same =
      let past : length found ≤ place = past_by (slice_get_cases found place).1 none in
      same_rising rising (with_parts s w n) up (parts_rise n)
      (λ m. same_truth (is_of rising m) (is_of (with_parts s w n) m)
      (λ there. are.sound m (sym (same m) ∙ there)) (λ there. same m ∙ all_of n found place m past are there))
    where
      past_by : ((x : ℕ) × (place < length found) × (slice_get found place ≡ Some x) × (get_or found place x ≡ x)) ⊎ ((length found ≤ place) × (slice_get found place ≡ None)) → slice_get found place ≡ None → length found ≤ place
      past_by (inl p) is = absurd (let e : None ≡ Some p.0 = sym is ∙ p.2 in cc)
      past_by (inr p) is = p.0
