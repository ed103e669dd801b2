-- No more units are answered, or linked to one, than can be live.
use Rattle.std.proofs.Common.{◌≡◌, ℕ, ◌≤◌, Bool, true, false, cond, List, [], ◌∷◌, map, filter, length, Option, Some, None, refl, sym, ap, ◌∙◌, arith}
use Rattle.std.specs.Prelude.{◌==◌, ◌&&◌, ◌||◌, All, slice_get}
use Rattle.std.specs.List.{AllByRecursion, IsDistinct, list_all, list_any}
use Rattle.std.specs.Option.{option_map_or}
use Rattle.std.specs.Ordering.{nat_cmp, eq_by_cmp}
use Rattle.std.specs.Cmp.{nat_cmp_total, eq_by_cmp_equiv, unsigned_tied}
use Rattle.std.specs.FinMap as maps
use Rattle.std.proofs.lemmas.Bool.{and_parts, eqb-true}
use Rattle.std.proofs.lemmas.Bool.Decides.{nat_tests}
use Rattle.std.proofs.lemmas.List.{length-map}
use Rattle.std.proofs.lemmas.List.Sums.{length-filter, count_by-le-length}
use Rattle.std.proofs.lemmas.List.Folds.{list_all-map}
use Rattle.std.proofs.lemmas.Map.Made.{length-le_from_is_member}
use Rattle.bb_schema_classes.proofs.Laws.{All-at}
use Rattle.bb_schema.specs.declared.couple.Side.{Side}
use Rattle.bb_schema.specs.declared.couple.Side.TheVariants.{A, B}
use Rattle.bb_schema.specs.Schema.{Schema}
use Rattle.bb_schema.specs.Couples.{couple_of}
use Rattle.bb_schema.specs.Fits as schemas
use Rattle.bb_units.specs.Units.{Units, is_live}
use Rattle.bb_units.specs.Fits as units
use Rattle.bb_units.specs.declared.units.TheConstants.{UNIT_LIMIT}
use Rattle.bb_links.specs.Pairs.{near, far, same_pair}
use Rattle.bb_links.specs.Links.{partners, ends}
use Rattle.bb_links.specs.Couples.{Couple, pairs_of}
use Rattle.bb_links.specs.Fits as links
use Rattle.bb_board.specs.State.{World}
use Rattle.bb_board.specs.Fits.{Fits}
use Rattle.bb_board.proofs.AllLemmas.{all_filter}
use Rattle.bb_board.proofs.LinkLemmas.{pairs_live}

len_keys : {X : Type 0} (m : maps.FinMap nat_cmp X) → length (maps.keys m) ≡ maps.len m
len_keys m = length-map (maps.entries m) (λ e. e.0) ∙ sym (maps.len-entries m)

-- units that pass a test

pub few_pass : (u : Units) (test : ℕ → Bool) → units.Fits u → length (filter test (maps.keys u.units)) ≤ UNIT_LIMIT
few_pass u test fits = omega (arith, length-filter test (maps.keys u.units), count_by-le-length test (maps.keys u.units), len_keys u.units, fits.few)

-- the partners of a unit differ

abbrev pub tied : ℕ → ℕ → Bool
tied = eq_by_cmp nat_cmp

abbrev IsOnce : List (ℕ × ℕ) → Type 0
IsOnce pairs = (p : ℕ × ℕ) → length (filter (same_pair p) pairs) ≤ 1

same_by : (side : Side) (n : ℕ) (p q : ℕ × ℕ) → near side p ≡ n → near side q ≡ n → far side p ≡ far side q → same_pair p q ≡ true
same_by A n p q one two far = grind (arith, nat_tests)
same_by B n p q one two far = grind (arith, nat_tests)

other_by : (side : Side) (n : ℕ) (p q : ℕ × ℕ) (b : Bool) → near side p ≡ n → near side q ≡ n → same_pair p q ≡ false → tied (far side p) (far side q) ≡ b → b ≡ false
other_by side n p q false one two differs is = refl
other_by side n p q true one two differs is =
    let far_same = eqb-true (far side p) (far side q) (sym (unsigned_tied (far side p) (far side q)) ∙ is) in
    let same = same_by side n p q one two far_same in
    absurd cc

module _ (side : Side) (n : ℕ) where
  apart_by : (p q : ℕ × ℕ) (qs : List (ℕ × ℕ)) (same near_too : Bool) → near side p ≡ n → same_pair p q ≡ same → (near side q == n) ≡ near_too → length (cond same (q ∷ filter (same_pair p) qs) (filter (same_pair p) qs)) ≡ 0
      → (length (filter (same_pair p) qs) ≡ 0 → AllByRecursion (λ y. tied (far side p) y ≡ false) (partners side n qs))
      → AllByRecursion (λ y. tied (far side p) y ≡ false) (map (far side) (cond near_too (q ∷ filter (λ p. near side p == n) qs) (filter (λ p. near side p == n) qs)))
  apart_by p q qs true near_too at same is none rest = absurd (omega arith)
  apart_by p q qs false false at same is none rest = rest none
  apart_by p q qs false true at same is none rest = (other_by side n p q (tied (far side p) (far side q)) at (eqb-true (near side q) n is) same refl, rest none)

  apart : (p : ℕ × ℕ) (qs : List (ℕ × ℕ)) → near side p ≡ n → length (filter (same_pair p) qs) ≡ 0 → AllByRecursion (λ y. tied (far side p) y ≡ false) (partners side n qs)
  apart p [] at none = tt
  apart p (q ∷ qs) at none = apart_by p q qs (same_pair p q) (near side q == n) at refl refl none (apart p qs at)

  -- where a pair stands once, it stands at no other place
  only_by : (p : ℕ × ℕ) (b : Bool) (qs : List (ℕ × ℕ)) → same_pair p p ≡ b → length (cond b (p ∷ filter (same_pair p) qs) (filter (same_pair p) qs)) ≤ 1 → length (filter (same_pair p) qs) ≡ 0
  only_by p true qs is one = omega (arith, one)
  only_by p false qs is one = let same : same_pair p p ≡ true = grind (arith, nat_tests) in absurd cc

  fewer_by : (b : Bool) (p : ℕ × ℕ) (qs : List (ℕ × ℕ)) → length (cond b (p ∷ qs) qs) ≤ 1 → length qs ≤ 1
  fewer_by true p qs one = omega (arith, one)
  fewer_by false p qs one = one

  distinct_by : (p : ℕ × ℕ) (qs : List (ℕ × ℕ)) (b : Bool) → (near side p == n) ≡ b → length (filter (same_pair p) qs) ≡ 0 → IsDistinct tied (partners side n qs)
      → IsDistinct tied (map (far side) (cond b (p ∷ filter (λ p. near side p == n) qs) (filter (λ p. near side p == n) qs)))
  unfolding IsDistinct
  distinct_by p qs false is none rest = rest
  distinct_by p qs true is none rest = (apart p qs (eqb-true (near side p) n is) none, rest)

  pub distinct : (pairs : List (ℕ × ℕ)) → IsOnce pairs → IsDistinct tied (partners side n pairs)
  unfolding IsDistinct
  distinct [] once = tt
  distinct (p ∷ qs) once =
      distinct_by p qs (near side p == n) refl (only_by p (same_pair p p) qs refl (once p))
      (distinct qs (λ q. fewer_by (same_pair q p) p (filter (same_pair q) qs) (once q)))

-- each partner is live

all_there_by : (test : ℕ → Bool) (x q : ℕ) (xs : List ℕ) (b : Bool) → tied q x ≡ b → (b || list_any (tied q) xs) ≡ true → test x ≡ true → (list_any (tied q) xs ≡ true → test q ≡ true) → test q ≡ true
all_there_by test x q xs true is any here rest = ap test (eqb-true q x (sym (unsigned_tied q x) ∙ is)) ∙ here
all_there_by test x q xs false is any here rest = rest any

all_there : (test : ℕ → Bool) (xs : List ℕ) (q : ℕ) → list_all test xs ≡ true → list_any (tied q) xs ≡ true → test q ≡ true
all_there test [] q all any = absurd cc
all_there test (x ∷ xs) q all any =
    let both = and_parts (test x) (list_all test xs) all in
    all_there_by test x q xs (tied q x) refl any both.0 (all_there test xs q both.1)

pub few_live : (u : Units) (xs : List ℕ) → units.Fits u → IsDistinct tied xs → list_all (is_live u) xs ≡ true → length xs ≤ UNIT_LIMIT
few_live u xs fits differ live =
    let few = length-le_from_is_member (eq_by_cmp_equiv nat_cmp_total) xs (maps.keys u.units) differ (λ q there. sym (maps.contains_key-keys u.units q) ∙ all_there (is_live u) xs q live there) in
    omega (arith, few, len_keys u.units, fits.few)

pub once_by : (couples : List Couple) (i : ℕ) (found : Option Couple) → slice_get couples i ≡ found → All links.FitsCouple couples → IsOnce (option_map_or (λ k. k.pairs) found [])
once_by couples i None is all p = omega arith
once_by couples i (Some k) is all p = (All-at links.FitsCouple couples i k is all).once p

module _ (s : Schema) (w : World) (sf : schemas.Fits s) (fits : Fits s w) (n slot : ℕ) where
  pub partners_live : (e : ℕ × Side) → couple_of s slot ≡ Some e → list_all (is_live w.units) (partners e.1 n (pairs_of w.links e.0)) ≡ true
  partners_live e is =
      list_all-map (is_live w.units) (far e.1) (filter (λ p. near e.1 p == n) (pairs_of w.links e.0))
      ∙ all_filter (λ p. is_live w.units (near e.1 p) && is_live w.units (far e.1 p)) (λ p. is_live w.units (far e.1 p)) (λ p. near e.1 p == n)
      (λ p kept both. (and_parts (is_live w.units (near e.1 p)) (is_live w.units (far e.1 p)) both).1) (pairs_of w.links e.0) (pairs_live s w sf fits slot e is)

  few_by : (found : Option (ℕ × Side)) → couple_of s slot ≡ found → length (option_map_or (λ (e : ℕ × Side). partners e.1 n (pairs_of w.links e.0)) found []) ≤ UNIT_LIMIT
  few_by None is = omega arith
  few_by (Some e) is = few_live w.units (partners e.1 n (pairs_of w.links e.0)) fits.units (distinct e.1 n (pairs_of w.links e.0) (once_by w.links.couples e.0 (slice_get w.links.couples e.0) refl fits.links.couples)) (partners_live e is)

  pub few_ends : length (ends w.links n slot) ≤ UNIT_LIMIT
  few_ends = rw (fits.ends slot) (few_by (couple_of s slot) refl)
