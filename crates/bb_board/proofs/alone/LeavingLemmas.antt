-- A unit that is deleted leaves its spaces one after another.
use Rattle.std.proofs.Common.{◌≡◌, ℕ, zero, suc, ◌+◌, ◌<◌, ◌||◌, Bool, true, false, cond, List, [], ◌∷◌, map, filter, Option, Some, None, option_map, refl, sym, ap, ◌∙◌, arith}
use Rattle.std.specs.Prelude.{◌==◌, is_some, slice_get, slice_set}
use Rattle.std.specs.List.{range_with_len}
use Rattle.std.specs.Option.{option_map_or}
use Rattle.std.specs.Ordering.{nat_cmp, eq_by_cmp}
use Rattle.std.specs.Cmp.{nat_cmp_total, unsigned_tied}
use Rattle.std.specs.FinMap as fin
use Rattle.std.proofs.lemmas.Bool.{eqb-true, eq-eqb}
use Rattle.bb_basis.proofs.NumberLemmas.{differs}
use Rattle.bb_pattern.specs.declared.value.DimValue.{DimValue}
use Rattle.bb_space.specs.Spaces.{Membership, left}
use Rattle.bb_board.proofs.alone.PartnerLemmas.{is_in}

-- ---- one space

still : (n : ℕ) (m : Membership) → fin.contains_key m n ≡ false → m ≡ left n m
still n m out = fin.same_map nat_cmp_total fin.nat_cmp-IsAntisymmetric _ _ (λ q. at q (eq_by_cmp nat_cmp q n) refl ∙ sym (fin.get-remove nat_cmp_total m n q))
  where
    none : (o : Option (List DimValue)) → is_some o ≡ false → o ≡ None
    none None is = refl
    none (Some v) is = absurd cc

    at : (q : ℕ) (b : Bool) → eq_by_cmp nat_cmp q n ≡ b → fin.get m q ≡ cond b None (fin.get m q)
    at q true is = ap (fin.get m) (let e : q ≡ n = eqb-true q n (sym (unsigned_tied q n) ∙ is) in e) ∙ none (fin.get m n) out
    at q false is = refl

-- ---- the spaces, numbered from i, of which those of a list were left

module _ (n : ℕ) where
  abbrev pub out_from : List ℕ → ℕ → List Membership → List Membership
  out_from list i [] = []
  out_from list i (m ∷ ms) = cond (is_in list i) (left n m) m ∷ out_from list (suc i) ms

  out_same : (x : ℕ) (list : List ℕ) (i : ℕ) (ms : List Membership) → x < i → out_from list i ms ≡ out_from (x ∷ list) i ms
  out_same x list i [] lt = refl
  out_same x list i (m ∷ ms) lt =
      ap (λ b. cond (b || is_in list i) (left n m) m ∷ out_from list (suc i) ms) (sym (differs x i (λ e. omega (arith, lt, e))))
      ∙ ap (λ xs. cond (is_in (x ∷ list) i) (left n m) m ∷ xs) (out_same x list (suc i) ms (omega (arith, lt)))

  cons_out : (k : Membership) (f : Membership → List Membership) (d : List Membership) (o : Option Membership) → option_map_or (λ x. k ∷ f x) o (k ∷ d) ≡ k ∷ option_map_or f o d
  cons_out k f d None = refl
  cons_out k f d (Some x) = refl

  -- one space more is left
  pub out_more : (list : List ℕ) (i : ℕ) (ms : List Membership) (j : ℕ) → is_in list (i + j) ≡ false
      → option_map_or (λ m. slice_set (out_from list i ms) j (left n m)) (slice_get (out_from list i ms) j) (out_from list i ms) ≡ out_from ((i + j) ∷ list) i ms
  out_more list i [] j fresh = refl
  out_more list i (m ∷ ms) zero fresh =
      let e : i + 0 ≡ i = omega arith in
      let unlisted : is_in list i ≡ false = ap (is_in list) (sym e) ∙ fresh in
      ap (λ b. left n (cond b (left n m) m) ∷ out_from list (suc i) ms) unlisted
      ∙ (ap (λ b. cond (b || is_in list i) (left n m) m ∷ out_from list (suc i) ms) (sym (eq-eqb (i + 0) i e))
      ∙ ap (λ xs. cond (is_in ((i + 0) ∷ list) i) (left n m) m ∷ xs) (out_same (i + 0) list (suc i) ms (omega arith)))
  out_more list i (m ∷ ms) (suc j) fresh =
      let e : suc i + j ≡ i + suc j = omega arith in
      cons_out (cond (is_in list i) (left n m) m) (λ x. slice_set (out_from list (suc i) ms) j (left n x)) (out_from list (suc i) ms) (slice_get (out_from list (suc i) ms) j)
      ∙ (ap (λ xs. cond (is_in list i) (left n m) m ∷ xs) (out_more list (suc i) ms j (ap (is_in list) e ∙ fresh) ∙ ap (λ x. out_from (x ∷ list) (suc i) ms) e)
      ∙ ap (λ b. cond (b || is_in list i) (left n m) m ∷ out_from ((i + suc j) ∷ list) (suc i) ms) (sym (differs (i + suc j) i (λ same. omega (arith, same)))))

  pub out_at : (list : List ℕ) (i : ℕ) (ms : List Membership) (j : ℕ) → slice_get (out_from list i ms) j ≡ option_map (λ m. cond (is_in list (i + j)) (left n m) m) (slice_get ms j)
  out_at list i [] j = refl
  out_at list i (m ∷ ms) zero = ap (λ x. Some (cond (is_in list x) (left n m) m)) (let e : i ≡ i + 0 = omega arith in e)
  out_at list i (m ∷ ms) (suc j) =
      out_at list (suc i) ms j ∙ ap (λ x. option_map (λ m'. cond (is_in list x) (left n m') m') (slice_get ms j)) (let e : suc i + j ≡ i + suc j = omega arith in e)

  pub out_none : (i : ℕ) (ms : List Membership) → out_from [] i ms ≡ ms
  out_none i [] = refl
  out_none i (m ∷ ms) = ap (λ xs. m ∷ xs) (out_none (suc i) ms)

  -- where the unit is in no other space, it is out of all
  pub out_all : (list : List ℕ) (i : ℕ) (ms : List Membership) → ((j : ℕ) (m : Membership) → slice_get ms j ≡ Some m → is_in list (i + j) ≡ false → fin.contains_key m n ≡ false)
      → out_from list i ms ≡ map (left n) ms
  out_all list i [] from = refl
  out_all list i (m ∷ ms) from =
      ap (λ x. x ∷ out_from list (suc i) ms) (either_way (is_in list i) refl)
      ∙ ap (λ xs. left n m ∷ xs) (out_all list (suc i) ms (λ j k there fresh. from (suc j) k there (ap (is_in list) (let e : i + suc j ≡ suc i + j = omega arith in e) ∙ fresh)))
    where
      either_way : (b : Bool) → is_in list i ≡ b → cond b (left n m) m ≡ left n m
      either_way true is = refl
      either_way false is = still n m (from 0 m refl (ap (is_in list) (let e : i + 0 ≡ i = omega arith in e) ∙ is))

-- ---- lists without doubles

abbrev pub Apart : List ℕ → Type 0
Apart [] = Unit {0}
Apart (x ∷ xs) = (is_in xs x ≡ false) × Apart xs

above_by : (p : ℕ → Bool) (q b : ℕ) (xs : List ℕ) (t : Bool) → (b == q) ≡ false → is_in xs q ≡ false → is_in (cond t (b ∷ xs) xs) q ≡ false
above_by p q b xs true apart rest = rw (apart) rest
above_by p q b xs false apart rest = rest

above : (p : ℕ → Bool) (q len b : ℕ) → q < b → is_in (filter p (range_with_len b len)) q ≡ false
above p q zero b lt = refl
above p q (suc len) b lt = above_by p q b (filter p (range_with_len (b + 1) len)) (p b) (differs b q (λ e. omega (arith, lt, e))) (above p q len (b + 1) (omega (arith, lt)))

apart_by : (a : ℕ) (xs : List ℕ) (t : Bool) → is_in xs a ≡ false → Apart xs → Apart (cond t (a ∷ xs) xs)
apart_by a xs true other rest = (other, rest)
apart_by a xs false other rest = rest

pub range_apart : (p : ℕ → Bool) (len a : ℕ) → Apart (filter p (range_with_len a len))
range_apart p zero a = tt
range_apart p (suc len) a = apart_by a (filter p (range_with_len (a + 1) len)) (p a) (above p a len (a + 1) (omega arith)) (range_apart p len (a + 1))

-- ---- one list after another, turned round

abbrev pub over : List ℕ → List ℕ → List ℕ
over done [] = done
over done (x ∷ xs) = over (x ∷ done) xs

or_apart : (a b c : Bool) → (b || (a || c)) ≡ ((a || b) || c)
or_apart true true c = refl
or_apart true false c = refl
or_apart false true c = refl
or_apart false false c = refl

pub over_in : (done xs : List ℕ) (q : ℕ) → is_in (over done xs) q ≡ (is_in xs q || is_in done q)
over_in done [] q = refl
over_in done (x ∷ xs) q = over_in (x ∷ done) xs q ∙ or_apart (x == q) (is_in xs q) (is_in done q)
