-- Locals that are set, how many are free, and what they hold after blocks and branches, local by local.
use Rattle.std.proofs.Common.{◌≡◌, ℕ, zero, suc, ◌<◌, Bool, true, false, cond, List, [], ◌∷◌, length, map, Option, Some, None, refl, sym, ap, ◌∙◌, arith}
use Rattle.std.specs.Prelude.{set, position, option_map}
use Rattle.std.proofs.lemmas.List.Quantifiers.{position-Some}
use Rattle.std.proofs.lemmas.Option.{unwrap_or-slice_get}
use Rattle.bb_basis.proofs.PositionLemmas.{spot, position_spot}
use Rattle.bb_code.specs.declared.frame.Kind.{Kind}
use Rattle.bb_code.specs.declared.frame.Kind.TheVariants as kinds
use Rattle.bb_verify_effect.specs.Kinds.{struck}
use Rattle.bb_schema.specs.Schema.{Schema}
use Rattle.bb_compile_scope.specs.Kinds.{is_live}
use Rattle.bb_compile_scope.specs.LocalKinds.{is_free, kind_at, paired, met_kind}

-- ---- one local

pub at_same : (ks : List Kind) (i : ℕ) (k : Kind) → i < length ks → kind_at (set ks i k) i ≡ k
at_same [] i k lt = absurd (omega (arith, lt))
at_same (x ∷ xs) zero k lt = refl
at_same (x ∷ xs) (suc i) k lt = at_same xs i k (omega (arith, lt))

pub at_other : (ks : List Kind) (i j : ℕ) (k : Kind) → (j ≡ i → ⊥) → kind_at (set ks i k) j ≡ kind_at ks j
at_other [] i j k apart = refl
at_other (x ∷ xs) zero zero k apart = absurd (apart refl)
at_other (x ∷ xs) zero (suc j) k apart = refl
at_other (x ∷ xs) (suc i) zero k apart = refl
at_other (x ∷ xs) (suc i) (suc j) k apart = at_other xs i j k (λ e. apart (ap suc e))

pub set_twice : (ks : List Kind) (i : ℕ) (k : Kind) → set (set ks i k) i k ≡ set ks i k
set_twice [] i k = refl
set_twice (x ∷ xs) zero k = refl
set_twice (x ∷ xs) (suc i) k = ap (λ l. x ∷ l) (set_twice xs i k)

-- the lowest free local is free
pub free_first : (ks : List Kind) (i : ℕ) → position is_free ks ≡ Some i → is_free (kind_at ks i) ≡ true
free_first ks i h = ap is_free (unwrap_or-slice_get ks i kinds.Any) ∙ (position-Some is_free ks i kinds.Any h).1

-- a local that is taken is in the list
pub taken_within : (ks : List Kind) (i : ℕ) → is_free (kind_at ks i) ≡ false → i < length ks
taken_within [] i taken = absurd cc
taken_within (k ∷ ks) zero taken = omega arith
taken_within (k ∷ ks) (suc i) taken = let lt = taken_within ks i taken in omega (arith, lt)

-- a unit was deleted
pub struck_at : (s : Schema) (c : ℕ) (ks : List Kind) (i : ℕ) → kind_at (map (struck s c) ks) i ≡ struck s c (kind_at ks i)
unfolding struck
struck_at s c [] i = refl
struck_at s c (k ∷ ks) zero = refl
struck_at s c (k ∷ ks) (suc i) = struck_at s c ks i

-- ---- how many are free

abbrev pub frees : List Kind → ℕ
frees [] = 0
frees (k ∷ ks) = cond (is_free k) (suc (frees ks)) (frees ks)

pub frees_same : (ks ls : List Kind) → length ks ≡ length ls → ((i : ℕ) → is_free (kind_at ks i) ≡ is_free (kind_at ls i)) → frees ks ≡ frees ls
frees_same [] [] count same = refl
frees_same [] (l ∷ ls) count same = absurd (omega (arith, count))
frees_same (k ∷ ks) [] count same = absurd (omega (arith, count))
frees_same (k ∷ ks) (l ∷ ls) count same =
    ap (λ b. cond b (suc (frees ks)) (frees ks)) (same 0) ∙ ap (λ n. cond (is_free l) (suc n) n) (frees_same ks ls (omega (arith, count)) (λ i. same (suc i)))

spot_taken : (ks : List Kind) (i : ℕ) (k : Kind) → spot is_free ks ≡ Some i → is_free k ≡ false → frees ks ≡ suc (frees (set ks i k))
spot_taken [] i k at taken = absurd cc
spot_taken (x ∷ xs) i k at taken = by_free (λ j found. spot_taken xs j k found taken) (is_free x) refl at
  where
    by_rest : ((j : ℕ) → spot is_free xs ≡ Some j → frees xs ≡ suc (frees (set xs j k))) → (o : Option ℕ) → spot is_free xs ≡ o → option_map suc o ≡ Some i → is_free x ≡ false → frees (x ∷ xs) ≡ suc (frees (set (x ∷ xs) i k))
    by_rest rest None found at held = absurd cc
    by_rest rest (Some j) found at held =
        let e : suc j ≡ i = cc in
        ap (λ b. cond b (suc (frees xs)) (frees xs)) held
        ∙ (rest j found ∙ (ap (λ b. suc (cond b (suc (frees (set xs j k))) (frees (set xs j k)))) (sym held) ∙ ap (λ n. suc (frees (set (x ∷ xs) n k))) e))

    by_free : ((j : ℕ) → spot is_free xs ≡ Some j → frees xs ≡ suc (frees (set xs j k))) → (b : Bool) → is_free x ≡ b → cond b (Some 0) (option_map suc (spot is_free xs)) ≡ Some i → frees (x ∷ xs) ≡ suc (frees (set (x ∷ xs) i k))
    by_free rest true free at =
        let e : 0 ≡ i = cc in
        ap (λ b. cond b (suc (frees xs)) (frees xs)) free ∙ (ap (λ b. suc (cond b (suc (frees xs)) (frees xs))) (sym taken) ∙ ap (λ n. suc (frees (set (x ∷ xs) n k))) e)
    by_free rest false held at = by_rest rest (spot is_free xs) refl at held

-- the lowest free local is taken
pub frees_taken : (ks : List Kind) (i : ℕ) (k : Kind) → position is_free ks ≡ Some i → is_free k ≡ false → frees ks ≡ suc (frees (set ks i k))
frees_taken ks i k at taken = spot_taken ks i k (sym (position_spot is_free ks) ∙ at) taken

-- ---- after a block, and after branches

pub length_paired : (f : Kind → Kind → Kind) (ks ls : List Kind) → length ks ≡ length ls → length (paired f ks ls) ≡ length ks
unfolding paired
length_paired f [] ls count = refl
length_paired f (k ∷ ks) [] count = absurd (omega (arith, count))
length_paired f (k ∷ ks) (l ∷ ls) count = ap suc (length_paired f ks ls (omega (arith, count)))

pub met_free : (k l : Kind) (b : Bool) → is_free k ≡ b → is_free l ≡ b → is_free (met_kind k l) ≡ b
met_free k l b one other = by_live (is_live l)
  where
    by_live : (live : Bool) → is_free (cond live k l) ≡ b
    by_live true = one
    by_live false = other
