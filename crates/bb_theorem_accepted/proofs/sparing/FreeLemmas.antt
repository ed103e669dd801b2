-- Where a local is free there is a lowest one, and what locals hold after blocks and branches, local by local.
use Rattle.std.proofs.Common.{◌≡◌, ℕ, zero, suc, ◌≤◌, Bool, true, false, cond, List, [], ◌∷◌, length, Some, refl, ap, ◌∙◌, arith}
use Rattle.std.specs.Prelude.{position, option_map}
use Rattle.bb_basis.proofs.PositionLemmas.{spot, position_spot}
use Rattle.bb_code.specs.declared.frame.Kind.{Kind}
use Rattle.bb_compile_scope.specs.LocalKinds.{is_free, kind_at, paired, left_kind, kinds_left, met_kind, kinds_met}
use Rattle.bb_compile_scope.proofs.Laws.{frees}
use Rattle.bb_theorem_accepted.proofs.kinds.KnowLemmas.{left_at}

spot_free : (ks : List Kind) → 1 ≤ frees ks → (i : ℕ) × (spot is_free ks ≡ Some i)
spot_free [] some = absurd (omega (arith, some))
spot_free (x ∷ xs) some = by_free (spot_free xs) (is_free x) refl
  where
    by_free : (1 ≤ frees xs → (i : ℕ) × (spot is_free xs ≡ Some i)) → (b : Bool) → is_free x ≡ b → (i : ℕ) × (spot is_free (x ∷ xs) ≡ Some i)
    by_free more true free = (0, ap (λ b. cond b (Some 0) (option_map suc (spot is_free xs))) free)
    by_free more false held =
        let fewer : frees (x ∷ xs) ≡ frees xs = ap (λ b. cond b (suc (frees xs)) (frees xs)) held in
        let rest = more (omega (arith, some, fewer)) in
        (suc rest.0, ap (λ b. cond b (Some 0) (option_map suc (spot is_free xs))) held ∙ ap (option_map suc) rest.1)

pub has_free : (ks : List Kind) → 1 ≤ frees ks → (i : ℕ) × (position is_free ks ≡ Some i)
has_free ks some = let at = spot_free ks some in (at.0, position_spot is_free ks ∙ at.1)

-- ---- after a block, and after branches

pub left_free : (ks ls : List Kind) (i : ℕ) → (is_free (kind_at ks i) ≡ false → is_free (kind_at ls i) ≡ false) → is_free (kind_at (kinds_left ks ls) i) ≡ is_free (kind_at ks i)
left_free ks ls i taken = ap is_free (left_at ks ls i) ∙ by_free (is_free (kind_at ks i)) refl
  where
    by_free : (b : Bool) → is_free (kind_at ks i) ≡ b → is_free (left_kind (kind_at ks i) (kind_at ls i)) ≡ is_free (kind_at ks i)
    by_free true free = rw free refl
    by_free false held = rw held (taken held)

pub met_is : (ks ls : List Kind) (i : ℕ) → length ks ≡ length ls → kind_at (kinds_met ks ls) i ≡ met_kind (kind_at ks i) (kind_at ls i)
unfolding paired
met_is [] [] i count = refl
met_is [] (l ∷ ls) i count = absurd (omega (arith, count))
met_is (k ∷ ks) [] i count = absurd (omega (arith, count))
met_is (k ∷ ks) (l ∷ ls) zero count = refl
met_is (k ∷ ks) (l ∷ ls) (suc i) count = met_is ks ls i (omega (arith, count))
