-- How many locals are free, locals of units that are deleted, and what two lists of locals give place by place.
use Rattle.std.proofs.Common.{◌≡◌, ℕ, zero, suc, ◌-◌, ◌≤◌, Bool, true, false, cond, List, [], ◌∷◌, length, map, Option, Some, None, refl, sym, ap, ◌∙◌, arith}
use Rattle.std.specs.Prelude.{set, position, option_map}
use Rattle.bb_basis.proofs.PositionLemmas.{spot}
use Rattle.bb_schema.specs.Ownership.{strikes}
use Rattle.bb_code.specs.declared.frame.Kind.{Kind}
use Rattle.bb_code.specs.declared.frame.Kind.TheVariants as kinds
use Rattle.bb_verify_effect.specs.Kinds.{struck}
use Rattle.bb_schema.specs.Schema.{Schema}
use Rattle.bb_compile_scope.specs.LocalKinds.{is_free, kind_at, paired}
use Rattle.bb_compile_scope.proofs.Laws.{frees, frees_taken}

-- ---- how many are free

-- the lowest free local is taken
pub frees_fewer : (ks : List Kind) (i : ℕ) (k : Kind) → position is_free ks ≡ Some i → is_free k ≡ false → frees (set ks i k) ≡ frees ks - 1
frees_fewer ks i k at taken = let one = frees_taken ks i k at taken in omega (arith, one)

-- one is free where there is a lowest one, and none where there is none
pub frees_some : (ks : List Kind) (i : ℕ) → position is_free ks ≡ Some i → 1 ≤ frees ks
frees_some ks i at = let one = frees_taken ks i kinds.Int at refl in omega (arith, one)

pub none_free : (ks : List Kind) → spot is_free ks ≡ None → frees ks ≡ 0
none_free [] h = refl
none_free (x ∷ xs) h = by_free (none_free xs) (is_free x) refl h
  where
    by_rest : (o : Option ℕ) → option_map suc o ≡ None → o ≡ None
    by_rest None h = refl
    by_rest (Some j) h = absurd cc

    by_free : (spot is_free xs ≡ None → frees xs ≡ 0) → (b : Bool) → is_free x ≡ b → cond b (Some 0) (option_map suc (spot is_free xs)) ≡ None → frees (x ∷ xs) ≡ 0
    by_free rest true free h = absurd cc
    by_free rest false held h = ap (λ b. cond b (suc (frees xs)) (frees xs)) held ∙ rest (by_rest (spot is_free xs) h)

-- a local that was taken is taken
pub frees_kept : (ks : List Kind) (i : ℕ) (k : Kind) → is_free (kind_at ks i) ≡ false → is_free k ≡ false → frees (set ks i k) ≡ frees ks
frees_kept [] i k was now = refl
frees_kept (x ∷ xs) zero k was now = ap (λ b. cond b (suc (frees xs)) (frees xs)) (now ∙ sym was)
frees_kept (x ∷ xs) (suc i) k was now = ap (λ n. cond (is_free x) (suc n) n) (frees_kept xs i k was now)

-- ---- a unit was deleted

pub struck_free : (s : Schema) (c : ℕ) (k : Kind) → is_free (struck s c k) ≡ is_free k
unfolding struck
struck_free s c (kinds.Ref d) = by_strike (strikes s c d)
  where
    by_strike : (b : Bool) → is_free (cond b (kinds.Old d) (kinds.Ref d)) ≡ false
    by_strike true = refl
    by_strike false = refl
struck_free s c kinds.Any = refl
struck_free s c kinds.Int = refl
struck_free s c kinds.Text = refl
struck_free s c kinds.Bool = refl
struck_free s c (kinds.Label set) = refl
struck_free s c kinds.Interval = refl
struck_free s c (kinds.Old d) = refl
struck_free s c (kinds.Seq d) = refl

pub length_struck : (s : Schema) (c : ℕ) (ks : List Kind) → length (map (struck s c) ks) ≡ length ks
length_struck s c [] = refl
length_struck s c (k ∷ ks) = ap suc (length_struck s c ks)

-- ---- after a block, and after branches

pub paired_at : (f : Kind → Kind → Kind) (ks ls : List Kind) (i : ℕ) → f kinds.Any kinds.Any ≡ kinds.Any → length ks ≡ length ls → kind_at (paired f ks ls) i ≡ f (kind_at ks i) (kind_at ls i)
unfolding paired
paired_at f [] [] i any count = sym any
paired_at f [] (l ∷ ls) i any count = absurd (omega (arith, count))
paired_at f (k ∷ ks) [] i any count = absurd (omega (arith, count))
paired_at f (k ∷ ks) (l ∷ ls) zero any count = refl
paired_at f (k ∷ ks) (l ∷ ls) (suc i) any count = paired_at f ks ls i any (omega (arith, count))
