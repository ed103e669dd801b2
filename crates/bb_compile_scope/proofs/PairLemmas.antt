-- Loops over the locals that change each of them by that of another list.
use Rattle.std.proofs.Common.{◌≡◌, ℕ, zero, suc, ◌+◌, ◌<◌, ◌≤◌, List, [], ◌∷◌, ◌++◌, length, take, drop, get_or, set, refl, ap, ◌∙◌, arith}
use Rattle.bb_code.specs.declared.frame.Kind.{Kind}
use Rattle.bb_compile_scope.specs.LocalKinds.{paired}

module _ (f : Kind → Kind → Kind) (d : Kind) where
  -- the list after so many turns
  abbrev pub so_far : List Kind → List Kind → ℕ → List Kind
  so_far xs ys i = paired f (take i xs) (take i ys) ++ drop i ys

  one_turn : (xs ys : List Kind) (i : ℕ) → i < length xs → i < length ys → set (so_far xs ys i) i (f (get_or xs i d) (get_or (so_far xs ys i) i d)) ≡ so_far xs ys (suc i)
  unfolding paired
  one_turn [] ys i lt le = absurd (omega arith)
  one_turn (x ∷ xs) [] i lt le = absurd (omega arith)
  one_turn (x ∷ xs) (y ∷ ys) zero lt le = refl
  one_turn (x ∷ xs) (y ∷ ys) (suc i) lt le = ap (λ l. f x y ∷ l) (one_turn xs ys i (omega arith) (omega arith))

  pub pair_next : (xs ys ks : List Kind) (i : ℕ) (r : Kind) → i < length xs → length xs ≡ length ys → ks ≡ so_far xs ys i → r ≡ f (get_or xs i d) (get_or ks i d) → set ks i r ≡ so_far xs ys (i + 1)
  pair_next xs ys ks i r lt same is made =
      let turn = one_turn xs ys i lt (omega arith) in
      ap (set ks i) made ∙ ap (λ l. set l i (f (get_or xs i d) (get_or l i d))) is ∙ turn ∙ ap (so_far xs ys) (let e : suc i ≡ i + 1 = omega arith in e)

  so_far_is_paired : (xs ys : List Kind) (i : ℕ) → length xs ≡ length ys → length ys ≤ i → so_far xs ys i ≡ paired f xs ys
  unfolding paired
  so_far_is_paired [] [] zero same le = refl
  so_far_is_paired [] [] (suc i) same le = refl
  so_far_is_paired [] (y ∷ ys) i same le = absurd (omega arith)
  so_far_is_paired (x ∷ xs) [] i same le = absurd (omega arith)
  so_far_is_paired (x ∷ xs) (y ∷ ys) zero same le = absurd (omega arith)
  so_far_is_paired (x ∷ xs) (y ∷ ys) (suc i) same le = ap (λ l. f x y ∷ l) (so_far_is_paired xs ys i (omega arith) (omega arith))

  pub pair_end : (xs ys ks : List Kind) (i : ℕ) → length xs ≡ length ys → length ys ≤ i → ks ≡ so_far xs ys i → ks ≡ paired f xs ys
  pair_end xs ys ks i same le is = is ∙ so_far_is_paired xs ys i same le

  pub pair_begin : (xs ys : List Kind) → ys ≡ so_far xs ys 0
  unfolding paired
  pair_begin [] ys = refl
  pair_begin (x ∷ xs) ys = refl
