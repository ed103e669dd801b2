-- One more number of a range, and what comes of it.
use Rattle.std.proofs.Common.{◌≡◌, ℕ, ◌+◌, zero, suc, Bool, true, false, cond, List, [], ◌∷◌, ◌++◌, map, Option, Some, None, sym, ap, ◌∙◌, append_assoc, add-zero, add-one, arith}
use Rattle.std.specs.List.{cons_option, filter, filter_map, range_with_len}
use Rattle.std.proofs.lemmas.List.Elements.{filter_map-append, filter-append}
use Rattle.std.proofs.lemmas.List.{append-nil, map-append}

range_suc : (a n : ℕ) → range_with_len a (suc n) ≡ range_with_len a n ++ (a + n) ∷ []
range_suc a zero = ap (λ x. x ∷ []) (sym (add-zero a))
range_suc a (suc n) =
    let at : a + 1 + n ≡ a + suc n = omega arith in
    ap (λ xs. a ∷ xs) (range_suc (a + 1) n ∙ ap (λ x. range_with_len (a + 1) n ++ x ∷ []) at)

-- the numbers from 0 on, and one more
range_more : (n : ℕ) → range_with_len 0 (n + 1) ≡ range_with_len 0 n ++ n ∷ []
range_more n =
    let at : 0 + n ≡ n = omega arith in
    ap (range_with_len 0) (add-one n) ∙ (range_suc 0 n ∙ ap (λ x. range_with_len 0 n ++ x ∷ []) at)

module _ {Y : Type 0} (f : ℕ → Option Y) (made before : List Y) (n : ℕ) where
  range_with_one : filter_map f (range_with_len 0 (n + 1)) ≡ filter_map f (range_with_len 0 n) ++ cons_option (f n) []
  range_with_one = ap (filter_map f) (range_more n) ∙ filter_map-append f (range_with_len 0 n) (n ∷ [])

  -- where the number gives something, that is appended
  pub put_told : (y : Y) → f n ≡ Some y → made ≡ before ++ filter_map f (range_with_len 0 n)
      → made ++ y ∷ [] ≡ before ++ filter_map f (range_with_len 0 (n + 1))
  put_told y is so_far =
      ap (λ xs. xs ++ y ∷ []) so_far
      ∙ (append_assoc before (filter_map f (range_with_len 0 n)) (y ∷ [])
      ∙ ap (λ xs. before ++ xs) (sym (range_with_one ∙ ap (λ o. filter_map f (range_with_len 0 n) ++ cons_option o []) is)))

  -- where the number gives nothing, the list is as it was
  pub left_told : f n ≡ None → made ≡ before ++ filter_map f (range_with_len 0 n)
      → made ≡ before ++ filter_map f (range_with_len 0 (n + 1))
  left_told is so_far =
      so_far
      ∙ ap (λ xs. before ++ xs) (sym (range_with_one ∙ (ap (λ o. filter_map f (range_with_len 0 n) ++ cons_option o []) is ∙ append-nil (filter_map f (range_with_len 0 n)))))

module _ {Y : Type 0} (g : ℕ → Y) (p : ℕ → Bool) (made before : List Y) (n : ℕ) where
  one_passes : map g (filter p (range_with_len 0 (n + 1))) ≡ map g (filter p (range_with_len 0 n)) ++ map g (cond (p n) (n ∷ []) [])
  one_passes =
      ap (λ xs. map g (filter p xs)) (range_more n)
      ∙ (ap (map g) (filter-append p (range_with_len 0 n) (n ∷ [])) ∙ map-append g (filter p (range_with_len 0 n)) (filter p (n ∷ [])))

  -- where the number passes, what is made of it is appended
  pub put_passed : p n ≡ true → made ≡ before ++ map g (filter p (range_with_len 0 n))
      → made ++ g n ∷ [] ≡ before ++ map g (filter p (range_with_len 0 (n + 1)))
  put_passed is so_far =
      ap (λ xs. xs ++ g n ∷ []) so_far
      ∙ (append_assoc before (map g (filter p (range_with_len 0 n))) (g n ∷ [])
      ∙ ap (λ xs. before ++ xs) (sym (one_passes ∙ ap (λ b. map g (filter p (range_with_len 0 n)) ++ map g (cond b (n ∷ []) [])) is)))

  pub left_passed : p n ≡ false → made ≡ before ++ map g (filter p (range_with_len 0 n))
      → made ≡ before ++ map g (filter p (range_with_len 0 (n + 1)))
  left_passed is so_far =
      so_far
      ∙ ap (λ xs. before ++ xs) (sym (one_passes ∙ (ap (λ b. map g (filter p (range_with_len 0 n)) ++ map g (cond b (n ∷ []) [])) is ∙ append-nil (map g (filter p (range_with_len 0 n))))))
