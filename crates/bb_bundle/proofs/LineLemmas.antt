-- What a line says, where the number of its words already tells, and where a word is cut at a dot.
use Rattle.std.proofs.Common.{◌≡◌, ℕ, List, [], ◌∷◌, ◌++◌, length, map, Some, None, false, cond, refl, ap, ◌∙◌, Bor}
use Rattle.std.specs.Prelude.{◌==◌, All, option_map}
use Rattle.std.proofs.lemmas.List.Elements.{All-head, All-tail}
use Rattle.bb_bundle.specs.Clauses.{split_dot}
use Rattle.bb_bundle.specs.Line.{header_of}

-- no header has another number of words than four
pub header_of-other : (ws : List (Bor (List ℕ))) → (length ws ≡ 4 → ⊥) → None ≡ header_of (map (λ w. w.now) ws)
unfolding header_of
header_of-other [] h = refl
header_of-other (a ∷ []) h = refl
header_of-other (a ∷ b ∷ []) h = refl
header_of-other (a ∷ b ∷ c ∷ []) h = refl
header_of-other (a ∷ b ∷ c ∷ d ∷ []) h = absurd (h refl)
header_of-other (a ∷ b ∷ c ∷ d ∷ e ∷ more) h = refl

-- a word is cut at its first dot
abbrev put_front : ℕ → List ℕ × List ℕ → List ℕ × List ℕ
put_front b p = (b ∷ p.0, p.1)

split_dot_step : (b : ℕ) (bs : List ℕ) → (b == 46) ≡ false → split_dot (b ∷ bs) ≡ option_map (put_front b) (split_dot bs)
unfolding split_dot
split_dot_step b bs other = ap (λ t. cond t (Some ([], bs)) (option_map (put_front b) (split_dot bs))) other

pub split_dot-at : (front back : List ℕ) → All (λ b. (b == 46) ≡ false) front → split_dot (front ++ 46 ∷ back) ≡ Some (front, back)
unfolding split_dot
split_dot-at [] back h = refl
split_dot-at (b ∷ bs) back h =
    split_dot_step b (bs ++ 46 ∷ back) (All-head (λ b. (b == 46) ≡ false) b bs h)
    ∙ ap (option_map (put_front b)) (split_dot-at bs back (All-tail (λ b. (b == 46) ≡ false) b bs h))

-- a word without a dot is not cut
pub split_dot-none : (word : List ℕ) → All (λ b. (b == 46) ≡ false) word → split_dot word ≡ None
unfolding split_dot
split_dot-none [] h = refl
split_dot-none (b ∷ bs) h =
    split_dot_step b bs (All-head (λ b. (b == 46) ≡ false) b bs h)
    ∙ ap (option_map (put_front b)) (split_dot-none bs (All-tail (λ b. (b == 46) ≡ false) b bs h))
