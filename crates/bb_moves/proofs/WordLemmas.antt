-- A text is cut at the first byte of a number.
use Rattle.std.proofs.Common.{◌≡◌, ◌≢◌, ℕ, ◌<◌, false, List, [], ◌∷◌, ◌++◌, length, get_or, cond, Option, Some, None, refl, sym, ap, ◌∙◌, eq-eqb, Bor}
use Rattle.std.specs.Prelude.{◌==◌, All, MatchOption, option_map}
use Rattle.std.proofs.lemmas.Bool.{ne_eqb}
use Rattle.std.proofs.lemmas.List.Elements.{All-head, All-tail, All-from_get_or}
use Rattle.bb_moves.specs.Words.{split_at}

abbrev put_front : ℕ → List ℕ × List ℕ → List ℕ × List ℕ
put_front b p = (b ∷ p.0, p.1)

module _ (byte : ℕ) where
  split_at_later : (b : ℕ) (bs : List ℕ) → (b == byte) ≡ false → split_at byte (b ∷ bs) ≡ option_map (put_front b) (split_at byte bs)
  unfolding split_at
  split_at_later b bs other = ap (λ t. cond t (Some ([], bs)) (option_map (put_front b) (split_at byte bs))) other

  pub split_at_first : (front back : List ℕ) → All (λ b. (b == byte) ≡ false) front → split_at byte (front ++ byte ∷ back) ≡ Some (front, back)
  unfolding split_at
  split_at_first [] back h = ap (λ t. cond t (Some ([], back)) (option_map (put_front byte) (split_at byte back))) (eq-eqb byte byte refl)
  split_at_first (b ∷ bs) back h =
      split_at_later b (bs ++ byte ∷ back) (All-head (λ b. (b == byte) ≡ false) b bs h)
      ∙ ap (option_map (put_front b)) (split_at_first bs back (All-tail (λ b. (b == byte) ≡ false) b bs h))

  pub missed : (text : List ℕ) → All (λ b. (b == byte) ≡ false) text → split_at byte text ≡ None
  unfolding split_at
  missed [] h = refl
  missed (b ∷ bs) h =
      split_at_later b bs (All-head (λ b. (b == byte) ≡ false) b bs h)
      ∙ ap (option_map (put_front b)) (missed bs (All-tail (λ b. (b == byte) ≡ false) b bs h))

  lacks : (bs : List ℕ) → ((i : ℕ) → i < length bs → get_or bs i 0 ≢ byte) → All (λ b. (b == byte) ≡ false) bs
  lacks bs h = All-from_get_or (λ b. (b == byte) ≡ false) bs 0 (λ i lt. ne_eqb (get_or bs i 0) byte (h i lt))

  -- what `split_once` gives at the byte
  pub split_once_at : (text : List ℕ) (r : Option (Bor (List ℕ) × Bor (List ℕ)))
      → MatchOption r ((i : ℕ) → i < length text → get_or text i 0 ≢ byte) (λ x. (text ≡ x.0.now ++ (byte ∷ x.1.now)) × ((i : ℕ) → i < length x.0.now → get_or x.0.now i 0 ≢ byte))
      → option_map (λ p. (p.0.now, p.1.now)) r ≡ split_at byte text
  split_once_at text None h = sym (missed text (lacks text h))
  split_once_at text (Some x) h = sym (split_at_first x.0.now x.1.now (lacks x.0.now h.1)) ∙ ap (split_at byte) (sym h.0)
