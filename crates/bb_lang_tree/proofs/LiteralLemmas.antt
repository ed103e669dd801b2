-- Numbers and text constants, byte by byte.
use Rattle.std.proofs.Common.{◌≡◌, ℕ, ◌+◌, ◌-◌, ◌*◌, ◌<◌, ◌≤◌, Bool, true, false, cond, List, [], ◌∷◌, ◌++◌, length, get_or, drop, Some, None, refl, sym, ap, ◌∙◌, arith, append_assoc}
use Rattle.std.specs.Prelude.{◌==◌, nat_le}
use Rattle.std.proofs.Math.ListN.{drop_of_length-le}
use Rattle.std.proofs.lemmas.Bool.{lt-leb}
use Rattle.std.proofs.lemmas.List.{append-nil}
use Rattle.bb_lang_tree.specs.Literals.{with_digits, escape_of, text_bytes}
use Rattle.bb_lang_tree.proofs.ScanLemmas.{next_byte, yes, no}

-- ---- numbers

-- more digits make no number smaller
grows : (n : ℕ) (ds : List ℕ) → n ≤ with_digits n ds
grows n [] = omega arith
grows n (d ∷ ds) = omega (arith, grows (n * 10 + (d - 48)) ds)

pub too_large : (s : List ℕ) (i n longer limit total : ℕ) → i < length s → longer ≡ n * 10 + (get_or s i 0 - 48) → limit < longer → with_digits n (drop i s) ≡ total → None ≡ cond (nat_le total limit) (Some total) None
too_large s i n longer limit total lt is over h =
    let same : with_digits longer (drop (i + 1) s) ≡ total = ap (λ k. with_digits k (drop (i + 1) s)) is ∙ sym (ap (with_digits n) (next_byte s i lt)) ∙ h in
    let above : limit < total = omega (arith, grows longer (drop (i + 1) s), same, over) in
    rw (lt-leb total limit above) refl

-- ---- text constants

module _ (c : Bool) (b : ℕ) (rest : List ℕ) where
  pub at_escape : c ≡ true → text_bytes c (b ∷ rest) ≡ escape_of b ∷ text_bytes false rest
  unfolding text_bytes
  at_escape is = ap (λ x. text_bytes x (b ∷ rest)) is

  plain : c ≡ false → text_bytes c (b ∷ rest) ≡ cond (b == 34) [] (cond (b == 92) (text_bytes true rest) (b ∷ text_bytes false rest))
  unfolding text_bytes
  plain is = ap (λ x. text_bytes x (b ∷ rest)) is

  pub at_quote : c ≡ false → (b == 34) ≡ true → text_bytes c (b ∷ rest) ≡ []
  at_quote is q = plain is ∙ yes (b == 34) _ _ q

  pub at_backslash : c ≡ false → (b == 34) ≡ false → (b == 92) ≡ true → text_bytes c (b ∷ rest) ≡ text_bytes true rest
  at_backslash is q h = plain is ∙ no (b == 34) _ _ q ∙ yes (b == 92) _ _ h

  pub at_plain : c ≡ false → (b == 34) ≡ false → (b == 92) ≡ false → text_bytes c (b ∷ rest) ≡ b ∷ text_bytes false rest
  at_plain is q h = plain is ∙ no (b == 34) _ _ q ∙ no (b == 92) _ _ h

module _ (s : List ℕ) (i : ℕ) (front total : List ℕ) (c : Bool) where
  pub bytes_here : (later : List ℕ) → i < length s → text_bytes c (get_or s i 0 ∷ drop (i + 1) s) ≡ later → front ++ text_bytes c (drop i s) ≡ total → front ++ later ≡ total
  bytes_here later lt is h = ap (λ l. front ++ l) (sym is ∙ sym (ap (text_bytes c) (next_byte s i lt))) ∙ h

  pub bytes_more : (new : List ℕ) (x : ℕ) (later : List ℕ) → new ≡ front ++ x ∷ [] → i < length s → text_bytes c (get_or s i 0 ∷ drop (i + 1) s) ≡ x ∷ later → front ++ text_bytes c (drop i s) ≡ total → new ++ later ≡ total
  bytes_more new x later made lt is h = ap (λ l. l ++ later) made ∙ append_assoc front (x ∷ []) later ∙ bytes_here (x ∷ later) lt is h

  pub bytes_stop : i < length s → text_bytes c (get_or s i 0 ∷ drop (i + 1) s) ≡ [] → front ++ text_bytes c (drop i s) ≡ total → front ≡ total
  bytes_stop lt is h = sym (append-nil front) ∙ bytes_here [] lt is h

  pub bytes_end : length s ≤ i → front ++ text_bytes c (drop i s) ≡ total → front ≡ total
  unfolding text_bytes
  bytes_end over h = sym (append-nil front) ∙ sym (ap (λ l. front ++ text_bytes c l) (drop_of_length-le s over)) ∙ h
