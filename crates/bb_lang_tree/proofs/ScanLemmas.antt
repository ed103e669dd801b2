-- What is counted byte by byte is what the definitions of tokens count.
use Rattle.std.proofs.Common.{◌≡◌, ℕ, suc, ◌+◌, ◌-◌, ◌<◌, ◌≤◌, Bool, true, false, cond, List, ◌∷◌, length, get_or, take, drop, Option, Some, None, refl, sym, ap, ◌∙◌, add-one, arith}
use Rattle.std.specs.Prelude.{not, ◌==◌, nat_lt, option_map}
use Rattle.std.proofs.Math.Seq.{drop-cons}
use Rattle.std.proofs.Math.ListN.{drop_of_length-le}
use Rattle.std.proofs.lemmas.List.{take_rest}
use Rattle.bb_lang_tree.specs.Tokens.{is_blank, begins_comment, blank_len, is_escape, text_len}

pub next_byte : (s : List ℕ) (i : ℕ) → i < length s → drop i s ≡ get_or s i 0 ∷ drop (i + 1) s
next_byte s i lt = rw (add-one i) (drop-cons s i 0 lt)

pub yes : {A : Type 0} (b : Bool) (x y : A) → b ≡ true → cond b x y ≡ x
yes true x y h = refl
yes false x y h = absurd cc

pub no : {A : Type 0} (b : Bool) (x y : A) → b ≡ false → cond b x y ≡ y
no true x y h = absurd cc
no false x y h = refl

-- ---- blanks and comments

module _ (c : Bool) (b : ℕ) (rest : List ℕ) where
  pub in_comment : c ≡ true → blank_len c (b ∷ rest) ≡ suc (blank_len (not (b == 10)) rest)
  unfolding blank_len
  in_comment is = ap (λ x. blank_len x (b ∷ rest)) is

  not_in : c ≡ false → blank_len c (b ∷ rest) ≡ cond (is_blank b) (suc (blank_len false rest)) (cond (begins_comment (b ∷ rest)) (suc (blank_len true rest)) 0)
  unfolding blank_len
  not_in is = ap (λ x. blank_len x (b ∷ rest)) is

  pub at_blank : c ≡ false → is_blank b ≡ true → blank_len c (b ∷ rest) ≡ suc (blank_len false rest)
  at_blank is blank = not_in is ∙ yes (is_blank b) _ _ blank

  pub at_comment : c ≡ false → is_blank b ≡ false → begins_comment (b ∷ rest) ≡ true → blank_len c (b ∷ rest) ≡ suc (blank_len true rest)
  at_comment is blank begins = not_in is ∙ no (is_blank b) _ _ blank ∙ yes (begins_comment (b ∷ rest)) _ _ begins

  pub at_token : c ≡ false → is_blank b ≡ false → begins_comment (b ∷ rest) ≡ false → blank_len c (b ∷ rest) ≡ 0
  at_token is blank begins = not_in is ∙ no (is_blank b) _ _ blank ∙ no (begins_comment (b ∷ rest)) _ _ begins

module _ (s : List ℕ) (i : ℕ) where
  -- the test of a comment, as the code has it
  pub begins_of : (r b : Bool) → i < length s → r ≡ begins_comment (take (length s - i) (drop i s)) → r ≡ b → begins_comment (get_or s i 0 ∷ drop (i + 1) s) ≡ b
  begins_of r b lt is same = ap begins_comment (sym (next_byte s i lt) ∙ sym (take_rest s i)) ∙ sym is ∙ same

  pub blank_next : (total : ℕ) (c d : Bool) → i < length s → blank_len c (get_or s i 0 ∷ drop (i + 1) s) ≡ suc (blank_len d (drop (i + 1) s)) → i + blank_len c (drop i s) ≡ total → (i + 1) + blank_len d (drop (i + 1) s) ≡ total
  blank_next total c d lt one h = omega (arith, ap (blank_len c) (next_byte s i lt), one, h)

  pub blank_stop : (total : ℕ) (c : Bool) → i < length s → blank_len c (get_or s i 0 ∷ drop (i + 1) s) ≡ 0 → i + blank_len c (drop i s) ≡ total → i ≡ total
  blank_stop total c lt none h = omega (arith, ap (blank_len c) (next_byte s i lt), none, h)

  pub blank_end : (total : ℕ) (c : Bool) → length s ≤ i → i ≤ length s → i + blank_len c (drop i s) ≡ total → length s ≡ total
  unfolding blank_len
  blank_end total c over within h =
      let none : blank_len c (drop i s) ≡ 0 = ap (blank_len c) (drop_of_length-le s over) in
      omega (arith, none, h)

-- ---- text constants

module _ (c : Bool) (b : ℕ) (rest : List ℕ) where
  pub escaped : c ≡ true → text_len c (b ∷ rest) ≡ cond (is_escape b) (option_map (λ n. suc n) (text_len false rest)) None
  unfolding text_len
  escaped is = ap (λ x. text_len x (b ∷ rest)) is

  plain : c ≡ false → text_len c (b ∷ rest) ≡ cond (b == 34) (Some 1) (cond (nat_lt b 32) None (option_map (λ n. suc n) (text_len (b == 92) rest)))
  unfolding text_len
  plain is = ap (λ x. text_len x (b ∷ rest)) is

  pub at_escape : c ≡ true → is_escape b ≡ true → text_len c (b ∷ rest) ≡ option_map (λ n. suc n) (text_len false rest)
  at_escape is h = escaped is ∙ yes (is_escape b) _ _ h

  pub at_other_escape : c ≡ true → is_escape b ≡ false → text_len c (b ∷ rest) ≡ None
  at_other_escape is h = escaped is ∙ no (is_escape b) _ _ h

  pub at_quote : c ≡ false → (b == 34) ≡ true → text_len c (b ∷ rest) ≡ Some 1
  at_quote is h = plain is ∙ yes (b == 34) _ _ h

  pub at_control : c ≡ false → (b == 34) ≡ false → nat_lt b 32 ≡ true → text_len c (b ∷ rest) ≡ None
  at_control is q h = plain is ∙ no (b == 34) _ _ q ∙ yes (nat_lt b 32) _ _ h

  pub at_character : c ≡ false → (b == 34) ≡ false → nat_lt b 32 ≡ false → text_len c (b ∷ rest) ≡ option_map (λ n. suc n) (text_len (b == 92) rest)
  at_character is q h = plain is ∙ no (b == 34) _ _ q ∙ no (nat_lt b 32) _ _ h

one_later : (i : ℕ) (o : Option ℕ) → option_map (λ n. (i + 1) + n) o ≡ option_map (λ n. i + n) (option_map (λ n. suc n) o)
one_later i None = refl
one_later i (Some n) = let e : (i + 1) + n ≡ i + suc n = omega arith in ap (λ k. Some k) e

module _ (s : List ℕ) (i : ℕ) (total : Option ℕ) (c : Bool) where
  pub text_here : (o : Option ℕ) → i < length s → text_len c (get_or s i 0 ∷ drop (i + 1) s) ≡ o → option_map (λ n. i + n) (text_len c (drop i s)) ≡ total → option_map (λ n. i + n) o ≡ total
  text_here o lt is h = ap (option_map (λ n. i + n)) (sym is ∙ sym (ap (text_len c) (next_byte s i lt))) ∙ h

  pub text_next : (d : Bool) → i < length s → text_len c (get_or s i 0 ∷ drop (i + 1) s) ≡ option_map (λ n. suc n) (text_len d (drop (i + 1) s)) → option_map (λ n. i + n) (text_len c (drop i s)) ≡ total → option_map (λ n. (i + 1) + n) (text_len d (drop (i + 1) s)) ≡ total
  text_next d lt is h = one_later i (text_len d (drop (i + 1) s)) ∙ text_here (option_map (λ n. suc n) (text_len d (drop (i + 1) s))) lt is h

  pub text_end : length s ≤ i → option_map (λ n. i + n) (text_len c (drop i s)) ≡ total → None ≡ total
  unfolding text_len
  text_end over h = sym (ap (λ l. option_map (λ n. i + n) (text_len c l)) (drop_of_length-le s over)) ∙ h
