-- Words that stand on a line: no byte of theirs is a space or ends a line. So the line is split into them again.
use Rattle.std.proofs.Common.{◌≡◌, ℕ, ◌<◌, ◌≤◌, Bool, true, false, ◌&&◌, List, [], ◌∷◌, ◌++◌, length, refl, ap, ◌∙◌, lit<, inl, inr, arith}
use Rattle.std.specs.Prelude.{◌==◌, ◌||◌, nat_le, All}
use Rattle.std.specs.List.{list_all, slice_split, join_with_byte}
use Rattle.std.proofs.lemmas.Bool.{and_parts, and_from, or_cases, le-leb, leb-true, eqb-true, ne_eqb}
use Rattle.std.proofs.lemmas.List.Elements.{All-nil, All-cons}
use Rattle.std.proofs.lemmas.List.Folds.{list_all-append}
use Rattle.std.proofs.lemmas.List.Splits.{slice_split_none, slice_split_at}
use Rattle.bb_basis.specs.Names.{is_small_letter, is_digit, is_name_byte, starts_with_letter, is_name}

-- whether each byte is a number or more
abbrev pub from : ℕ → List ℕ → Bool
from low bs = list_all (nat_le low) bs

-- bytes that are not below a number do not equal one below it
pub lacks : (c low : ℕ) (bs : List ℕ) → c < low → from low bs ≡ true → All (λ b. (b == c) ≡ false) bs
lacks c low [] lt h = All-nil (λ b. (b == c) ≡ false)
lacks c low (b ∷ bs) lt h =
    let parts = and_parts (nat_le low b) (from low bs) h in
    let le : low ≤ b = leb-true low b parts.0 in
    All-cons (λ b. (b == c) ≡ false) b bs (ne_eqb b c (λ e. omega arith)) (lacks c low bs lt parts.1)

pub lower : (low high : ℕ) (bs : List ℕ) → low ≤ high → from high bs ≡ true → from low bs ≡ true
lower low high [] le h = refl
lower low high (b ∷ bs) le h =
    let parts = and_parts (nat_le high b) (from high bs) h in
    let above : high ≤ b = leb-true high b parts.0 in
    and_from (nat_le low b) (from low bs) (le-leb low b (omega arith)) (lower low high bs le parts.1)

pub from-append : (low : ℕ) (xs ys : List ℕ) → from low xs ≡ true → from low ys ≡ true → from low (xs ++ ys) ≡ true
from-append low xs ys x y = list_all-append (nat_le low) xs ys ∙ and_from (from low xs) (from low ys) x y

-- whether no byte of any word is a space or below it
abbrev pub are_words : List (List ℕ) → Bool
are_words ws = list_all (from 33) ws

-- a line of words has no byte below a space
pub joined_from : (ws : List (List ℕ)) → are_words ws ≡ true → from 32 (join_with_byte 32 ws) ≡ true
joined_from [] h = refl
joined_from (w ∷ []) h = lower 32 33 w (omega arith) (and_parts (from 33 w) true h).0
joined_from (w ∷ v ∷ ws) h =
    let parts = and_parts (from 33 w) (are_words (v ∷ ws)) h in
    from-append 32 w (32 ∷ join_with_byte 32 (v ∷ ws)) (lower 32 33 w (omega arith) parts.0) (joined_from (v ∷ ws) parts.1)

-- a line of words is split into these words
pub split_again : (w : List ℕ) (ws : List (List ℕ)) → are_words (w ∷ ws) ≡ true → slice_split (λ b. b == 32) (join_with_byte 32 (w ∷ ws)) ≡ w ∷ ws
split_again w [] h = slice_split_none (λ b. b == 32) w (lacks 32 33 w (lit< tt) (and_parts (from 33 w) true h).0)
split_again w (v ∷ ws) h =
    let parts = and_parts (from 33 w) (are_words (v ∷ ws)) h in
    slice_split_at (λ b. b == 32) w 32 (join_with_byte 32 (v ∷ ws)) (lacks 32 33 w (lit< tt) parts.0) refl
    ∙ ap (λ vs. w ∷ vs) (split_again v ws parts.1)

pub words1 : (a : List ℕ) → from 33 a ≡ true → are_words (a ∷ []) ≡ true
words1 a p = and_from (from 33 a) true p refl

pub words2 : (a b : List ℕ) → from 33 a ≡ true → from 33 b ≡ true → are_words (a ∷ b ∷ []) ≡ true
words2 a b p q = and_from (from 33 a) (are_words (b ∷ [])) p (words1 b q)

pub words3 : (a b c : List ℕ) → from 33 a ≡ true → from 33 b ≡ true → from 33 c ≡ true → are_words (a ∷ b ∷ c ∷ []) ≡ true
words3 a b c p q r = and_from (from 33 a) (are_words (b ∷ c ∷ [])) p (words2 b c q r)

pub words4 : (a b c d : List ℕ) → from 33 a ≡ true → from 33 b ≡ true → from 33 c ≡ true → from 33 d ≡ true → are_words (a ∷ b ∷ c ∷ d ∷ []) ≡ true
words4 a b c d p q r s = and_from (from 33 a) (are_words (b ∷ c ∷ d ∷ [])) p (words3 b c d q r s)

-- ---- names

name_byte_from : (b : ℕ) → is_name_byte b ≡ true → 48 ≤ b
name_byte_from b h =
    elim (or_cases (is_small_letter b || is_digit b) (b == 95) h) [
      | inl one ↦ elim (or_cases (is_small_letter b) (is_digit b) one) [
        | inl letter ↦ let low : 97 ≤ b = leb-true 97 b (and_parts (nat_le 97 b) (nat_le b 122) letter).0 in omega arith
        | inr digit ↦ leb-true 48 b (and_parts (nat_le 48 b) (nat_le b 57) digit).0
      ]
      | inr line ↦ let same : b ≡ 95 = eqb-true b 95 line in omega arith
    ]

name_bytes : (bs : List ℕ) → list_all is_name_byte bs ≡ true → from 48 bs ≡ true
name_bytes [] h = refl
name_bytes (b ∷ bs) h =
    let parts = and_parts (is_name_byte b) (list_all is_name_byte bs) h in
    and_from (nat_le 48 b) (from 48 bs) (le-leb 48 b (name_byte_from b parts.0)) (name_bytes bs parts.1)

-- no byte of a name is a dot, or below it
pub name_from : (name : List ℕ) → is_name name ≡ true → from 48 name ≡ true
unfolding is_name
name_from name h = name_bytes name (and_parts (starts_with_letter name) (list_all is_name_byte name) (and_parts (starts_with_letter name && list_all is_name_byte name) (nat_le (length name) 31) h).0).1

pub name_word : (name : List ℕ) → is_name name ≡ true → from 33 name ≡ true
name_word name h = lower 33 48 name (omega arith) (name_from name h)
