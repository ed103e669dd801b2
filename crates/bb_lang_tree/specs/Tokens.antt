-- How a text is divided into tokens.
use Rattle.std.specs.Prelude.{ℕ, suc, Bool, true, false, not, ◌&&◌, ◌||◌, ◌==◌, nat_lt, List, [], ◌∷◌, length, Option, Some, None, option_map, codes, if◌then◌else◌}
use Rattle.std.specs.List.{list_any, take_while}
use Rattle.bb_basis.specs.Names.{is_small_letter, is_digit, is_name_byte}
use Rattle.bb_lang_tree.specs.declared.scan.TokenKind.{TokenKind}
use Rattle.bb_lang_tree.specs.declared.scan.TokenKind.TheVariants.{Word, Int, Text, Symbol, End}

-- the kind of a token
abbrev pub is_word : TokenKind → Bool
is_word Word = true
is_word Int = false
is_word Text = false
is_word Symbol = false
is_word End = false

abbrev pub is_int : TokenKind → Bool
is_int Word = false
is_int Int = true
is_int Text = false
is_int Symbol = false
is_int End = false

abbrev pub is_text : TokenKind → Bool
is_text Word = false
is_text Int = false
is_text Text = true
is_text Symbol = false
is_text End = false

abbrev pub is_end : TokenKind → Bool
is_end Word = false
is_end Int = false
is_end Text = false
is_end Symbol = false
is_end End = true

-- a space, a tab, a carriage return or a line feed
abbrev pub is_blank : ℕ → Bool
is_blank b = (b == 32) || (b == 9) || (b == 13) || (b == 10)

-- `//`
abbrev pub begins_comment : List ℕ → Bool
begins_comment (a ∷ b ∷ bs) = (a == 47) && (b == 47)
begins_comment (a ∷ []) = false
begins_comment [] = false

-- the number of bytes of blanks and comments at the front. A comment runs to the end of its line
unfoldable pub blank_len : (in_comment : Bool) → List ℕ → ℕ
blank_len in_comment [] = 0
blank_len true (b ∷ bs) = suc (blank_len (not (b == 10)) bs)
blank_len false (b ∷ bs) =
    if is_blank b then suc (blank_len false bs)
    else if begins_comment (b ∷ bs) then suc (blank_len true bs)
    else 0

-- what may come after a `\`: a quote, another `\`, `n` or `t`
abbrev pub is_escape : ℕ → Bool
is_escape b = (b == 34) || (b == 92) || (b == 110) || (b == 116)

-- the number of bytes a text constant has after its opening quote, including the closing one; `None` if it does not
-- end, has another escape, or has a control character
unfoldable pub text_len : (escaped : Bool) → List ℕ → Option ℕ
text_len escaped [] = None
text_len true (b ∷ bs) = if is_escape b then option_map (λ n. suc n) (text_len false bs) else None
text_len false (b ∷ bs) =
    if b == 34 then Some 1
    else if nat_lt b 32 then None
    else option_map (λ n. suc n) (text_len (b == 92) bs)

-- the symbols of one byte
abbrev pub is_symbol : ℕ → Bool
is_symbol b = list_any (λ s. s == b) (codes "{}()[];,.:=<+-*/%")

-- `<=`
abbrev pub begins_at_most : List ℕ → Bool
begins_at_most (a ∷ b ∷ bs) = (a == 60) && (b == 61)
begins_at_most (a ∷ []) = false
begins_at_most [] = false

-- the kind and the length of the token that these bytes begin with, if there is one
unfoldable pub token_at : List ℕ → Option (TokenKind × ℕ)
token_at [] = Some (End, 0)
token_at (b ∷ bs) =
    if is_small_letter b then Some (Word, length (take_while is_name_byte (b ∷ bs)))
    else if is_digit b then Some (Int, length (take_while is_digit (b ∷ bs)))
    else if b == 34 then option_map (λ n. (Text, suc n)) (text_len false bs)
    else if begins_at_most (b ∷ bs) then Some (Symbol, 2)
    else if is_symbol b then Some (Symbol, 1)
    else None
