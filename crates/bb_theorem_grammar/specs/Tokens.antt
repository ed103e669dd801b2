-- The tokens of a text, as a relation between two states: one at a token, and one at the next token.
use Rattle.std.specs.Prelude.{◌≡◌, ℕ, Bool, true, false, not, ◌&&◌, ◌==◌, nat_lt, List, [], ◌∷◌, ◌++◌}
use Rattle.std.specs.List.{list_all}
use Rattle.bb_basis.specs.Names.{is_small_letter, is_digit, is_name_byte}
use Rattle.bb_lang_tree.specs.declared.scan.TokenKind.{TokenKind}
use Rattle.bb_lang_tree.specs.declared.scan.TokenKind.TheVariants.{Word, Int, Text, Symbol, End}
use Rattle.bb_lang_tree.specs.Literals.{escape_of}
use Rattle.bb_lang_tree.specs.Places.{place_after}
use Rattle.bb_lang_tree.specs.State.{State}
use Rattle.bb_lang_tree.specs.Tokens.{is_blank, begins_comment, is_escape, is_symbol, begins_at_most}

-- ---- between tokens

-- whether these bytes begin with neither a blank nor a comment
abbrev pub is_at_token : List ℕ → Bool
is_at_token [] = true
is_at_token (b ∷ bs) = not (is_blank b) && not (begins_comment (b ∷ bs))

mutual
  -- blanks and comments, up to where `rest` begins
  pub data AreBlanks (rest : List ℕ) : List ℕ → Type 0 where
    no_more : is_at_token rest ≡ true → AreBlanks rest []
    blank : {b : ℕ} {bs : List ℕ} → is_blank b ≡ true → AreBlanks rest bs → AreBlanks rest (b ∷ bs)
    -- `//`
    comment : {bs : List ℕ} → IsComment rest bs → AreBlanks rest (47 ∷ 47 ∷ bs)

  -- the rest of a comment, which runs to the end of its line, and the blanks and comments after it
  pub data IsComment (rest : List ℕ) : List ℕ → Type 0 where
    text_ends : rest ≡ [] → IsComment rest []
    goes_on : {b : ℕ} {bs : List ℕ} → (b == 10) ≡ false → IsComment rest bs → IsComment rest (b ∷ bs)
    line_ends : {bs : List ℕ} → AreBlanks rest bs → IsComment rest (10 ∷ bs)

-- ---- tokens

-- whether the first of these bytes passes a test
abbrev pub first_passes : (ℕ → Bool) → List ℕ → Bool
first_passes test [] = false
first_passes test (b ∷ bs) = test b

-- the bytes after the opening quote of a text constant, including the closing one, and their value
pub data IsQuoted : (value : List ℕ) → List ℕ → Type 0 where
  closes : IsQuoted [] (34 ∷ [])
  -- `\`
  escape : {b : ℕ} {value bs : List ℕ}
      → is_escape b ≡ true → IsQuoted value bs → IsQuoted (escape_of b ∷ value) (92 ∷ b ∷ bs)
  character : {b : ℕ} {value bs : List ℕ}
      → (b == 34) ≡ false → (b == 92) ≡ false → nat_lt b 32 ≡ false
      → IsQuoted value bs → IsQuoted (b ∷ value) (b ∷ bs)

-- these bytes are a token of the kind, before `rest`: words, numbers and symbols are as long as they can be
pub data IsToken (rest : List ℕ) : TokenKind → List ℕ → Type 0 where
  word : {b : ℕ} {bs : List ℕ}
      → is_small_letter b ≡ true → list_all is_name_byte bs ≡ true → first_passes is_name_byte rest ≡ false
      → IsToken rest Word (b ∷ bs)
  int : {b : ℕ} {bs : List ℕ}
      → is_digit b ≡ true → list_all is_digit bs ≡ true → first_passes is_digit rest ≡ false
      → IsToken rest Int (b ∷ bs)
  text : {value bs : List ℕ} → IsQuoted value bs → IsToken rest Text (34 ∷ bs)
  -- `<=`
  at_most : IsToken rest Symbol (60 ∷ 61 ∷ [])
  symbol : {b : ℕ} → is_symbol b ≡ true → begins_at_most (b ∷ rest) ≡ false → IsToken rest Symbol (b ∷ [])
  end : rest ≡ [] → IsToken rest End []

-- tokens up to the end of the text, each with only blanks and comments before it; the last has no bytes
pub data IsCut : List ℕ → Type 0 where
  nothing_left : IsCut []
  token_first : {kind : TokenKind} {blanks token rest : List ℕ}
      → AreBlanks (token ++ rest) blanks → IsToken rest kind token → IsCut rest → IsCut (blanks ++ (token ++ rest))

-- ---- from one token to the next

-- t is at the token after that of s
pub record Next (s t : State) : Type 0 where
  pub blanks : List ℕ
  pub text : s.rest ≡ blanks ++ (t.token ++ t.rest)
  pub are_blanks : AreBlanks (t.token ++ t.rest) blanks
  pub is_token : IsToken t.rest t.kind t.token
  pub place : t.place ≡ place_after (place_after s.place s.token) blanks
  -- the names are the same
  pub scope : t.scope ≡ s.scope
  pub sources : t.sources ≡ s.sources

-- this symbol or word is the token from s to t
pub record Takes (token : List ℕ) (s t : State) : Type 0 where
  pub is : s.token ≡ token
  pub next : Next s t
