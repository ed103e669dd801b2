-- The state of parsing: the current token, and the text after it.
use Rattle.std.specs.Prelude.{ℕ, ◌+◌, Bool, List, [], length, take, drop, Result, Ok, Err, false, if◌then◌else◌}
use Rattle.std.specs.Str.{bytes_eq}
use Rattle.bb_basis.specs.Results.{◌>>=◌, ok_or}
use Rattle.bb_lang_tree.specs.declared.fault.LangFault.{LangFault}
use Rattle.bb_lang_tree.specs.declared.fault.LangFault.TheVariants.{Character, Token}
use Rattle.bb_lang_tree.specs.declared.place.Place.{Place}
use Rattle.bb_lang_tree.specs.declared.scan.TokenKind.{TokenKind}
use Rattle.bb_lang_tree.specs.declared.scan.TokenKind.TheVariants.{End}
use Rattle.bb_lang_tree.specs.Places.{start, place_after}
use Rattle.bb_lang_tree.specs.Tokens.{blank_len, token_at}

pub record State : Type 0 where
  -- the current token, and where it begins
  pub kind : TokenKind
  pub token : List ℕ
  pub place : Place
  -- the bytes after the token
  pub rest : List ℕ
  -- the names in scope, in the order in which they were declared
  pub scope : List (List ℕ)
  -- the names of the sources so far
  pub sources : List (List ℕ)

-- a reader returns what it read and the state after it, or a fault
abbrev pub Reader : Type 0 → Type 0
Reader X = State → Result (X × State) LangFault

-- the state before the first token
abbrev pub before : List ℕ → State
before text = record { kind = End; token = []; place = start; rest = text; scope = []; sources = [] }

-- the state at the token that begins with these bytes
unfoldable pub at_token : State → Place → List ℕ → Result State LangFault
at_token s place bytes = do
  t ← ok_or (token_at bytes) (Character place)
  Ok (record {
    kind = t.0;
    token = take t.1 bytes;
    place = place;
    rest = drop t.1 bytes;
    scope = s.scope;
    sources = s.sources;
  })

-- the state at the next token: blanks and comments are skipped
unfoldable pub next : State → Result State LangFault
next s =
    let blanks = blank_len false s.rest in
    at_token s (place_after (place_after s.place s.token) (take blanks s.rest)) (drop blanks s.rest)

-- whether the token is this symbol or word
abbrev pub at : List ℕ → State → Bool
at word s = bytes_eq s.token word

-- the state after this symbol or word; a fault if the token is another one
unfoldable pub skip : List ℕ → State → Result State LangFault
skip word s = if at word s then next s else Err (Token s.place)

-- the number of bytes left, including those of the token
abbrev pub left : State → ℕ
left s = length s.token + length s.rest

-- what contracts see of a `Parser`
pub record Parsing : Type 0 where
  -- the state of parsing
  pub state : State
  -- how many more brackets may be opened
  pub nesting : ℕ
