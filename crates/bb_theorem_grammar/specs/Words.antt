-- Names, numbers and text constants.
use Rattle.std.specs.Prelude.{◌≡◌, ℕ, ◌≤◌, ◌<◌, ◌-◌, ◌^◌, ℤ, pos, neg_ℤ, true, false, List, [], ◌∷◌, ◌++◌, length, codes}
use Rattle.std.specs.List.{list_any}
use Rattle.std.specs.Str.{bytes_eq}
use Rattle.std.specs.Str.Lossy.{utf8_lossy}
use Rattle.bb_basis.specs.Names.{is_name}
use Rattle.bb_lang_tree.specs.declared.scan.TokenKind.TheVariants as kinds
use Rattle.bb_lang_tree.specs.declared.literals.TheConstants.{TEXT_LIMIT}
use Rattle.bb_lang_tree.specs.State.{State}
use Rattle.bb_lang_tree.specs.Words.{is_reserved}
use Rattle.bb_lang_tree.specs.Literals.{with_digits}
use Rattle.bb_theorem_grammar.specs.Tokens.{IsQuoted, Next, Takes}

-- ---- names

-- NAME after a `.`: any word that is a name
pub record IsMember (word : List ℕ) (s t : State) : Type 0 where
  pub kind : s.kind ≡ kinds.Word
  pub takes : Takes word s t
  pub is_name : is_name word ≡ true

-- NAME: a name that is not reserved
pub record IsName (word : List ℕ) (s t : State) : Type 0 where
  pub member : IsMember word s t
  pub free : is_reserved word ≡ false

-- the state with another name in scope
abbrev pub with_name : List ℕ → State → State
with_name word s = record s { scope = s.scope ++ word ∷ [] }

-- NAME in a declaration: it is not in scope yet, and is from there on
pub record Declares (word : List ℕ) (s t : State) : Type 0 where
  pub kind : s.kind ≡ kinds.Word
  pub is : s.token ≡ word
  pub is_name : is_name word ≡ true
  pub free : is_reserved word ≡ false
  pub new : list_any (bytes_eq word) s.scope ≡ false
  pub next : Next (with_name word s) t

-- ---- numbers

-- INT, a number up to a limit
pub record IsNumber (limit n : ℕ) (s t : State) : Type 0 where
  pub kind : s.kind ≡ kinds.Int
  pub is : with_digits 0 s.token ≡ n
  pub within : n ≤ limit
  pub next : Next s t

-- int = [ "-" ] INT
pub data IsInt : ℤ → State → State → Type 0 where
  plain : {n : ℕ} {s t : State} → IsNumber (2 ^ 63 - 1) n s t → IsInt (pos n) s t
  minus : {n : ℕ} {s t u : State} → Takes (codes "-") s t → IsNumber (2 ^ 63) n t u → IsInt (neg_ℤ (pos n)) s u

-- INT as a divisor, which is not 0
pub data IsDivisor : ℤ → State → State → Type 0 where
  above_zero : {n : ℕ} {s t : State} → 0 < n → IsNumber (2 ^ 63 - 1) n s t → IsDivisor (pos n) s t

-- ---- text constants

-- TEXT, whose value has at most `TEXT_LIMIT` bytes. They are UTF-8 if the whole text is; `utf8_lossy` then leaves them
-- unchanged
pub record IsText (bytes : List ℕ) (s t : State) : Type 0 where
  pub kind : s.kind ≡ kinds.Text
  -- the bytes after the opening quote, and their value
  pub quoted : List ℕ
  pub value : List ℕ
  pub token : s.token ≡ 34 ∷ quoted
  pub stands_for : IsQuoted value quoted
  pub within : length value ≤ TEXT_LIMIT
  pub is : bytes ≡ utf8_lossy value
  pub next : Next s t
