-- Names and reserved words.
use Rattle.std.specs.Prelude.{ℕ, Bool, ◌==◌, List, [], ◌∷◌, ◌++◌, Result, Ok, Err, codes, if◌then◌else◌}
use Rattle.std.specs.List.{list_any, slice_split}
use Rattle.std.specs.Str.{bytes_eq}
use Rattle.bb_basis.specs.Names.{is_name}
use Rattle.bb_basis.specs.Results.{◌>>=◌}
use Rattle.bb_lang_tree.specs.declared.fault.LangFault.{LangFault}
use Rattle.bb_lang_tree.specs.declared.fault.LangFault.TheVariants.{Token, Twice, Limit}
use Rattle.bb_lang_tree.specs.Tokens.{is_word}
use Rattle.bb_lang_tree.specs.State.{State, Reader, next}

-- the reserved words, separated by spaces
abbrev pub reserved_words : List ℕ
reserved_words = codes "source on when create delete update link unlink enter leave quiescence rate require obviate retrigger revalidate do native let if else with as for in find new set say decline answer where all and or not within covers overlaps less more is true false min max low high size it ev"

unfoldable pub is_reserved : List ℕ → Bool
is_reserved word = list_any (bytes_eq word) (slice_split (λ b. b == 32) reserved_words)

-- after a `.` every word is a name, reserved or not; one that is too long is over the limit
unfoldable pub member_at : State → Result (List ℕ) LangFault
member_at s =
    if is_word s.kind then (if is_name s.token then Ok s.token else Err (Limit s.place)) else Err (Token s.place)

-- NAME: a word that is not reserved
unfoldable pub name_at : State → Result (List ℕ) LangFault
name_at s = if is_reserved s.token then Err (Token s.place) else member_at s

unfoldable pub member : Reader (List ℕ)
member s = do
  word ← member_at s
  t ← next s
  Ok (word, t)

unfoldable pub name : Reader (List ℕ)
name s = do
  word ← name_at s
  t ← next s
  Ok (word, t)

-- NAME in a declaration: it must not be in scope yet, and is from now on
unfoldable pub declared : Reader (List ℕ)
declared s = do
  word ← name_at s
  t ← if list_any (bytes_eq word) s.scope then Err (Twice s.place)
      else next (record s { scope = s.scope ++ word ∷ [] })
  Ok (word, t)
