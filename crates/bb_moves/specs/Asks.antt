-- The asks of a post or an answer, each from the text after its first word.
use Rattle.std.specs.Prelude.{ℕ, List, Result, Ok}
use Rattle.bb_basis.specs.Results.{◌>>=◌}
use Rattle.bb_schema.specs.Schema.{Schema}
use Rattle.bb_shell.specs.Ask.{Ask}
use Rattle.bb_shell.specs.Ask.TheVariants.{New, Delete, Set, Link, Unlink, Enter, Leave, Say}
use Rattle.bb_moves.specs.Values.{text_of, value_of}
use Rattle.bb_moves.specs.Words.{behind, first, name_of, number_of}
use Rattle.bb_moves.specs.declared.keyword.AskWord.{AskWord}
use Rattle.bb_moves.specs.declared.keyword.AskWord.TheVariants as words
use Rattle.bb_moves.specs.declared.fault.Slip.{Slip}

-- `new CLASS`
unfoldable pub new_of : List ℕ → Result Ask Slip
new_of text = do
  class ← name_of text
  Ok (New class)

-- `delete U`
unfoldable pub delete_of : List ℕ → Result Ask Slip
delete_of text = do
  unit ← number_of text
  Ok (Delete unit)

-- `set U SLOT VALUE`
unfoldable pub set_of : Schema → List ℕ → Result Ask Slip
set_of schema text = do
  unit ← number_of (first text)
  slot ← name_of (first (behind text))
  value ← value_of schema (behind (behind text))
  Ok (Set unit slot value)

-- `link U SLOT U`
unfoldable pub link_of : List ℕ → Result Ask Slip
link_of text = do
  unit ← number_of (first text)
  slot ← name_of (first (behind text))
  other ← number_of (behind (behind text))
  Ok (Link unit slot other)

-- `unlink U SLOT U`
unfoldable pub unlink_of : List ℕ → Result Ask Slip
unlink_of text = do
  unit ← number_of (first text)
  slot ← name_of (first (behind text))
  other ← number_of (behind (behind text))
  Ok (Unlink unit slot other)

-- `enter U SPACE`
unfoldable pub enter_of : List ℕ → Result Ask Slip
enter_of text = do
  unit ← number_of (first text)
  space ← name_of (behind text)
  Ok (Enter unit space)

-- `leave U SPACE`
unfoldable pub leave_of : List ℕ → Result Ask Slip
leave_of text = do
  unit ← number_of (first text)
  space ← name_of (behind text)
  Ok (Leave unit space)

-- `say TEXT`
unfoldable pub say_of : List ℕ → Result Ask Slip
say_of text = do
  said ← text_of text
  Ok (Say said)

-- the ask of a word, from the text after the word
abbrev pub ask_of : Schema → AskWord → List ℕ → Result Ask Slip
ask_of schema words.New text = new_of text
ask_of schema words.Delete text = delete_of text
ask_of schema words.Set text = set_of schema text
ask_of schema words.Link text = link_of text
ask_of schema words.Unlink text = unlink_of text
ask_of schema words.Enter text = enter_of text
ask_of schema words.Leave text = leave_of text
ask_of schema words.Say text = say_of text
