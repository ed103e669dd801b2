-- What a line is, by its first word.
use Rattle.std.specs.Prelude.{ℕ, List, Option, Some, None, option_map, codes, if◌then◌else◌}
use Rattle.std.specs.Str.{bytes_eq}
use Rattle.bb_moves.specs.declared.keyword.Keyword.{Keyword}
use Rattle.bb_moves.specs.declared.keyword.Keyword.TheVariants.{Turn, Advance, Gather, End, Ask}
use Rattle.bb_moves.specs.declared.keyword.Gathering.TheVariants.{Post, Answer}
use Rattle.bb_moves.specs.declared.keyword.AskWord.{AskWord}
use Rattle.bb_moves.specs.declared.keyword.AskWord.TheVariants.{New, Delete, Set, Link, Unlink, Enter, Leave, Say}

-- the ask that a word begins
unfoldable pub ask_word_of : List ℕ → Option AskWord
ask_word_of word =
    if bytes_eq word (codes "new") then Some New
    else if bytes_eq word (codes "delete") then Some Delete
    else if bytes_eq word (codes "set") then Some Set
    else if bytes_eq word (codes "link") then Some Link
    else if bytes_eq word (codes "unlink") then Some Unlink
    else if bytes_eq word (codes "enter") then Some Enter
    else if bytes_eq word (codes "leave") then Some Leave
    else if bytes_eq word (codes "say") then Some Say
    else None

-- a move, the end of asks, or an ask
unfoldable pub keyword_of : List ℕ → Option Keyword
keyword_of word =
    if bytes_eq word (codes "turn") then Some Turn
    else if bytes_eq word (codes "advance") then Some Advance
    else if bytes_eq word (codes "post") then Some (Gather Post)
    else if bytes_eq word (codes "answer") then Some (Gather Answer)
    else if bytes_eq word (codes "end") then Some End
    else option_map Ask (ask_word_of word)
