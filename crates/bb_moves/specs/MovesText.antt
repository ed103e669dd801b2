-- The moves of a text, or its first fault: line by line, from the top. A move is one line, except for a post and an
-- answer: these have a line for each of their asks, between `post` or `answer` and `end`.
use Rattle.std.specs.Prelude.{ℕ, Bool, true, ◌+◌, ◌==◌, List, [], ◌∷◌, ◌++◌, length, Option, Some, None, Result}
use Rattle.std.specs.Prelude.{Ok, Err, if◌then◌else◌}
use Rattle.std.specs.Str.{trim}
use Rattle.std.specs.Str.Lines.{lines}
use Rattle.bb_basis.specs.Results.{◌>>=◌, ok_or, try_fold_at}
use Rattle.bb_schema.specs.Schema.{Schema}
use Rattle.bb_shell.specs.Ask.{Ask}
use Rattle.bb_run_held.specs.Moves.{Move, one_turn, advance, post, answer}
use Rattle.bb_moves.specs.Asks.{ask_of}
use Rattle.bb_moves.specs.Faults.{fault_at}
use Rattle.bb_moves.specs.Keywords.{keyword_of}
use Rattle.bb_moves.specs.Words.{behind, count_of, first, nothing_in}
use Rattle.bb_moves.specs.declared.fault.MovesFault.{MovesFault}
use Rattle.bb_moves.specs.declared.fault.MovesFault.TheVariants.{At}
use Rattle.bb_moves.specs.declared.fault.MovesFlaw.TheVariants.{Word, Place, End as Open}
use Rattle.bb_moves.specs.declared.fault.Slip.{Slip}
use Rattle.bb_moves.specs.declared.fault.Slip.TheVariants.{Flaw}
use Rattle.bb_moves.specs.declared.keyword.Gathering.{Gathering}
use Rattle.bb_moves.specs.declared.keyword.Gathering.TheVariants as gatherings
use Rattle.bb_moves.specs.declared.keyword.Keyword.{Keyword}
use Rattle.bb_moves.specs.declared.keyword.Keyword.TheVariants as keywords

-- gathered asks, and what they are gathered for
pub record Asks : Type 0 where
  pub gathering : Gathering
  pub asks : List Ask

-- the move that they make
abbrev pub move_by : Gathering → List Ask → Move
move_by gatherings.Post asks = post asks
move_by gatherings.Answer asks = answer asks

abbrev pub move_of : Asks → Move
move_of g = move_by g.gathering g.asks

-- another ask
abbrev pub one_more : Asks → Ask → Asks
one_more g ask = record { gathering = g.gathering; asks = g.asks ++ ask ∷ [] }

-- what was read so far
pub record Progress : Type 0 where
  pub moves : List Move
  -- the asks whose `end` is yet to come
  pub gathered : Option Asks

-- nothing was read
abbrev pub nothing_read : Progress
nothing_read = record { moves = []; gathered = None }

-- another move
abbrev pub with_move : Progress → Move → Progress
with_move p m = record { moves = p.moves ++ m ∷ []; gathered = p.gathered }

-- these asks are gathered
abbrev pub with_asks : Progress → Asks → Progress
with_asks p g = record { moves = p.moves; gathered = Some g }

-- a line has no meaning if it is empty or begins with `#`
abbrev pub says_nothing : List ℕ → Bool
says_nothing [] = true
says_nothing (b ∷ bs) = b == 35

-- after `turn`, `advance N`, `post` or `answer`
unfoldable pub after_move : Progress → Keyword → List ℕ → Result Progress Slip
after_move p keywords.Turn text = do
  nothing ← nothing_in text
  Ok (with_move p one_turn)
after_move p keywords.Advance text = do
  cycles ← count_of text
  Ok (with_move p (advance cycles))
after_move p (keywords.Gather gathering) text = do
  nothing ← nothing_in text
  Ok (with_asks p (record { gathering = gathering; asks = [] }))
after_move p keywords.End text = Err (Flaw Place)
after_move p (keywords.Ask word) text = Err (Flaw Place)

-- after a line while no asks are gathered
unfoldable pub outside : Progress → List ℕ → Result Progress Slip
outside p line = do
  keyword ← ok_or (keyword_of (first line)) (Flaw Word)
  after_move p keyword (behind line)

-- after an ask, or `end`, while these asks are gathered
abbrev pub after_ask : Schema → Progress → Asks → Keyword → List ℕ → Result Progress Slip
after_ask schema p g (keywords.Ask word) text = do
  ask ← ask_of schema word text
  Ok (with_asks p (one_more g ask))
after_ask schema p g keywords.End text = do
  nothing ← nothing_in text
  Ok (with_move p (move_of g))
after_ask schema p g keywords.Turn text = Err (Flaw Place)
after_ask schema p g keywords.Advance text = Err (Flaw Place)
after_ask schema p g (keywords.Gather gathering) text = Err (Flaw Place)

-- after a line while these asks are gathered
unfoldable pub inside : Schema → Progress → Asks → List ℕ → Result Progress Slip
inside schema p g line = do
  keyword ← ok_or (keyword_of (first line)) (Flaw Word)
  after_ask schema p g keyword (behind line)

-- after a line with a meaning, with the gathered asks given apart
abbrev pub after_words : Schema → Progress → Option Asks → List ℕ → Result Progress Slip
after_words schema p None line = outside p line
after_words schema p (Some g) line = inside schema p g line

-- after a line; white space at its ends has no meaning
unfoldable pub after_line : Schema → Progress → List ℕ → Result Progress Slip
after_line schema p line =
    if says_nothing (trim line) then Ok p
    else after_words schema (record { moves = p.moves; gathered = None }) p.gathered (trim line)

-- the moves, if no asks are gathered; else the line of the fault is the one after the last
abbrev pub all_ended : (lines : ℕ) → List Move → Option Asks → Result (List Move) MovesFault
all_ended lines moves None = Ok moves
all_ended lines moves (Some g) = Err (At (lines + 1) Open)

abbrev pub at_end : (lines : ℕ) → Progress → Result (List Move) MovesFault
at_end lines p = all_ended lines p.moves p.gathered

unfoldable pub moves_of : Schema → List ℕ → Result (List Move) MovesFault
moves_of schema text = do
  p ← try_fold_at fault_at (after_line schema) 0 nothing_read (lines text)
  at_end (length (lines text)) p
