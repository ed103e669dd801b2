-- A run that its host holds: what each of its moves emits, and the run's state after it.
use Rattle.std.specs.Prelude.{ℕ, ◌+◌, Bool, true, false, List, [], ◌∷◌, ◌++◌, Option, Some, None}
use Rattle.bb_run.specs.Activation.{Activation}
use Rattle.bb_run.specs.Ask.{Ask}
use Rattle.bb_run.specs.Board.{Board as Blackboard}
use Rattle.bb_run.specs.End.{End}
use Rattle.bb_run.specs.End as ends
use Rattle.bb_run.specs.Native.{Native}
use Rattle.bb_run.specs.Note.{Note}
use Rattle.bb_run.specs.Note.TheVariants.{Posted, PostEnded}
use Rattle.bb_run.specs.Plan.{Plan}
use Rattle.bb_run.specs.Run.{asked, choice, cycles, start, with_finish}
use Rattle.bb_run.specs.State.{State}
use Rattle.bb_run.specs.Emission.{Stretch, after_emitted}
use Rattle.bb_run.specs.Turns.{answering, choices_of, posting, settled, turn}
use Rattle.bb_run_held.specs.declared.pause.Pause.{Pause}
use Rattle.bb_run_held.specs.declared.pause.Pause.TheVariants.{Going, Resting, Due, Over}

-- what a host lets a run do
pub data Move : Type 0 where
  -- a cycle, or quiescence if nothing can be chosen
  one_turn : Move
  -- up to `cycles` more cycles, then quiescence if nothing can be chosen
  advance : (cycles : ℕ) → Move
  -- asks about what happened outside
  post : List Ask → Move
  -- the asks of the native that is due
  answer : List Ask → Move

-- the state of a run between two moves
pub record Standing : Type 0 where
  pub state : State
  -- the number of cycles made
  pub made : ℕ
  pub pause : Pause

-- what a move emits, and the run's state after it
pub record Moved : Type 0 where
  pub emitted : List (List Note)
  pub standing : Standing

-- how a run pauses after a part of it that ended in this way
abbrev pub pause_by : Option End → Pause
pause_by None = Going
pause_by (Some ends.Limit) = Going
pause_by (Some ends.Quiescence) = Resting
pause_by (Some (ends.Due a)) = Due a
pause_by (Some end) = Over end

-- after a stretch, with this number of cycles made
abbrev pub after : (made : ℕ) → Stretch → Moved
after made p = record { emitted = p.emitted; standing = record { state = p.state; made = made; pause = pause_by p.end } }

-- the number of cycles after a turn: one more if something could be chosen
abbrev pub made_by : (made : ℕ) → Option Activation → ℕ
made_by made None = made
made_by made (Some a) = made + 1

-- asks may be posted: the run is not over, and no native is due
abbrev pub takes_posts : Pause → Bool
takes_posts (Due a) = false
takes_posts (Over end) = false
takes_posts _ = true

-- a native is due; no run is over because of that
abbrev pub is_due : Pause → Bool
is_due (Due a) = true
is_due (Over (ends.Due a)) = true
is_due _ = false

-- the first segment that a post emits: the note that asks follow, what the asks cause, in order, and their number,
-- unless the blackboard is full
abbrev pub post_segment : List Ask → State → List Note
post_segment asks s = Posted ∷ (asked PostEnded asks s).emitted

-- nothing happens
abbrev pub unmoved : Standing → Moved
unmoved t = record { emitted = []; standing = t }

-- after cycles, which are counted
abbrev pub advanced : Plan → (made count : ℕ) → State → Moved
advanced plan made count s = let p = cycles plan made count s in after (made + choices_of p) p

-- a move of a run with this pause; a move that can't be made there changes nothing
abbrev pub moved_in : Plan → Pause → Move → Standing → Moved
moved_in plan Going one_turn t = after (made_by t.made (choice plan t.state)) (turn plan t.made t.state)
moved_in plan Going (advance n) t = advanced plan t.made n t.state
moved_in plan Going (post asks) t = after t.made (posting plan asks t.state)
moved_in plan Resting (post asks) t = after t.made (posting plan asks t.state)
moved_in plan (Due a) (answer asks) t = after t.made (answering plan asks t.state)
moved_in plan _ _ t = unmoved t

abbrev pub moved : Plan → Move → Standing → Moved
moved plan m t = moved_in plan t.pause m t

-- moves in sequence
unfoldable pub played : Plan → List Move → Standing → Moved
played plan [] t = unmoved t
played plan (m ∷ ms) t =
    let p = moved plan m t in
    let q = played plan ms p.standing in
    record { emitted = p.emitted ++ q.emitted; standing = q.standing }

-- the start of a run: what the creation of the initial units noted is emitted, and its events are processed
abbrev pub started : Plan → Blackboard → List Native → Moved
started plan board natives = after 0 (start plan board natives)

-- the end of a run, if it has one; in the definitions, a run with a native due ends there
abbrev pub ended : Pause → Option End
ended Going = None
ended Resting = Some ends.Quiescence
ended (Due a) = Some (ends.Due a)
ended (Over end) = Some end

-- a run that its host ends, its finish last
abbrev pub finished : Plan → Standing → Stretch
finished plan t = with_finish (settled plan t.made (ended t.pause) t.state)

-- a run that its host begins, advances once by `limit` cycles, and ends
abbrev pub alone : Plan → Blackboard → List Native → (limit : ℕ) → Stretch
alone plan board natives limit =
    let first = started plan board natives in
    let moves = moved plan (advance limit) first.standing in
    let last = finished plan moves.standing in
    after_emitted first.emitted (after_emitted moves.emitted last)
