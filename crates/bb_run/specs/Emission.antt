-- What a part of a run emits, the state that it leaves, and how the run ends if it ends there.
use Rattle.std.specs.Prelude.{List, [], ◌∷◌, ◌++◌, Option, Some, None}
use Rattle.bb_trace.specs.End.{End}
use Rattle.bb_trace.specs.declared.note.Note.{Note}
use Rattle.bb_run.specs.State.{State}

pub record Emission (X : Type 0) : Type 0 where
  -- what is emitted, in order
  pub emitted : List X
  pub state : State
  pub end : Option End

-- a response to an event or a choice: it emits notes
abbrev pub Response : Type 0
Response = Emission Note

-- a stretch of a run: it emits segments, each a list of notes, and each is written whole
abbrev pub Stretch : Type 0
Stretch = Emission (List Note)

-- a part that emits this, and leaves this state and end
abbrev pub emitting : {X : Type 0} → List X → State → Option End → Emission X
emitting emitted s end = record { emitted = emitted; state = s; end = end }

-- nothing is emitted, and the run continues
abbrev pub idle : {X : Type 0} → State → Emission X
idle s = emitting [] s None

-- the run ends, and nothing more is emitted
abbrev pub over : {X : Type 0} → End → State → Emission X
over end s = emitting [] s (Some end)

-- a part, preceded by what was emitted before
abbrev pub after_emitted : {X : Type 0} → List X → Emission X → Emission X
after_emitted emitted p = emitting (emitted ++ p.emitted) p.state p.end

-- a part with this end, followed by the next unless the run is over
abbrev pub and_then_unless : {X : Type 0} → Option End → Emission X → (State → Emission X) → Emission X
and_then_unless (Some end) p next = p
and_then_unless None p next = after_emitted p.emitted (next p.state)

-- a part, followed by the next unless the run ends in the first
abbrev pub and_then : {X : Type 0} → Emission X → (State → Emission X) → Emission X
and_then p next = and_then_unless p.end p next

-- a response is emitted as one segment
abbrev pub segment : Response → Stretch
segment r = emitting (r.emitted ∷ []) r.state r.end
