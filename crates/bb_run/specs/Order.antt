-- What every run is like. Most of it depends only on the notes.
use Rattle.std.specs.Prelude.{◌≡◌, ◌⊎◌, ℕ, ◌+◌, ◌≤◌, ℤ, Bool, false, ◌==◌, Some, None}
use Rattle.std.specs.Prelude.{List, [], ◌∷◌, ◌++◌, length, map, filter}
use Rattle.std.specs.List.{AllZip, flat_map, fold, list_any}
use Rattle.bb_agenda.specs.declared.focusing.activation.Activation.{Activation}
use Rattle.bb_agenda.specs.Agenda.{pending_of}
use Rattle.bb_agenda.specs.Changes.{other_than, rebased}
use Rattle.bb_agenda.specs.Chosen.{IsChosen}
use Rattle.bb_trace.specs.End.{End}
use Rattle.bb_trace.specs.End as ends
use Rattle.bb_trace.specs.declared.note.Note.{Note}
use Rattle.bb_trace.specs.declared.note.Note.TheVariants.{Triggered, Obviated, Retriggered, Chosen, Finished, Closed}
use Rattle.bb_trace.specs.Closing.{Closing}
use Rattle.bb_trace.specs.Native.{Native}
use Rattle.bb_trace.specs.Roster.{closings_of}
use Rattle.bb_run_plan.specs.Plan.{Plan}
use Rattle.bb_run.specs.Causes.{HasCause}
use Rattle.bb_run.specs.Emission.{Stretch}
use Rattle.bb_run.specs.Run.{choice, finish, rating}

-- ---- what notes report

-- all notes of segments, in order
abbrev pub all_of : List (List Note) → List Note
all_of segments = flat_map (λ segment. segment) segments

-- all notes of a stretch
abbrev pub notes_of : Stretch → List Note
notes_of p = all_of p.emitted

-- the note is one of these notes, and comes after the notes `before`
abbrev pub At : (notes before : List Note) → Note → Type 0
At notes before note = (after : List Note) × (notes ≡ before ++ note ∷ after)

-- the activation that a note reports as new, if any
abbrev pub triggered_by : Note → List Activation
triggered_by (Triggered a) = a ∷ []
triggered_by _ = []

-- the activation that a note reports as chosen, if any
abbrev pub chosen_by : Note → List Activation
chosen_by (Chosen cycle a r) = a ∷ []
chosen_by _ = []

-- the number of the activation that a note removes from the pending ones, if any
abbrev pub gone_by : Note → List ℕ
gone_by (Chosen cycle a r) = a.number ∷ []
gone_by (Obviated number) = number ∷ []
gone_by _ = []

-- the closing of a native that a note reports, if any
abbrev pub closed_by : Note → List Closing
closed_by (Closed closing) = closing ∷ []
closed_by _ = []

-- all activations that notes report as new
abbrev pub triggered_in : List Note → List Activation
triggered_in notes = flat_map triggered_by notes

-- all activations that notes report as chosen
abbrev pub chosen_in : List Note → List Activation
chosen_in notes = flat_map chosen_by notes

-- the numbers of all activations that notes remove from the pending ones
abbrev pub gone_in : List Note → List ℕ
gone_in notes = flat_map gone_by notes

-- all closings of natives that notes report
abbrev pub closed_in : List Note → List Closing
closed_in notes = flat_map closed_by notes

-- the number is one of these
abbrev pub is_among : ℕ → List ℕ → Bool
is_among number numbers = list_any (λ n. number == n) numbers

-- activations without the one with a number
abbrev pub without : ℕ → List Activation → List Activation
without number activations = filter (other_than number) activations

-- what is pending after a note, given what was pending before it
abbrev pub after_note : List Activation → Note → List Activation
after_note pending (Triggered a) = pending ++ a ∷ []
after_note pending (Obviated number) = without number pending
after_note pending (Retriggered number base) = map (rebased number base) pending
after_note pending (Chosen cycle a r) = without a.number pending
after_note pending _ = pending

-- what is pending after these notes
abbrev pub pending_after : List Note → List Activation
pending_after notes = fold after_note [] notes

-- ---- how every choice is made

-- after these notes a cycle chooses an activation in the last state of a run, and its line prints this rating
pub record IsChosenAfter (plan : Plan) (run : Stretch) (before : List Note) (cycle : ℕ) (a : Activation) (r : ℤ)
    : Type 0 where
  -- the number of the cycle is one more than the number of choices before it
  pub counted : cycle ≡ length (chosen_in before) + 1
  -- the activation was neither chosen nor obviated before
  pub once : is_among a.number (gone_in before) ≡ false
  -- that run emits these notes, and then ends by its limit
  pub emitted : notes_of run ≡ before ++ finish ends.Limit run.state.natives
  -- what is pending in the run's last state is what is pending by the notes
  pub agenda : pending_of run.state.agenda ≡ pending_after before
  -- the activation is the choice in that state
  pub choice_is : choice plan run.state ≡ Some a
  -- it is rated at least the floor there, no pending activation is rated higher, and of equals it is the earliest
  pub best : IsChosen (rating plan run.state) plan.floor (pending_of run.state.agenda) a
  -- the line prints its rating there
  pub rated : r ≡ rating plan run.state a

-- ---- how every run ends

-- two natives are the same except for what they hold
abbrev pub IsLike : Native → Native → Type 0
IsLike native left = (held : List ℤ) × (left ≡ record native { held = held })

-- a run of these natives and this limit ends once, for a cause, and closes every native
pub record EndsOnce (plan : Plan) (natives : List Native) (limit : ℕ) (run : Stretch) : Type 0 where
  -- the run ends in this way
  pub end : End
  pub end_is : run.end ≡ Some end
  -- if it is full or stuck, or a native is due, it has a cause
  pub cause : HasCause plan run.state run.end
  -- its last notes are its end, and what every native reports at its close, in order
  pub last : (before : List Note) × (notes_of run ≡ before ++ finish end run.state.natives)
  -- only that comes after a finish
  pub once : (before : List Note) (e : End) (after : List Note) → notes_of run ≡ before ++ Finished e ∷ after
      → after ≡ map Closed (closings_of run.state.natives)
  -- nothing else is closed
  pub closings : closed_in (notes_of run) ≡ closings_of run.state.natives
  -- the natives are those handed in, except for what they hold
  pub natives_left : AllZip IsLike natives run.state.natives
  -- the run makes no more cycles than the limit
  pub within : length (chosen_in (notes_of run)) ≤ limit
  -- if it ends by its limit, it made that many cycles, and something can still be chosen
  pub met : run.end ≡ Some ends.Limit → length (chosen_in (notes_of run)) ≡ limit
  pub left : run.end ≡ Some ends.Limit → (a : Activation) × (choice plan run.state ≡ Some a)
  -- if it ends in quiescence, nothing can be chosen
  pub exhausted : run.end ≡ Some ends.Quiescence → choice plan run.state ≡ None

-- ---- how runs of two limits compare

-- a run and one with a longer limit: they are the same, or the first ends by its limit and the longer one emits the
-- same up to that finish
abbrev pub Extends : Stretch → Stretch → Type 0
Extends run longer =
    (longer ≡ run) ⊎ ((run.end ≡ Some ends.Limit) × ((front : List (List Note)) × ((rest : List (List Note)) ×
    ((run.emitted ≡ front ++ finish ends.Limit run.state.natives ∷ []) × (longer.emitted ≡ front ++ rest)))))
