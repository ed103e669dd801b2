-- How a run continues: after events come the responses of the sources to them, and then the run's next turn, which has
-- the blackboard and the natives that the execution before it left.
use Rattle.std.specs.Prelude.{◌≡◌, ℕ, ◌-◌, ℤ, List, [], ◌∷◌, ◌++◌, length, map, Option, Some, None, slice_get}
use Rattle.bb_agenda.specs.declared.focusing.activation.Activation.{Activation}
use Rattle.bb_trace.specs.Board.{Board as Blackboard, with_world}
use Rattle.bb_trace.specs.World.{after_take}
use Rattle.bb_trace.specs.BoardNote.TheVariants.{Event as happened}
use Rattle.bb_trace.specs.Event.{Event}
use Rattle.bb_trace.specs.Event.TheVariants.{Quiescence as quiescence}
use Rattle.bb_trace.specs.Native.{Native}
use Rattle.bb_rules.specs.Parts.{Source}
use Rattle.bb_trace.specs.End.{End}
use Rattle.bb_trace.specs.End as ends
use Rattle.bb_trace.specs.declared.note.Note.{Note}
use Rattle.bb_trace.specs.declared.note.Note.TheVariants.{Board, Chosen, Finished}
use Rattle.bb_run_plan.specs.Plan.{Plan}
use Rattle.bb_run.specs.State.{State}
use Rattle.bb_run.specs.Executed.{upon_choice}
use Rattle.bb_run.specs.Processing.{events_in}
use Rattle.bb_run.specs.Responses.{responses}
use Rattle.bb_run.specs.Run.{first_state, run}
use Rattle.bb_run.specs.Order.{At, chosen_in, notes_of}
use Rattle.bb_run.specs.Phases.{outside, phase_after}

-- what a blackboard had noted, as notes of a run
abbrev pub noted_on : Blackboard → List Note
noted_on board = map Board board.world.notes

-- a blackboard after its notes were taken
abbrev pub taken : Blackboard → Blackboard
taken board = with_world board (after_take board.world)

-- the responses that a run with this end may omit: none, unless it is full or stuck, or a native is due
abbrev pub MayOmit : End → List (Option Note) → Type 0
MayOmit ends.Quiescence left = left ≡ []
MayOmit ends.Limit left = left ≡ []
MayOmit _ left = Unit {0}

-- the note may follow responses of which these are omitted: the finish, or, if none is omitted, quiescence or a choice
abbrev pub MayFollow : (left : List (Option Note)) → Note → Type 0
MayFollow left (Finished end) = MayOmit end left
MayFollow left (Chosen cycle a r) = left ≡ []
MayFollow left (Board note) = (left ≡ []) × (note ≡ happened quiescence)
MayFollow left _ = ⊥

-- these notes may come next after responses of which these are omitted
abbrev pub MayComeNext : (left : List (Option Note)) → List Note → Type 0
MayComeNext left [] = ⊥
MayComeNext left (note ∷ more) = MayFollow left note

-- events were emitted last of the past notes: the responses to them come next, and then the finish, quiescence or a
-- choice
pub record Answers (plan : Plan) (board : Blackboard) (events : List Event) (past after : List Note) : Type 0 where
  pub emitted : List Note
  pub left : List (Option Note)
  pub rest : List Note
  pub comes : after ≡ emitted ++ rest
  -- all responses are emitted, except for the omitted ones
  pub all : map Some emitted ++ left ≡ responses plan board events past
  pub next : MayComeNext left rest

-- an activation was chosen in this state: after what is emitted upon the choice come the responses to its events,
-- unless the run is over
abbrev pub AnswersChoice : Plan → State → Activation → (past after : List Note) → Type 0
AnswersChoice plan s a past after =
    (source : Source) (more : List Note) → slice_get plan.sources a.source ≡ Some source →
    let emitted = upon_choice source a s in emitted.end ≡ None → after ≡ emitted.emitted ++ more
    → Answers plan emitted.state.board (events_in emitted.emitted) (past ++ emitted.emitted) more

-- the blackboard and the natives of one state equal those of another
pub record HasWorldOf (s t : State) : Type 0 where
  pub board : s.board ≡ t.board
  pub natives : s.natives ≡ t.natives

-- the sources respond to what a run emits, where it is emitted, and only executions change blackboard and natives
pub record Responds (plan : Plan) (board : Blackboard) (natives : List Native) (limit : ℕ) : Type 0 where
  -- what the blackboard had noted comes first, and then the responses to its events
  pub first : (after : List Note) → notes_of (run plan board natives limit) ≡ noted_on board ++ after
      → Answers plan (taken board) (events_in (noted_on board)) (noted_on board) after
  -- what is emitted upon a choice follows it, and then the responses to the events of that
  pub choices : (before after : List Note) (cycle : ℕ) (a : Activation) (r : ℤ)
      → notes_of (run plan board natives limit) ≡ before ++ Chosen cycle a r ∷ after
      → AnswersChoice plan (run plan board natives (cycle - 1)).state a (before ++ Chosen cycle a r ∷ []) after
  -- quiescence is emitted between cycles, and then the responses to it, on the blackboard after the cycles so far
  pub quiet : (before after : List Note) → phase_after before ≡ outside
      → let past = noted_on board ++ before in
      notes_of (run plan board natives limit) ≡ past ++ Board (happened quiescence) ∷ after
      → Answers plan (run plan board natives (length (chosen_in before))).state.board (quiescence ∷ [])
      (past ++ Board (happened quiescence) ∷ []) after
  -- a run without cycles leaves what was handed in, with its notes taken
  pub begins : HasWorldOf (run plan board natives 0).state (first_state plan (taken board) natives)
  -- a run up to a cycle leaves what the execution upon its choice leaves, from where the run up to the previous cycle
  -- ends
  pub lasts : (before : List Note) (cycle : ℕ) (a : Activation) (r : ℤ) (source : Source)
      → At (notes_of (run plan board natives limit)) before (Chosen cycle a r)
      → slice_get plan.sources a.source ≡ Some source
      → HasWorldOf (run plan board natives cycle).state
      (upon_choice source a (run plan board natives (cycle - 1)).state).state
