-- What follows from the law of runs, and so is no clause of it. Sources are triggered as the events ask for it; each
-- cycle is over before the next; where no source lacks a native none is due at the end; each native is closed under its
-- name; and what is executed upon a choice begins with units that fit its part.
pub use Rattle.bb_run.proofs.following.FollowLemmas.{run_is_paid, run_owes}
pub use Rattle.bb_run.proofs.following.TallyLemmas.{choices_in_turn, open_in_turn}
use Rattle.std.proofs.Common.{◌≡◌, ℕ, ℤ, List, [], map, refl, ap, subst, ◌∙◌}
use Rattle.std.specs.Prelude.{All}
use Rattle.std.proofs.lemmas.List.{append-nil}
use Rattle.bb_agenda.specs.declared.focusing.activation.Activation.{Activation}
use Rattle.bb_trace.specs.Board.{Board as Blackboard}
use Rattle.bb_trace.specs.Closing.{Closing}
use Rattle.bb_trace.specs.Native.{Native}
use Rattle.bb_trace.specs.declared.note.Note.{Note}
use Rattle.bb_run_plan.specs.Plan.{Plan}
use Rattle.bb_run.specs.State.{State}
use Rattle.bb_run.specs.Causes.{LacksNative}
use Rattle.bb_run.specs.Emission.{Stretch}
use Rattle.bb_run.specs.Left.{IsLeft}
use Rattle.bb_run.specs.Order.{EndsOnce, IsChosenAfter, closed_in, notes_of}
use Rattle.bb_run.specs.Processing.{events_in}
use Rattle.bb_run.specs.Responds.{noted_on, taken}
use Rattle.bb_run.specs.Unstuck.{BeginsEach, BeginsFor, FitsPlan, IsEventOf, IsReady, IsWellMade, NotDue}
use Rattle.bb_run.proofs.natives.ClosedLemmas.{same_names}
use Rattle.bb_run.proofs.natives.DueLemmas.{not_due}
use Rattle.bb_run.proofs.serving.EntryLemmas.{noted_events}

module _ (plan : Plan) (natives : List Native) (limit : ℕ) (run : Stretch) (ends : EndsOnce plan natives limit run) where
  -- no run ends with a native due, where each source without a code has a native of its name
  pub none_due : ¬ LacksNative plan natives → NotDue run.end
  none_due given = not_due plan natives given run.state run.end ends.natives_left ends.cause

  -- what is closed has the names of the natives that were handed in, in their order
  pub closed_by_name : map (λ (c : Closing). c.name) (closed_in (notes_of run)) ≡ map (λ (n : Native). n.name) natives
  closed_by_name = ap (map (λ (c : Closing). c.name)) ends.closings ∙ same_names natives run.state.natives ends.natives_left

-- an activation was chosen in the last state of a run that began on a blackboard that fits well made sources: its
-- source's act and the revalidation begin with units that fit their part
pub choice_begins : (plan : Plan) (board : Blackboard) (run : Stretch) (before : List Note) (cycle : ℕ) (a : Activation) (r : ℤ) → IsWellMade plan → FitsPlan plan board → IsChosenAfter plan run before cycle a r → IsLeft plan board run.state
    → ((s : State) → IsReady plan s → BeginsEach plan s) → BeginsFor plan run.state a
choice_begins plan board run before cycle a r made fits chosen left begins = (begins run.state (left.ready made fits)).act a chosen.best.waits

-- the events to which a run responds first are of the blackboard on which it does
pub first_events : (plan : Plan) (board : Blackboard) → IsWellMade plan → FitsPlan plan board → All (IsEventOf plan.schema (taken board)) (events_in (noted_on board))
first_events plan board made fits =
    subst (λ l. All (IsEventOf plan.schema (taken board)) (events_in l)) (append-nil (noted_on board)) (noted_events plan.schema made.schema board board.world.notes [] fits.world.notes refl)
