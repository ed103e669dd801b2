-- Natives outside the run: a turn after which one is due, and the answer for it.
use Rattle.std.specs.Prelude.{◌≡◌, ℕ, List, Some, slice_get}
use Rattle.bb_run.specs.Activation.{Activation}
use Rattle.bb_run.specs.Ask.{Ask}
use Rattle.bb_run.specs.Native.{Native}
use Rattle.bb_run.specs.Order.{all_of}
use Rattle.bb_run.specs.Plan.{Plan}
use Rattle.bb_run.specs.Roster.{asks_at, place_of}
use Rattle.bb_run.specs.Sight.{sight_of}
use Rattle.bb_run.specs.Source.{Source}
use Rattle.bb_run.specs.State.{State, with_natives}
use Rattle.bb_run_held.specs.Moves.{Moved, Standing}

-- a run with these natives inside
abbrev pub with_inside : List Native → Standing → Standing
with_inside natives t = record t { state = with_natives t.state natives }

-- one of these natives has the name of the activation's source, and asks this if it is called in this state
pub record AsksInside (plan : Plan) (natives : List Native) (asks : List Ask) (a : Activation) (s : State) : Type 0 where
  pub source : Source
  pub source_is : slice_get plan.sources a.source ≡ Some source
  pub place : ℕ
  pub there : place_of natives source.name ≡ Some place
  pub same : asks_at natives place a.unit (sight_of s.board) ≡ asks

-- both moves emit the same notes, and leave the run in the same state, except for its natives
pub record ComesToSame (p q : Moved) : Type 0 where
  pub notes : all_of p.emitted ≡ all_of q.emitted
  pub board : p.standing.state.board ≡ q.standing.state.board
  pub agenda : p.standing.state.agenda ≡ q.standing.state.agenda
  pub made : p.standing.made ≡ q.standing.made
  pub pause : p.standing.pause ≡ q.standing.pause
