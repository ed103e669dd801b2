-- The code of a run goes on knowing the foci of the blackboard.
use Rattle.std.proofs.Common.{◌≡◌, ℕ, List, Option, Ok, sym, subst}
use Rattle.bb_agenda.specs.declared.focusing.activation.Activation.{Activation}
use Rattle.bb_trace.specs.Board.{Board as Blackboard}
use Rattle.bb_trace.specs.Event.TheVariants.{Quiescence as quiescence}
use Rattle.bb_trace.specs.End.{End}
use Rattle.bb_trace.specs.Ask.{Ask}
use Rattle.bb_trace.specs.Native.{Native}
use Rattle.bb_run_plan.specs.Plan.{Plan}
use Rattle.bb_run.specs.declared.cycles.Decision.{Decision}
use Rattle.bb_run.specs.State.{State}
use Rattle.bb_run.specs.Run.{choice, cycle, cycles, quiet, start}
use Rattle.bb_run.specs.Turns.{answering, posting, turn}
use Rattle.bb_run.specs.Weighed.{KnowsFoci}
use Rattle.bb_run.specs.Knowing.{Knows, MayKnow}
use Rattle.bb_run.specs.Emitting.{Makes, Place, Waits}
use Rattle.bb_run.proofs.keeping.WeighLemmas.{answer_knows, cycle_knows, cycles_know, post_knows, responds, start_knows, turn_knows, waits}

module _ (plan : Plan) (a b : Place) (s t : State) where
  as_is : (k : Knows plan s) (u : State) → t ≡ u → KnowsFoci plan u → Knows plan t
  as_is k u same known = record { reading = k.reading; foci = subst (KnowsFoci plan) (sym same) known }

  -- after quiescence
  pub quiet_known : (end : Option End) → Knows plan s → Makes plan a b (quiet plan s) t (Ok end) → Knows plan t
  quiet_known end k made = as_is k (quiet plan s).state made.1.state (responds plan k.reading quiescence s k.foci)

  -- after the wait before a cycle
  pub wait_known : (decision : Decision) → Knows plan s → Waits plan a b s t (Ok decision) → Knows plan t
  wait_known decision k waited = as_is k _ waited.state (waits plan k.reading s (choice plan s) k.foci)

  -- after a cycle
  pub cycle_known : (number : ℕ) (x : Activation) (end : Option End) → Knows plan s → Makes plan a b (cycle plan number x s) t (Ok end) → Knows plan t
  cycle_known number x end k made = as_is k (cycle plan number x s).state made.1.state (cycle_knows plan k.reading number x s k.foci)

module _ (plan : Plan) (s t : State) (k : Knows plan s) where
  known_at : (u : State) → t ≡ u → KnowsFoci plan u → Knows plan t
  known_at u same known = record { reading = k.reading; foci = subst (KnowsFoci plan) (sym same) known }

  -- after a turn, after cycles, and after asks from outside or of a native
  pub turn_known : (made : ℕ) → t ≡ (turn plan made s).state → Knows plan t
  turn_known made is = known_at (turn plan made s).state is (turn_knows plan k.reading made s k.foci)

  pub cycles_known : (made left : ℕ) → t ≡ (cycles plan made left s).state → Knows plan t
  cycles_known made left is = known_at (cycles plan made left s).state is (cycles_know plan k.reading made left s k.foci)

  pub post_known : (asks : List Ask) → t ≡ (posting plan asks s).state → Knows plan t
  post_known asks is = known_at (posting plan asks s).state is (post_knows plan k.reading asks s k.foci)

  pub answer_known : (asks : List Ask) → t ≡ (answering plan asks s).state → Knows plan t
  answer_known asks is = known_at (answering plan asks s).state is (answer_knows plan k.reading asks s k.foci)

-- after the start
pub start_known : (plan : Plan) (board : Blackboard) (natives : List Native) (t : State) → MayKnow plan board → t ≡ (start plan board natives).state → Knows plan t
start_known plan board natives t may is = record { reading = may.reading; foci = subst (KnowsFoci plan) (sym is) (start_knows plan may.reading board natives may.given) }
