-- What holds between two parts of a run is what lasts of it, and what schema, plan and blackboard say of themselves.
use Rattle.std.specs.Prelude.{◌≡◌, ℕ, All, List}
use Rattle.std.proofs.Common.{subst}
use Rattle.bb_trace.specs.Ask.{Ask}
use Rattle.bb_trace.specs.Board.{Board as Blackboard}
use Rattle.bb_trace.specs.Native.{Native}
use Rattle.bb_run.specs.Knowing.{MayKnow}
use Rattle.bb_run.specs.Run.{cycles, start}
use Rattle.bb_run.specs.Turns.{answering, posting, turn}
use Rattle.bb_run.proofs.keeping.KnowLemmas.{answer_known, cycles_known, post_known, start_known, turn_known}
use Rattle.bb_run.proofs.serving.ServeCycles.{answer_serves, cycles_serve, post_serves, start_serves, turn_serves}
use Rattle.bb_schema.specs.Fits as schemas
use Rattle.bb_schema.specs.Schema.{Schema}
use Rattle.bb_theorem_machine.specs.Fits.{Fits}
use Rattle.bb_rules.specs.Law.{HasSoundCodes, IsMade}
use Rattle.bb_run_plan.specs.Plan.{Plan}
use Rattle.bb_run.specs.Serving.{IsSteady, Lasts, MayServe}
use Rattle.bb_run.specs.State.{State}
use Rattle.bb_run.specs.Unstuck.{IsWellMade}
use Rattle.bb_run.proofs.serving.MadeLemmas.{all_made}
use Rattle.bb_run.proofs.keeping.ReadLemmas.{plan_reads}

-- sources that were made under a plan's schema, of sound codes
well_made : (plan : Plan) {schema : Schema} → schema ≡ plan.schema → schemas.Fits schema → ∥ All (IsMade plan.schema) plan.sources ∥₁ → All HasSoundCodes plan.sources → IsWellMade plan
well_made plan is fits made codes = record { schema = subst schemas.Fits is fits; made = all_made plan.schema plan.sources made; codes = codes }

pub steady_again : (plan : Plan) (s : State) {schema : Schema} → Lasts plan s → schema ≡ plan.schema → schemas.Fits schema → All HasSoundCodes plan.sources → Fits s.board.schema s.board.world → IsSteady plan s
steady_again plan s l is fits codes world = record {
  knows = record { reading = plan_reads plan codes; foci = l.foci };
  serves = record {
    sound = well_made plan is fits l.made codes;
    ready = record {
      board = record { schema = l.schema; world = subst (λ (x : Schema). Fits x s.board.world) l.schema world };
      waiting = l.waiting;
    };
  };
}

pub steady_lasts : (plan : Plan) (s : State) → IsSteady plan s → Lasts plan s
steady_lasts plan s steady = record {
  made = ∣ steady.serves.sound.made ∣₁;
  schema = steady.serves.ready.board.schema;
  waiting = steady.serves.ready.waiting;
  foci = steady.knows.foci;
}

-- what a run may begin with
pub may_serve : (plan : Plan) (board : Blackboard) {schema : Schema} → schema ≡ plan.schema → schemas.Fits schema → ∥ All (IsMade plan.schema) plan.sources ∥₁ → All HasSoundCodes plan.sources
    → board.schema ≡ plan.schema → Fits board.schema board.world → MayServe plan board
may_serve plan board is fits made codes of_schema world = record {
  sound = well_made plan is fits made codes;
  fits = record { schema = of_schema; world = subst (λ (x : Schema). Fits x board.world) of_schema world };
}

-- ---- after a move of its host it holds again

module _ (plan : Plan) (s t : State) (steady : IsSteady plan s) where
  pub turn_steady : (made : ℕ) → t ≡ (turn plan made s).state → IsSteady plan t
  turn_steady made is = record { knows = turn_known plan s t steady.knows made is; serves = turn_serves plan s steady.serves t made is }

  pub cycles_steady : (made left : ℕ) → t ≡ (cycles plan made left s).state → IsSteady plan t
  cycles_steady made left is = record { knows = cycles_known plan s t steady.knows made left is; serves = cycles_serve plan s steady.serves t made left is }

  pub post_steady : (asks : List Ask) → t ≡ (posting plan asks s).state → IsSteady plan t
  post_steady asks is = record { knows = post_known plan s t steady.knows asks is; serves = post_serves plan s steady.serves t asks is }

  pub answer_steady : (asks : List Ask) → t ≡ (answering plan asks s).state → IsSteady plan t
  answer_steady asks is = record { knows = answer_known plan s t steady.knows asks is; serves = answer_serves plan s steady.serves t asks is }

-- and after its start
pub start_steady : (plan : Plan) (board : Blackboard) (natives : List Native) (t : State) → MayKnow plan board → MayServe plan board → t ≡ (start plan board natives).state → IsSteady plan t
start_steady plan board natives t may serve is = record { knows = start_known plan board natives t may is; serves = start_serves plan board natives serve t is }
