-- No run is stuck, and each execution keeps its budget.
use Rattle.std.proofs.Common.{◌≡◌, ◌≤◌, inl, inr, ℕ, zero, suc, ◌+◌, ◌-◌, ℤ, List, [], ◌∷◌, ◌++◌, Option, Some, None, Result, Ok, Err, refl, sym, subst, ◌∙◌, arith}
use Rattle.std.specs.Prelude.{All, Contains, map, option_and_then, slice_get}
use Rattle.std.proofs.lemmas.List.Elements.{All-append, All-cons, All-contains, All-filter, All-head, All-nil, All-tail, All-weaker}
use Rattle.bb_schema.specs.Schema.{Schema}
use Rattle.bb_schema.specs.Fits as schemas
use Rattle.bb_code.specs.Code.{IsCode}
use Rattle.bb_verify.specs.Accepted.{Checked}
use Rattle.bb_verify.specs.Budget.{budget}
use Rattle.bb_verify.specs.declared.checked.TheConstants.{FOUND_LIMIT}
use Rattle.bb_theorem_machine.proofs.Laws.{activation_fits, activation_lasts, activation_never_stuck, activation_schema, activation_within_budget, was_outlives}
use Rattle.bb_machine.specs.declared.outcome.Answer.{Answer}
use Rattle.bb_machine.specs.declared.outcome.Answer.TheVariants as answers
use Rattle.bb_theorem_machine.specs.Fits.{Fits}
use Rattle.bb_theorem_machine.specs.NeverWrong.{Begins, KeepsBudget as KeepsOwnBudget, NeverStuck}
use Rattle.bb_machine.specs.declared.outcome.Outcome.{Outcome}
use Rattle.bb_machine.specs.declared.outcome.Stop.{Stop}
use Rattle.bb_machine.specs.declared.outcome.Stop.TheVariants as stops
use Rattle.bb_agenda.specs.declared.focusing.activation.Activation.{Activation}
use Rattle.bb_agenda.specs.Agenda.{pending_of}
use Rattle.bb_agenda.specs.Changes.{other_than, with_executed}
use Rattle.bb_agenda.proofs.Laws.{chosen_some, pending_executed, pending_obviated}
use Rattle.bb_rules.specs.declared.source.Act.{Act}
use Rattle.bb_rules.specs.declared.source.Act.TheVariants as acts
use Rattle.bb_trace.specs.Board.{Board as Blackboard}
use Rattle.bb_trace.specs.BoardNote.TheVariants.{Event as happened}
use Rattle.bb_trace.specs.Event.TheVariants.{Quiescence as quiescence}
use Rattle.bb_rules.specs.Law.{HasSoundCodes, IsMade}
use Rattle.bb_trace.specs.Ask.{Ask}
use Rattle.bb_trace.specs.Closing.{Closing}
use Rattle.bb_trace.specs.Native.{Native}
use Rattle.bb_trace.specs.Roster.{after_act_at, asks_at, closings_of, place_of}
use Rattle.bb_trace.specs.Sight.{sight_of}
use Rattle.bb_rules.specs.Parts.{Source}
use Rattle.bb_trace.specs.End.{End}
use Rattle.bb_trace.specs.End as finishes
use Rattle.bb_trace.specs.declared.note.Note.{Note}
use Rattle.bb_trace.specs.declared.note.Note.TheVariants.{Board, Chosen, Invalid, Ended, NativeEnded, Posted, PostEnded, Finished, Closed}
use Rattle.bb_run_plan.specs.Plan.{Plan}
use Rattle.bb_run.specs.declared.execution.Verdict.{Verdict}
use Rattle.bb_run.specs.declared.execution.Verdict.TheVariants as verdicts
use Rattle.bb_run.specs.State.{State, with_agenda, with_board, with_natives}
use Rattle.bb_run.specs.Emission.{Response, Stretch, idle, over, after_emitted, and_then, segment}
use Rattle.bb_run.specs.Asking.{attempt, entry_of, reply_by}
use Rattle.bb_run.specs.Processing.{events_in, response}
use Rattle.bb_run.specs.Executed.{upon_choice, upon_verdict}
use Rattle.bb_run.specs.Order.{all_of, notes_of}
use Rattle.bb_run.specs.Causes.{IsPart}
use Rattle.bb_run.specs.Turns.{answering, posting, turn, turn_by}
use Rattle.bb_run.specs.Run.{rating, choice, quiet, wait, wait_for, noted, answered, asked, calling, executing, execution, acting, verdict_by, verdict_of, validity, chosen_with, if_valid, cycle, if_chosen, cycles, first_state, start, finish, finish_segments, unfinished, run}
use Rattle.bb_run.specs.Unstuck.{BeginsEach, BeginsFor, FitsPlan, IsEventOf, IsReady, IsUnstuck, IsWellMade, KeepsBudget, NotStuck, SuitsSource}
use Rattle.bb_run.proofs.serving.EntryLemmas.{begins_with, code_within, fits_do, fits_revalidate}
use Rattle.bb_run.proofs.keeping.ReadLemmas.{plan_reads, run_reads}
use Rattle.bb_run.proofs.serving.UnstuckParts.{GoesWell, well_idle, well_one, well_over, well_segment, well_then}
use Rattle.bb_run.proofs.serving.UnstuckStates as states
use Rattle.bb_run.proofs.serving.UnstuckStates.{answer_to, answers_well, posts_well, reacts, reports, requires, there_at, well_noted}

-- all notes of segments
all_told : (P : Note → Type 0) (segments : List (List Note)) → All (All P) segments → All P (all_of segments)
all_told P [] all = All-nil P
all_told P (segment' ∷ more) all =
    All-append P segment' (all_of more) (All-head (All P) segment' more all) (all_told P more (All-tail (All P) segment' more all))

-- the answer of a revalidation ends no run
no_end : (answer : Answer) (end : End) → verdict_of answer ≡ verdicts.Over end → ⊥
no_end answers.No end is = absurd cc
no_end answers.Yes end is = absurd cc
no_end answers.Done end is = absurd cc
no_end answers.Declined end is = absurd cc
no_end (answers.Rated base) end is = absurd cc

module _ (plan : Plan) (sound : IsWellMade plan) where
  abbrev pub Ready : State → Type 0
  Ready = IsReady plan

  abbrev pub GoesOn : Stretch → Type 0
  GoesOn = GoesWell (All KeepsBudget) Ready

  abbrev pub IsWell : Response → Type 0
  IsWell = states.IsWell plan sound

  -- ---- an execution for an activation

  module _ (source : Source) (a : Activation) (s : State) (at : slice_get plan.sources a.source ≡ Some source) (ready : Ready s) (suits : SuitsSource plan s.board a) where
    source_there : Contains plan.sources source
    source_there = there_at plan.sources a.source source at

    own_made : IsMade plan.schema source
    own_made = All-contains (IsMade plan.schema) plan.sources source sound.made source_there

    codes : (c : Checked) → IsPart source c → IsCode c.code
    codes c part = code_within source c (All-contains HasSoundCodes plan.sources source sound.codes source_there) part

    pub act_begins : (c : Checked) → source.act ≡ acts.Code c → Begins c.part c.frames c.code (entry_of a.unit None) s.board
    act_begins c is =
        begins_with plan.schema s.board c (entry_of a.unit None) ready.board.schema (codes c (inl is)) (own_made.act c is)
        (fits_do plan.schema s.board c.part source.class a.unit (own_made.law.act c is) (suits source at))

    pub revalidation_begins : (c : Checked) → source.revalidate ≡ Some c → Begins c.part c.frames c.code (entry_of a.unit None) s.board
    revalidation_begins c is =
        begins_with plan.schema s.board c (entry_of a.unit None) ready.board.schema (codes c (inr (inr (inl is)))) (own_made.revalidate c is)
        (fits_revalidate plan.schema s.board c.part source.class a.unit (own_made.law.revalidate c is) (suits source at))

    board_schema : schemas.Fits s.board.schema
    board_schema = subst schemas.Fits (sym ready.board.schema) sound.schema

    board_fits : Fits s.board.schema s.board.world
    board_fits = subst (λ (x : Schema). Fits x s.board.world) (sym ready.board.schema) ready.board.world

    -- one that begins with what fits its part
    module _ (c : Checked) (is : IsCode c.code) (begins : Begins c.part c.frames c.code (entry_of a.unit None) s.board) where
      never : NeverStuck (attempt c.code (entry_of a.unit None) s.board).0
      never =
          let n = budget c.code FOUND_LIMIT in
          let le : n ≤ n = omega arith in
          activation_never_stuck c.part c.frames c.code (entry_of a.unit None) s.board n is board_schema board_fits begins le

      keeps_budget : KeepsOwnBudget c.code (attempt c.code (entry_of a.unit None) s.board).0
      keeps_budget = activation_within_budget c.part c.frames c.code (entry_of a.unit None) s.board (budget c.code FOUND_LIMIT) is board_schema board_fits begins

      -- what it leaves
      left_ready : Ready (with_board s (attempt c.code (entry_of a.unit None) s.board).1)
      left_ready =
          let n = budget c.code FOUND_LIMIT in
          let entry = entry_of a.unit None in
          let after = (attempt c.code entry s.board).1 in
          record {
            board = record {
              schema = activation_schema n c.code entry s.board ∙ ready.board.schema;
              world = subst (λ (x : Schema). Fits x after.world) ready.board.schema (activation_fits c.part c.frames c.code entry s.board n is board_schema board_fits begins);
            };
            waiting = All-weaker (SuitsSource plan s.board) (SuitsSource plan after)
                (λ x own other there'. was_outlives plan.schema s.board.world after.world other.class x.unit (activation_lasts n c.code entry s.board) (own other there')) (pending_of s.agenda) ready.waiting;
          }

      told_by : (r : Result Outcome Stop) → NeverStuck r → KeepsOwnBudget c.code r → IsWell (answered c.code (with_board s (attempt c.code (entry_of a.unit None) s.board).1) r)
      told_by (Ok o) not kept =
          well_noted plan sound (with_board s (attempt c.code (entry_of a.unit None) s.board).1) (Ended o.steps o.found (budget c.code o.found) ∷ []) None left_ready
          (All-cons KeepsBudget (Ended o.steps o.found (budget c.code o.found)) [] kept (All-nil KeepsBudget)) refl tt
      told_by (Err (stops.Full steps found)) not kept = well_noted plan sound (with_board s (attempt c.code (entry_of a.unit None) s.board).1) [] (Some finishes.Full) left_ready (All-nil KeepsBudget) refl tt
      told_by (Err (stops.Stuck reason steps found)) not kept = absurd not
      told_by (Err stops.Memory) not kept = well_noted plan sound (with_board s (attempt c.code (entry_of a.unit None) s.board).1) [] (Some finishes.Full) left_ready (All-nil KeepsBudget) refl tt

      executes : IsWell (executing c.code a s)
      executes = told_by (attempt c.code (entry_of a.unit None) s.board).0 never keeps_budget

      -- a verdict on the activation
      verdict_by_reply : (r : Result Outcome Stop) → NeverStuck r → (end : End) → verdict_by (reply_by r) ≡ verdicts.Over end → NotStuck (Some end)
      verdict_by_reply (Ok o) not end is' = absurd (no_end o.answer end is')
      verdict_by_reply (Err (stops.Full steps found)) not end is' = let same : finishes.Full ≡ end = cc in subst (λ x. NotStuck (Some x)) same tt
      verdict_by_reply (Err (stops.Stuck reason steps found)) not end is' = absurd not
      verdict_by_reply (Err stops.Memory) not end is' = let same : finishes.Full ≡ end = cc in subst (λ x. NotStuck (Some x)) same tt

    -- ---- a native is called

    calls : (place : Option ℕ) → source.act ≡ acts.Native → place_of s.natives source.name ≡ place → IsWell (calling place a s)
    calls None native none = record {
      well = record {
        emitted = All-nil KeepsBudget;
        end = tt;
        state = ready;
      };
      events = All-nil (IsEventOf plan.schema s.board);
    }
    calls (Some place) native at' =
        let seen = sight_of s.board in
        let asks = asks_at s.natives place a.unit seen in
        answers_well plan sound asks (with_natives s (after_act_at s.natives place a.unit seen)) (record { board = ready.board; waiting = ready.waiting })

    pub acts_by : (act : Act) → source.act ≡ act → IsWell (execution source.name act a s)
    acts_by (acts.Code c) is = executes c (codes c (inl is)) (act_begins c is)
    acts_by acts.Native is = calls (place_of s.natives source.name) is refl

    verdict_fine : (code : Option Checked) → source.revalidate ≡ code → (end : End) → (validity code a s.board).0 ≡ verdicts.Over end → NotStuck (Some end)
    verdict_fine None is end over' = absurd cc
    verdict_fine (Some c) is end over' =
        verdict_by_reply c (codes c (inr (inr (inl is)))) (revalidation_begins c is) (attempt c.code (entry_of a.unit None) s.board).0 (never c (codes c (inr (inr (inl is)))) (revalidation_begins c is)) end over'

  -- ---- a cycle

  -- the verdict on an activation, by its source
  pub verdict_is_fine : (source : Option Source) (a : Activation) (s : State) → slice_get plan.sources a.source ≡ source → Ready s → SuitsSource plan s.board a
      → (end : End) → (validity (option_and_then (λ t. t.revalidate) source) a s.board).0 ≡ verdicts.Over end → NotStuck (Some end)
  verdict_is_fine None a s at ready suits end over' = absurd cc
  verdict_is_fine (Some source) a s at ready suits end over' = verdict_fine source a s at ready suits source.revalidate refl end over'

  pub same_board : (source : Option Source) (a : Activation) (b : Blackboard) → slice_get plan.sources a.source ≡ source → (validity (option_and_then (λ t. t.revalidate) source) a b).1 ≡ b
  same_board None a b is = refl
  same_board (Some source) a b is = (run_reads plan (plan_reads plan sound.codes)).choices source a b (there_at plan.sources a.source source is)

  pub acts_at : (source : Option Source) (a : Activation) (s : State) → slice_get plan.sources a.source ≡ source → Ready s → SuitsSource plan s.board a → GoesOn (acting plan source a s)
  acts_at None a s at ready suits = well_idle (All KeepsBudget) Ready s ready
  acts_at (Some source) a s at ready suits = reports plan sound (execution source.name source.act a s) (acts_by source a s at ready suits source.act refl)

  pub chooses : (number : ℕ) (a : Activation) (r : ℤ) (v : Verdict) (t : State) → Ready t → ((end : End) → v ≡ verdicts.Over end → NotStuck (Some end)) → GoesWell KeepsBudget Ready (chosen_with number a r v t)
  chooses number a r verdicts.Valid t ready fine =
      well_one KeepsBudget Ready (Chosen number a r) (chosen_with number a r verdicts.Valid t).state tt (record {
        board = ready.board;
        waiting = subst (All (SuitsSource plan t.board)) (sym (pending_executed t.agenda a.number)) (All-filter (other_than a.number) (SuitsSource plan t.board) (pending_of t.agenda) ready.waiting);
      })
  chooses number a r verdicts.Invalid t ready fine = record {
    emitted = All-cons KeepsBudget (Chosen number a r) (Invalid a.number ∷ []) tt (All-cons KeepsBudget (Invalid a.number) [] tt (All-nil KeepsBudget));
    end = tt;
    state = record {
      board = ready.board;
      waiting = subst (All (SuitsSource plan t.board)) (sym (pending_obviated t.agenda a.number)) (All-filter (other_than a.number) (SuitsSource plan t.board) (pending_of t.agenda) ready.waiting);
    };
  }
  chooses number a r (verdicts.Over end) t ready fine = record {
    emitted = All-cons KeepsBudget (Chosen number a r) [] tt (All-nil KeepsBudget);
    end = fine end refl;
    state = ready;
  }

  goes_if_valid : (number : ℕ) (a : Activation) (r : ℤ) (v : Verdict) (t : State) (source : Option Source) → slice_get plan.sources a.source ≡ source → SuitsSource plan t.board a → Ready (chosen_with number a r v t).state
      → GoesOn (acting plan (if_valid v source) a (chosen_with number a r v t).state)
  goes_if_valid number a r verdicts.Valid t source at suits ready = acts_at source a (chosen_with number a r verdicts.Valid t).state at ready suits
  goes_if_valid number a r verdicts.Invalid t source at suits ready = well_idle (All KeepsBudget) Ready (chosen_with number a r verdicts.Invalid t).state ready
  goes_if_valid number a r (verdicts.Over end) t source at suits ready = well_idle (All KeepsBudget) Ready (chosen_with number a r (verdicts.Over end) t).state ready

  -- a state that is ready stays so on an equal blackboard
  pub ready_on : (s : State) (b : Blackboard) → b ≡ s.board → Ready s → Ready (with_board s b)
  ready_on s b same ready = record {
    board = subst (FitsPlan plan) (sym same) ready.board;
    waiting = subst (λ (x : Blackboard). All (SuitsSource plan x) (pending_of s.agenda)) (sym same) ready.waiting;
  }

  pub cycle_goes : (number : ℕ) (a : Activation) (s : State) → Ready s → SuitsSource plan s.board a → GoesOn (cycle plan number a s)
  cycle_goes number a s ready suits =
      let source = slice_get plan.sources a.source in
      let v = validity (option_and_then (λ t. t.revalidate) source) a s.board in
      let t = with_board s v.1 in
      let same : v.1 ≡ s.board = same_board source a s.board refl in
      let r = chosen_with number a (rating plan s a) v.0 t in
      well_then (All KeepsBudget) Ready (segment r) (acting plan (if_valid v.0 source) a) r.end refl
      (well_segment Ready r (chooses number a (rating plan s a) v.0 t (ready_on s v.1 same ready) (verdict_is_fine source a s refl ready suits)))
      (goes_if_valid number a (rating plan s a) v.0 t source refl (subst (λ (x : Blackboard). SuitsSource plan x a) (sym same) suits))

  -- ---- the whole run

  pub waits_for : (s : State) (c : Option Activation) → Ready s → GoesOn (wait_for plan s c)
  waits_for s None ready =
      let q = answer_to plan sound quiescence s ready refl in
      let note : List Note = Board (happened quiescence) ∷ [] in
      well_segment Ready (after_emitted note (response plan quiescence s)) (record {
        emitted = All-cons KeepsBudget (Board (happened quiescence)) (response plan quiescence s).emitted tt q.emitted;
        end = q.end;
        state = q.state;
      })
  waits_for s (Some a) ready = well_idle (All KeepsBudget) Ready s ready

  last : (t : State) (c : Option Activation) → Ready t → GoesOn (if_chosen t c (λ a. over finishes.Limit t))
  last t None ready = well_over (All KeepsBudget) Ready finishes.Quiescence t tt ready
  last t (Some a) ready = well_over (All KeepsBudget) Ready finishes.Limit t tt ready

  pub suits_chosen : (t : State) (a : Activation) → choice plan t ≡ Some a → Ready t → SuitsSource plan t.board a
  suits_chosen t a is ready = All-contains (SuitsSource plan t.board) (pending_of t.agenda) a ready.waiting (chosen_some (rating plan t) plan.floor (pending_of t.agenda) a is).waits

  next_cycle : (made left : ℕ) (t : State) (c : Option Activation) → choice plan t ≡ c → ((s : State) → Ready s → GoesOn (cycles plan (made + 1) left s)) → Ready t
      → GoesOn (if_chosen t c (λ a. and_then (cycle plan (made + 1) a t) (cycles plan (made + 1) left)))
  next_cycle made left t None is rest ready = well_over (All KeepsBudget) Ready finishes.Quiescence t tt ready
  next_cycle made left t (Some a) is rest ready =
      let p = cycle plan (made + 1) a t in
      well_then (All KeepsBudget) Ready p (cycles plan (made + 1) left) p.end refl (cycle_goes (made + 1) a t ready (suits_chosen t a is ready)) (rest p.state)

  pub cycles_go : (made left : ℕ) (s : State) → Ready s → GoesOn (cycles plan made left s)
  unfolding cycles
  cycles_go made zero s ready =
      let p = wait plan s in
      well_then (All KeepsBudget) Ready p (λ t. if_chosen t (choice plan t) (λ a. over finishes.Limit t)) p.end refl (waits_for s (choice plan s) ready) (last p.state (choice plan p.state))
  cycles_go made (suc left) s ready =
      let p = wait plan s in
      well_then (All KeepsBudget) Ready p (λ t. if_chosen t (choice plan t) (λ a. and_then (cycle plan (made + 1) a t) (cycles plan (made + 1) left))) p.end refl (waits_for s (choice plan s) ready)
      (next_cycle made left p.state (choice plan p.state) refl (λ t. cycles_go (made + 1) left t))

  -- ---- what else a host has a run do

  rests : (t : State) (c : Option Activation) → Ready t → GoesOn (if_chosen t c (λ a. idle t))
  rests t None ready = well_over (All KeepsBudget) Ready finishes.Quiescence t tt ready
  rests t (Some a) ready = well_idle (All KeepsBudget) Ready t ready

  turns : (made : ℕ) (s : State) (c : Option Activation) → choice plan s ≡ c → Ready s → GoesOn (turn_by plan made s c)
  turns made s (Some a) is ready = cycle_goes (made + 1) a s ready (suits_chosen s a is ready)
  turns made s None is ready =
      let p = quiet plan s in
      well_then (All KeepsBudget) Ready p (λ t. if_chosen t (choice plan t) (λ a. idle t)) p.end refl (waits_for s None ready) (rests p.state (choice plan p.state))

  pub turn_goes : (made : ℕ) (s : State) → Ready s → GoesOn (turn plan made s)
  turn_goes made s ready = turns made s (choice plan s) refl ready

  pub post_goes : (asks : List Ask) (s : State) → Ready s → GoesOn (posting plan asks s)
  post_goes asks s ready = reports plan sound (after_emitted (Posted ∷ []) (asked (λ n. PostEnded n) asks s)) (posts_well plan sound asks s ready)

  pub answer_goes : (asks : List Ask) (s : State) → Ready s → GoesOn (answering plan asks s)
  answer_goes asks s ready = reports plan sound (asked (λ n. NativeEnded n) asks s) (answers_well plan sound asks s ready)

  module _ (natives : List Native) (board : Blackboard) (limit : ℕ) (fits : FitsPlan plan board) where
    first_ready : Ready (first_state plan board natives)
    first_ready = record { board = fits; waiting = All-nil (SuitsSource plan board) }

    pub first_well : IsWell (noted (first_state plan board natives) [] None)
    first_well = well_noted plan sound (first_state plan board natives) [] None first_ready (All-nil KeepsBudget) refl tt

    goes : GoesOn (unfinished plan board natives limit)
    goes =
        let p = start plan board natives in
        well_then (All KeepsBudget) Ready p (cycles plan 0 limit) p.end refl (reports plan sound (noted (first_state plan board natives) [] None) first_well) (cycles_go 0 limit p.state)

    closings_keep : (closings : List Closing) → All KeepsBudget (map Closed closings)
    closings_keep [] = All-nil KeepsBudget
    closings_keep (c ∷ cs) = All-cons KeepsBudget (Closed c) (map Closed cs) tt (closings_keep cs)

    finish_keeps : (end : Option End) (ns : List Native) → All (All KeepsBudget) (finish_segments end ns)
    finish_keeps None ns = All-nil (All KeepsBudget)
    finish_keeps (Some end) ns = All-cons (All KeepsBudget) (finish end ns) [] (All-cons KeepsBudget (Finished end) (map Closed (closings_of ns)) tt (closings_keep (closings_of ns))) (All-nil (All KeepsBudget))

    pub run_not_stuck : NotStuck (run plan board natives limit).end
    run_not_stuck = goes.end

    pub run_keeps_budgets : All KeepsBudget (notes_of (run plan board natives limit))
    run_keeps_budgets =
        let p = unfinished plan board natives limit in
        let last = finish_segments p.end p.state.natives in
        all_told KeepsBudget (p.emitted ++ last) (All-append (All KeepsBudget) p.emitted last goes.emitted (finish_keeps p.end p.state.natives))

    pub run_ready : IsReady plan (run plan board natives limit).state
    run_ready = goes.state

    pub run_is_unstuck : IsUnstuck (run plan board natives limit)
    run_is_unstuck = record { end = run_not_stuck; budgets = run_keeps_budgets }

  -- ---- a state that is ready

  -- what comes upon a choice leaves one, and its events are of the blackboard then
  abbrev LeavesReady : Response → Type 0
  LeavesReady r = Ready r.state × All (IsEventOf plan.schema r.state.board) (events_in r.emitted)

  upon_ready : (source : Source) (v : Verdict) (a : Activation) (t : State) → slice_get plan.sources a.source ≡ Some source → Ready t → SuitsSource plan t.board a → LeavesReady (upon_verdict v source a t)
  upon_ready source verdicts.Valid a t at ready suits =
      let acting' = with_agenda t (with_executed t.agenda a.number) in
      let is = acts_by source a acting' at (chooses 0 a (rating plan t a) verdicts.Valid t ready (λ end none. absurd cc)).state suits source.act refl in
      (is.well.state, is.events)
  upon_ready source verdicts.Invalid a t at ready suits = (ready, All-nil (IsEventOf plan.schema t.board))
  upon_ready source (verdicts.Over end) a t at ready suits = (ready, All-nil (IsEventOf plan.schema t.board))

  choice_ready : (source : Source) (a : Activation) (s : State) → slice_get plan.sources a.source ≡ Some source → Ready s → SuitsSource plan s.board a → LeavesReady (upon_choice source a s)
  choice_ready source a s at ready suits =
      let v = validity source.revalidate a s.board in
      let same : v.1 ≡ s.board = same_board (Some source) a s.board at in
      upon_ready source v.0 a (with_board s v.1) at (ready_on s v.1 same ready) (subst (λ (x : Blackboard). SuitsSource plan x a) (sym same) suits)

  suits_pending : (s : State) (a : Activation) → Ready s → Contains (pending_of s.agenda) a → SuitsSource plan s.board a
  suits_pending s a ready waits = All-contains (SuitsSource plan s.board) (pending_of s.agenda) a ready.waiting waits

  act_or_revalidation : (s : State) (a : Activation) → Ready s → SuitsSource plan s.board a → BeginsFor plan s a
  act_or_revalidation s a ready suits source code at (inl is) = act_begins source a s at ready suits code is
  act_or_revalidation s a ready suits source code at (inr is) = revalidation_begins source a s at ready suits code is

  pub state_begins : (s : State) → Ready s → BeginsEach plan s
  state_begins s ready = record {
    act = λ a waits. act_or_revalidation s a ready (suits_pending s a ready waits);
    leaves = λ a source waits at. choice_ready source a s at ready (suits_pending s a ready waits);
    require = λ event source code here. requires plan sound s event ready here source code;
    react = λ event source reaction a here. reacts plan sound s event ready here source reaction a;
    answers = λ event here. (answer_to plan sound event s ready here).state;
  }
