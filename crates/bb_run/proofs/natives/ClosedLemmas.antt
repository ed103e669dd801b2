-- Each native that is handed in is closed once, in order.
use Rattle.std.proofs.Common.{◌≡◌, ℕ, zero, suc, ℤ, List, [], ◌∷◌, ◌++◌, length, map, set, slice_get, Option, Some, None, Result, Ok, Err, refl, sym, ap, subst, ◌∙◌}
use Rattle.std.specs.List.{AllZip}
use Rattle.std.specs.Option.{option_map_or}
use Rattle.std.proofs.lemmas.List.Concat.{flat_map-append}
use Rattle.bb_agenda.specs.declared.focusing.activation.Activation.{Activation}
use Rattle.bb_code.specs.Code.{Code}
use Rattle.bb_machine.specs.declared.outcome.Outcome.{Outcome}
use Rattle.bb_machine.specs.declared.outcome.Stop.{Stop}
use Rattle.bb_rules.specs.declared.source.Act.{Act}
use Rattle.bb_rules.specs.declared.source.Act.TheVariants as acts
use Rattle.bb_trace.specs.Ask.{Ask}
use Rattle.bb_trace.specs.Board.{Board as Blackboard}
use Rattle.bb_trace.specs.Closing.{Closing}
use Rattle.bb_trace.specs.Native.{Native, after_act}
use Rattle.bb_trace.specs.Roster.{after_act_at, asks_at, closings_of, place_of}
use Rattle.bb_trace.specs.Sight.{Sight, sight_of}
use Rattle.bb_trace.specs.End.{End}
use Rattle.bb_trace.specs.declared.note.Note.{Note}
use Rattle.bb_trace.specs.declared.note.Note.TheVariants.{Board, Triggered, Declined, Obviated, Retriggered, Chosen, Invalid, Ended, Refused, NativeEnded, Posted, PostEnded, Finished, Closed}
use Rattle.bb_run_plan.specs.Plan.{Plan}
use Rattle.bb_run.specs.declared.execution.Verdict.{Verdict}
use Rattle.bb_run.specs.declared.execution.Verdict.TheVariants as verdicts
use Rattle.bb_run.specs.State.{State, with_board, with_natives}
use Rattle.bb_run.specs.Emission.{Response, Stretch, emitting, and_then_unless}
use Rattle.bb_run.specs.Asking.{attempt, entry_of}
use Rattle.bb_run.specs.Run.{answered, calling, chosen_with, each_applied, execution, finish, run, unfinished}
use Rattle.bb_run.specs.Order.{IsLike, closed_by, closed_in, notes_of}
use Rattle.bb_run.proofs.rules.AskRule.{HoldsOfAsks, asks_hold}
use Rattle.bb_run.proofs.rules.OrderLemmas.{Comes}
use Rattle.bb_run.proofs.notes.OrderlyParts.{May}
use Rattle.bb_run.proofs.notes.OrderlyRuns.{run_notes}
use Rattle.bb_run.proofs.keeping.ReadLemmas.{same_natives}
use Rattle.bb_run.proofs.rules.StateRule.{IsKept, kept_then, run_keeps}

-- ---- natives are those that were handed in

alike : (natives : List Native) → AllZip IsLike natives natives
alike [] = tt
alike (n ∷ ns) = ((n.held, refl), alike ns)

-- the one at a place holds something else
alike_set : (natives left : List Native) (place unit : ℕ) (seen : Sight) (n : Native) → slice_get left place ≡ Some n → AllZip IsLike natives left → AllZip IsLike natives (set left place (after_act n unit seen))
alike_set natives [] place unit seen n is like = like
alike_set [] (m ∷ left) place unit seen n is like = absurd like
alike_set (k ∷ natives) (m ∷ left) zero unit seen n is like =
    let same : m ≡ n = cc in
    ((k.next like.0.0 unit seen, ap (λ (x : Native). after_act x unit seen) (sym same ∙ like.0.1)), like.1)
alike_set (k ∷ natives) (m ∷ left) (suc place) unit seen n is like = (like.0, alike_set natives left place unit seen n is like.1)

alike_acted : (natives left : List Native) (place unit : ℕ) (seen : Sight) (o : Option Native) → slice_get left place ≡ o → AllZip IsLike natives left → AllZip IsLike natives (option_map_or (λ n. set left place (after_act n unit seen)) o left)
alike_acted natives left place unit seen None is like = like
alike_acted natives left place unit seen (Some n) is like = alike_set natives left place unit seen n is like

-- with their names
pub same_names : (natives left : List Native) → AllZip IsLike natives left → map (λ (c : Closing). c.name) (closings_of left) ≡ map (λ (n : Native). n.name) natives
same_names [] [] like = refl
same_names [] (m ∷ left) like = absurd like
same_names (n ∷ natives) [] like = absurd like
same_names (n ∷ natives) (m ∷ left) like = ap (λ (x : Native). x.name ∷ map (λ (c : Closing). c.name) (closings_of left)) like.0.1 ∙ ap (λ l. n.name ∷ l) (same_names natives left like.1)

-- ---- each part of a run leaves them so

-- applying asks leaves all natives as they were
abbrev Leaves : State → Response → Type 0
Leaves s r = r.state.natives ≡ s.natives

leaves_then : (s : State) (r : Response) (next : State → Response) (end : Option End) → Leaves s r → Leaves r.state (next r.state) → Leaves s (and_then_unless end r next)
leaves_then s r next (Some e) first rest = first
leaves_then s r next None first rest = rest ∙ first

ask_parts : (asks : List Ask) → HoldsOfAsks asks Leaves
ask_parts asks = record {
  nothing = λ s. refl;
  changed = λ s ask b is. refl;
  refused = λ s number refusal. refl;
  full = λ s ask there is. refl;
  no_memory = λ s ask is. refl;
  further = λ s r next first rest. leaves_then s r next r.end first rest;
}

module _ (natives : List Native) where
  abbrev Left : State → Type 0
  Left s = AllZip IsLike natives s.natives

  calls : (plan : Plan) (place : Option ℕ) (a : Activation) (s : State) → Left s → Left (calling place a s).state
  calls plan None a s left = left
  calls plan (Some place) a s left =
      let seen = sight_of s.board in
      let asks = asks_at s.natives place a.unit seen in
      let t = with_natives s (after_act_at s.natives place a.unit seen) in
      let r = each_applied 1 asks t in
      kept_then plan Left r (λ u. emitting (NativeEnded (length asks) ∷ []) u None) r.end
      (subst (AllZip IsLike natives) (sym (asks_hold asks Leaves (ask_parts asks) t)) (alike_acted natives s.natives place a.unit seen (slice_get s.natives place) refl left)) (λ u there. there)

  answered_left : (body : Code) (s : State) (r : Result Outcome Stop) → Left s → Left (answered body s r).state
  answered_left body s (Ok o) left = left
  answered_left body s (Err stop) left = left

  chooses : (number : ℕ) (a : Activation) (r : ℤ) (v : Verdict) (s : State) → Left s → Left (chosen_with number a r v s).state
  chooses number a r verdicts.Valid s left = left
  chooses number a r verdicts.Invalid s left = left
  chooses number a r (verdicts.Over end) s left = left

  executes : (plan : Plan) (name : List ℕ) (act : Act) (a : Activation) (s : State) → Left s → Left (execution name act a s).state
  executes plan name (acts.Code body) a s left =
      let e = attempt body.code (entry_of a.unit None) s.board in answered_left body.code (with_board s e.1) e.0 left
  executes plan name acts.Native a s left = calls plan (place_of s.natives name) a s left

  pub left_kept : (plan : Plan) → IsKept plan Left
  left_kept plan = record {
    events = λ event s left. subst (AllZip IsLike natives) (sym (same_natives plan event s)) left;
    executes = executes plan;
    asks = λ source a s is left. left;
    chooses = chooses;
  }

-- ---- nothing else is closed

closed_all : (closings : List Closing) → closed_in (map Closed closings) ≡ closings
closed_all [] = refl
closed_all (c ∷ cs) = ap (λ l. c ∷ l) (closed_all cs)

module _ (plan : Plan) (board : Blackboard) (natives : List Native) where
  none_closed : (past notes : List Note) → Comes (May plan board natives) past notes → closed_in notes ≡ []
  unfolding Comes
  none_closed past [] p = refl
  none_closed past (Board note ∷ notes) p = none_closed (past ++ Board note ∷ []) notes p.1
  none_closed past (Triggered a ∷ notes) p = none_closed (past ++ Triggered a ∷ []) notes p.1
  none_closed past (Declined source unit ∷ notes) p = none_closed (past ++ Declined source unit ∷ []) notes p.1
  none_closed past (Obviated number ∷ notes) p = none_closed (past ++ Obviated number ∷ []) notes p.1
  none_closed past (Retriggered number base ∷ notes) p = none_closed (past ++ Retriggered number base ∷ []) notes p.1
  none_closed past (Chosen number a r ∷ notes) p = none_closed (past ++ Chosen number a r ∷ []) notes p.1
  none_closed past (Invalid number ∷ notes) p = none_closed (past ++ Invalid number ∷ []) notes p.1
  none_closed past (Ended steps found budget ∷ notes) p = none_closed (past ++ Ended steps found budget ∷ []) notes p.1
  none_closed past (Refused ask refusal ∷ notes) p = none_closed (past ++ Refused ask refusal ∷ []) notes p.1
  none_closed past (NativeEnded asks ∷ notes) p = none_closed (past ++ NativeEnded asks ∷ []) notes p.1
  none_closed past (Posted ∷ notes) p = none_closed (past ++ Posted ∷ []) notes p.1
  none_closed past (PostEnded asks ∷ notes) p = none_closed (past ++ PostEnded asks ∷ []) notes p.1
  none_closed past (Finished end ∷ notes) p = absurd p.0
  none_closed past (Closed closing ∷ notes) p = absurd p.0

  -- each of the natives that were handed in is closed once, in order
  pub record ClosesEach (run : Stretch) : Type 0 where
    pub left : AllZip IsLike natives run.state.natives
    pub closings : closed_in (notes_of run) ≡ closings_of run.state.natives

  pub run_closes_each : (limit : ℕ) → ClosesEach (run plan board natives limit)
  run_closes_each limit =
      let left : AllZip IsLike natives (run plan board natives limit).state.natives = run_keeps plan (Left natives) (left_kept natives plan) board natives (alike natives) limit in
      let closings = closings_of (run plan board natives limit).state.natives in
      let before = run_notes plan board natives limit in
      let all : closed_in (notes_of (run plan board natives limit)) ≡ closings =
      ap closed_in before.notes
      ∙ (flat_map-append closed_by (notes_of (unfinished plan board natives limit)) (finish before.end (run plan board natives limit).state.natives)
      ∙ (ap (λ l. l ++ closed_in (map Closed closings)) (none_closed [] (notes_of (unfinished plan board natives limit)) before.comes) ∙ closed_all closings)) in
      record { left = left; closings = all }
