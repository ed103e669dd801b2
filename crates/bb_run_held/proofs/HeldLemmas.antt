-- Where a move leaves a run, by what its code emitted and wrote.
use Rattle.std.proofs.Common.{◌≡◌, false, ℕ, ◌+◌, ◌-◌, List, [], Option, Some, None, Result, Ok, Err, sym, ap, subst, ◌∙◌}
use Rattle.std.specs.Io.KnownBytes.{Appends}
use Rattle.std.specs.Prelude.{OnOk}
use Rattle.bb_run.specs.Activation.{Activation}
use Rattle.bb_run.specs.End.{End}
use Rattle.bb_run.specs.End as ends
use Rattle.bb_run.specs.Halt.{Halt}
use Rattle.bb_run.specs.Halt.TheVariants as halts
use Rattle.bb_run.specs.Plan.{Plan}
use Rattle.bb_run.specs.Run.{choice, cycle, cycles}
use Rattle.bb_run.specs.State.{State}
use Rattle.bb_run.specs.Emission.{Stretch}
use Rattle.bb_run.specs.Emitting.{MakesBy, Place, Writes, WritesBy, WritesEmitted, WroteUntil, at_page}
use Rattle.bb_run.specs.TraceText.{trace_text}
use Rattle.bb_run.specs.Finish.{WritesFront}
use Rattle.bb_run.specs.declared.finish.Finish.TheVariants as finishes
use Rattle.bb_run.specs.Turns.{choices_of, turn, turn_by}
use Rattle.bb_run.specs.Unstuck.{NotDue}
use Rattle.bb_run.proofs.Laws.{wrote_first, wrote_front}
use Rattle.bb_run_held.specs.Making.{Makes, stands}
use Rattle.bb_run_held.specs.Moves.{advanced, after, ended, is_due, pause_by}
use Rattle.bb_run_held.specs.declared.pause.Pause.{Pause}
use Rattle.bb_run_held.specs.declared.pause.Pause.TheVariants.{Going, Resting, Due, Over}

-- what a part emitted that began on an empty page is written
pub wrote_by : {X : Type 0} (end_of : X → Option End) (plan : Plan) (place : Place) (start given : Option (List ℕ)) (page : List ℕ) (p : Stretch) (s : State) (emitted result : Result X Halt)
    → page ≡ [] → MakesBy end_of plan (at_page start page) place p s emitted → WritesEmitted place given emitted result → WritesBy end_of plan start given p s result
wrote_by end_of plan place start given page p s emitted result empty makes writes =
    writes end_of plan start p s (subst (λ l. MakesBy end_of plan (at_page start l) place p s emitted) empty makes)

-- what was written whole was emitted whole: else any end would be that of the part
pub emitted_whole : {X : Type 0} (end_of : X → Option End) (plan : Plan) (place : Place) (start given : Option (List ℕ)) (page : List ℕ) (p : Stretch) (s : State) (emitted : Result X Halt) (x : X) (fact : Type 0)
    → page ≡ [] → MakesBy end_of plan (at_page start page) place p s emitted → WritesEmitted place given emitted (Ok x) → OnOk emitted fact → fact
emitted_whole end_of plan place start given page p s (Ok y) x fact empty makes writes is = is
emitted_whole end_of plan place start given page p s (Err halt) x fact empty makes writes is =
    let none = wrote_by end_of plan place start given page (record p { end = None }) s (Err halt) (Ok x) empty makes writes in
    let limit = wrote_by end_of plan place start given page (record p { end = Some ends.Limit }) s (Err halt) (Ok x) empty makes writes in
    absurd (let no : None ≡ Some ends.Limit = sym none.1.end ∙ limit.1.end in cc)

module _ (plan : Plan) (taken given : Option (List ℕ)) (p : Stretch) (s : State) where
  -- the run stands where a move leaves it
  stands_after : (made : ℕ) (pause : Pause) → s ≡ p.state → pause ≡ pause_by p.end → stands s made pause ≡ (after made p).standing
  stands_after made pause state is =
      ap (λ (t : State). stands t made pause) state ∙ ap (λ x. stands p.state made x) is

  -- a move that was written whole
  pub makes_whole : {X : Type 0} (end_of : X → Option End) (made now : ℕ) (x : X) (pause : Pause) → now ≡ made → pause ≡ pause_by (end_of x) → WritesBy end_of plan taken given p s (Ok x)
      → Makes plan (after made p) (stands s now pause) taken given (Ok pause)
  makes_whole end_of made now x pause counted is wrote =
      let paused : pause ≡ pause_by p.end = is ∙ ap pause_by wrote.1.end in
      (ap (λ n. stands s n pause) counted ∙ stands_after made pause wrote.1.state paused, paused, wrote.0)

  -- a start that was written whole
  pub begins_whole : (end : Option End) (pause : Pause) → pause ≡ pause_by end → WritesBy (λ e. e) plan taken given p s (Ok end)
      → (stands s 0 pause ≡ (after 0 p).standing) × Appends taken given (trace_text plan p.emitted)
  begins_whole end pause is wrote = (stands_after 0 pause wrote.1.state (is ∙ ap pause_by wrote.1.end), wrote.0)

  -- what was written of a run that is cut short in its finish
  pub front_memory : {X : Type 0} (r : Result X Halt) (halt : Halt) → r ≡ Err halt → halt ≡ halts.Memory → Writes plan taken given p.emitted r → WritesFront plan p finishes.Memory taken given
  front_memory r halt is why wrote =
      wrote_first plan p taken given (subst (WroteUntil plan taken given p.emitted) why (subst (Writes plan taken given p.emitted) is wrote))

  pub front_write : {X : Type 0} (r : Result X Halt) (halt : Halt) → r ≡ Err halt → halt ≡ halts.Write → Writes plan taken given p.emitted r → WritesFront plan p finishes.Write taken given
  front_write r halt is why wrote =
      wrote_front plan p taken given (subst (WroteUntil plan taken given p.emitted) why (subst (Writes plan taken given p.emitted) is wrote))

-- a run that has no native due did not end with one
pub ended_not_due : (pause : Pause) → is_due pause ≡ false → NotDue (ended pause)
ended_not_due Going is = tt
ended_not_due Resting is = tt
ended_not_due (Due a) is = absurd cc
ended_not_due (Over ends.Quiescence) is = tt
ended_not_due (Over ends.Limit) is = tt
ended_not_due (Over ends.Full) is = tt
ended_not_due (Over (ends.Due a)) is = absurd cc
ended_not_due (Over (ends.Stuck reason)) is = tt

-- cycles that were written whole, by the number of the last
pub advances_whole : (plan : Plan) (made last count now : ℕ) (s t : State) (taken given : Option (List ℕ)) (end : End) (pause : Pause) → last - made ≡ count → now ≡ made + choices_of (cycles plan made (last - made) s)
    → pause ≡ pause_by (Some end) → WritesBy (λ e. Some e) plan taken given (cycles plan made (last - made) s) t (Ok end) → Makes plan (advanced plan made count s) (stands t now pause) taken given (Ok pause)
advances_whole plan made last count now s t taken given end pause number counted is wrote =
    let p = cycles plan made (last - made) s in
    subst (λ n. Makes plan (advanced plan made n s) (stands t now pause) taken given (Ok pause)) number (makes_whole plan taken given p t (λ e. Some e) (made + choices_of p) now end pause counted is wrote)

-- a turn is a cycle where something can be chosen
pub turn_acts : (plan : Plan) (made : ℕ) (s : State) (number : ℕ) (a : Activation) → number ≡ made + 1 → choice plan s ≡ Some a → cycle plan number a s ≡ turn plan made s
turn_acts plan made s number a next is = ap (λ n. cycle plan n a s) next ∙ sym (ap (turn_by plan made s) is)
