-- What follows from the law of runs, and so is no clause of it: sources are triggered as the events ask for it, all of
-- them, in their order.
use Rattle.std.proofs.Common.{◌≡◌, ◌⊎◌, ◌≤◌, inl, inr, ℕ, zero, suc, ◌+◌, ◌-◌, ℤ, List, [], ◌∷◌, ◌++◌, length, map, slice_get, Option, Some, None, refl, sym, ap, subst, ◌∙◌, append_assoc, arith, length-append}
use Rattle.std.specs.List.{fold}
use Rattle.std.proofs.lemmas.List.{append-nil, append_cancel_left}
use Rattle.std.proofs.lemmas.List.Concat.{flat_map-append}
use Rattle.std.proofs.lemmas.List.Sums.{fold-append}
use Rattle.bb_agenda.specs.declared.focusing.activation.Activation.{Activation}
use Rattle.bb_trace.specs.Board.{Board as Blackboard}
use Rattle.bb_trace.specs.BoardNote.{Note as BoardNote}
use Rattle.bb_trace.specs.BoardNote.TheVariants.{Event as happened}
use Rattle.bb_trace.specs.Closing.{Closing}
use Rattle.bb_trace.specs.Event.{Event}
use Rattle.bb_trace.specs.Event.TheVariants.{Quiescence as quiescence}
use Rattle.bb_trace.specs.Native.{Native}
use Rattle.bb_trace.specs.Roster.{closings_of}
use Rattle.bb_trace.specs.End.{End}
use Rattle.bb_trace.specs.End as finishes
use Rattle.bb_trace.specs.declared.note.Note.{Note}
use Rattle.bb_trace.specs.declared.note.Note.TheVariants.{Board, Triggered, Declined, Obviated, Retriggered, Chosen, Invalid, Ended, Refused, NativeEnded, Posted, PostEnded, Finished, Closed}
use Rattle.bb_rules.specs.Parts.{Source}
use Rattle.bb_run_plan.specs.Plan.{Plan}
use Rattle.bb_run.specs.Emission.{Response}
use Rattle.bb_run.specs.Executed.{IsFollowed, finish_by, upon_choice}
use Rattle.bb_run.specs.Order.{At, EndsOnce, all_of, chosen_in, notes_of}
use Rattle.bb_run.specs.Phases.{GoesByPhases, Phase, after_in, inside, outside, phase_after, rested}
use Rattle.bb_run.specs.Processing.{events_in}
use Rattle.bb_run.specs.Responds.{Answers, MayComeNext, MayOmit, Responds, noted_on, taken}
use Rattle.bb_run.specs.Run.{finish, run}
use Rattle.bb_run.proofs.rules.OrderLemmas.{Comes, comes_at, comes_none, comes_one, comes_then}
use Rattle.bb_run.proofs.notes.OrderlyParts.{IsEarly}
use Rattle.bb_run.proofs.notes.PaidLemmas.{IsPaid, MayOwe, MayStand, Owes, answered_in, answered_two, asked_by, asked_for, responses_pay}
use Rattle.bb_run.proofs.notes.PendingLemmas.{events_two}
use Rattle.bb_run.proofs.following.UponLemmas.{ActsAreDone, free_come, free_silent, of_act_noted, upon_choices}

may_owe : (end : End) (left : List (Option Note)) (owed : List (ℕ × ℕ)) → (left ≡ [] → owed ≡ []) → MayOmit end left → MayOwe end owed
may_owe finishes.Quiescence left owed whole may = whole may
may_owe finishes.Limit left owed whole may = whole may
may_owe finishes.Full left owed whole may = tt
may_owe (finishes.Due a) left owed whole may = tt
may_owe (finishes.Stuck reason) left owed whole may = tt

may_owe_early : (end : End) (owed : List (ℕ × ℕ)) → IsEarly (Some end) → MayOwe end owed
may_owe_early finishes.Quiescence owed early = absurd early
may_owe_early finishes.Limit owed early = absurd early
may_owe_early finishes.Full owed early = tt
may_owe_early (finishes.Due a) owed early = tt
may_owe_early (finishes.Stuck reason) owed early = tt

inside_rested : inside ≡ rested → ⊥
inside_rested is = absurd cc

module _ (plan : Plan) where
  asked_two : (xs ys : List Event) → asked_for plan (xs ++ ys) ≡ asked_for plan xs ++ asked_for plan ys
  asked_two xs ys = flat_map-append (asked_by plan) xs ys

  closings_come : (closings : List Closing) (past : List Note) → Comes (MayStand plan) past (map Closed closings)
  closings_come [] past = comes_none (MayStand plan) past
  closings_come (c ∷ cs) past = comes_then (MayStand plan) past (Closed c ∷ []) (map Closed cs) (comes_one (MayStand plan) past (Closed c) tt) (closings_come cs (past ++ Closed c ∷ []))

  -- notes that answer nothing, after notes that are paid
  owes_more : (past notes : List Note) → IsPaid plan past → answered_in notes ≡ [] → Owes plan (past ++ notes) (asked_for plan (events_in notes))
  owes_more past notes paid silent =
      ap (λ l. l ++ asked_for plan (events_in notes)) (answered_two past notes ∙ ap (λ l. answered_in past ++ l) silent ∙ append-nil (answered_in past) ∙ paid)
      ∙ sym (asked_two (events_in past) (events_in notes)) ∙ ap (asked_for plan) (sym (events_two past notes))

  paid_of : (notes : List Note) (owed : List (ℕ × ℕ)) → Owes plan notes owed → owed ≡ [] → IsPaid plan notes
  paid_of notes owed owes none = sym (append-nil (answered_in notes)) ∙ ap (λ l. answered_in notes ++ l) (sym none) ∙ owes

  -- after responses less is owed
  owes_less : (past emitted : List Note) (asked rest : List (ℕ × ℕ)) → Owes plan past asked → events_in emitted ≡ [] → answered_in emitted ++ rest ≡ asked → Owes plan (past ++ emitted) rest
  owes_less past emitted asked rest owes quiet front =
      ap (λ l. l ++ rest) (answered_two past emitted) ∙ append_assoc (answered_in past) (answered_in emitted) rest ∙ ap (λ l. answered_in past ++ l) front ∙ owes
      ∙ ap (asked_for plan) (sym (events_two past emitted ∙ ap (λ l. events_in past ++ l) quiet ∙ append-nil (events_in past)))

  module _ (board : Blackboard) (natives : List Native) (limit : ℕ) where
    abbrev all : List Note
    all = notes_of (run plan board natives limit)

    abbrev first : List Note
    first = noted_on board

    -- what each choice is followed by
    abbrev AllFollowed : Type 0
    AllFollowed = (before after : List Note) (cycle : ℕ) (a : Activation) (r : ℤ) → all ≡ before ++ Chosen cycle a r ∷ after → IsFollowed plan (run plan board natives (cycle - 1)).state a after

    -- where no cycle is open
    abbrev IsApart : Phase → Type 0
    IsApart phase = (phase ≡ outside) ⊎ (phase ≡ rested)

    -- the run's next turn comes after these notes, of which so much is owed, and the rest of the run is this
    record IsTurn (past : List Note) (left : List (Option Note)) (rest : List Note) : Type 0 where
      is : all ≡ (first ++ past) ++ rest
      apart : IsApart (phase_after past)
      owed : List (ℕ × ℕ)
      owes : Owes plan (first ++ past) owed
      whole : left ≡ [] → owed ≡ []
      next : MayComeNext left rest

    -- responses come, and then a turn
    record LeadsOn (past after : List Note) : Type 0 where
      emitted : List Note
      comes : Comes (MayStand plan) (first ++ past) emitted
      left : List (Option Note)
      rest : List Note
      after_is : after ≡ emitted ++ rest
      turn : IsTurn (past ++ emitted) left rest

    to_turn : (b : Blackboard) (events : List Event) (past after : List Note) → Answers plan b events (first ++ past) after → all ≡ (first ++ past) ++ after → IsApart (phase_after past) → Owes plan (first ++ past) (asked_for plan events) → LeadsOn past after
    to_turn b events past after answers is apart owes =
        let paid = responses_pay plan b events (first ++ past) answers.emitted answers.left answers.all in
        let still : phase_after (past ++ answers.emitted) ≡ phase_after past = fold-append after_in outside past answers.emitted ∙ paid.still (phase_after past) in
        let one : (first ++ past) ++ answers.emitted ≡ first ++ (past ++ answers.emitted) = append_assoc first past answers.emitted in
        record {
          emitted = answers.emitted;
          comes = paid.comes;
          left = answers.left;
          rest = answers.rest;
          after_is = answers.comes;
          turn = record {
            is = is ∙ ap (λ l. (first ++ past) ++ l) answers.comes ∙ sym (append_assoc (first ++ past) answers.emitted answers.rest) ∙ ap (λ l. l ++ answers.rest) one;
            apart = subst IsApart (sym still) apart;
            owed = paid.rest;
            owes = subst (λ l. Owes plan l paid.rest) one (owes_less (first ++ past) answers.emitted (asked_for plan events) paid.rest owes paid.quiet paid.front);
            whole = paid.whole;
            next = answers.next;
          };
        }

    module _ (phases : GoesByPhases plan board natives (run plan board natives limit)) (followed : AllFollowed) (done : ActsAreDone) (responds : Responds plan board natives limit) (ends : EndsOnce plan natives limit (run plan board natives limit)) where
      -- the closings of the run
      abbrev closings : List Closing
      closings = closings_of (run plan board natives limit).state.natives

      -- a finish, and what comes after it
      finish_comes : (past : List Note) (end : End) (more : List Note) (owed : List (ℕ × ℕ)) → all ≡ past ++ Finished end ∷ more → Owes plan past owed → MayOwe end owed → Comes (MayStand plan) past (Finished end ∷ more)
      finish_comes past end more owed is owes may =
          comes_then (MayStand plan) past (Finished end ∷ []) more (comes_one (MayStand plan) past (Finished end) (owed, (owes, may)))
          (subst (λ l. Comes (MayStand plan) (past ++ Finished end ∷ []) l) (sym (ends.once past end more is)) (closings_come closings (past ++ Finished end ∷ [])))

      -- quiescence may come only where it has not come since the last cycle
      quiet_outside : (past more : List Note) → all ≡ (first ++ past) ++ Board (happened quiescence) ∷ more → IsApart (phase_after past) → phase_after past ≡ outside
      quiet_outside past more is (inl here) = here
      quiet_outside past more is (inr here) =
          let note : Note = Board (happened quiescence) in
          let later : first ++ all_of phases.rest ≡ first ++ (past ++ note ∷ more) = sym (ap all_of phases.begins) ∙ is ∙ append_assoc first past (note ∷ more) in
          elim (phases.notes past (happened quiescence) (more, append_cancel_left first (all_of phases.rest) (past ++ note ∷ more) later)) [
            | inl in_cycle ↦ absurd (inside_rested (sym in_cycle ∙ here))
            | inr quiet ↦ quiet.phase
          ]

      -- what is left of a run comes where it may, if it has no more notes than this
      abbrev Rest : ℕ → Type 0
      Rest fuel = (past : List Note) (left : List (Option Note)) (rest : List Note) → length rest ≤ fuel → IsTurn past left rest → Comes (MayStand plan) (first ++ past) rest

      -- after notes the responses to their events, and what is left
      turns_on : (fuel : ℕ) → Rest fuel → (b : Blackboard) (events : List Event) (past after : List Note) → length after ≤ fuel → Answers plan b events (first ++ past) after → all ≡ (first ++ past) ++ after → IsApart (phase_after past)
          → Owes plan (first ++ past) (asked_for plan events) → Comes (MayStand plan) (first ++ past) after
      turns_on fuel others b events past after few answers is apart owes =
          let to = to_turn b events past after answers is apart owes in
          let one : (first ++ past) ++ to.emitted ≡ first ++ (past ++ to.emitted) = append_assoc first past to.emitted in
          let count : length after ≡ length to.emitted + length to.rest = ap (λ l. length l) to.after_is ∙ length-append to.emitted to.rest in
          let fewer : length to.rest ≤ fuel = omega (arith, few, count) in
          subst (Comes (MayStand plan) (first ++ past)) (sym to.after_is)
          (comes_then (MayStand plan) (first ++ past) to.emitted to.rest to.comes (subst (λ l. Comes (MayStand plan) l to.rest) (sym one) (others (past ++ to.emitted) to.left to.rest fewer to.turn)))

      -- ---- a choice

      module _ (fuel : ℕ) (others : Rest fuel) (past more : List Note) (cycle : ℕ) (a : Activation) (r : ℤ) (few : length more ≤ fuel) (is : all ≡ (first ++ past) ++ Chosen cycle a r ∷ more) (paid : IsPaid plan (first ++ past)) where
        abbrev before : List Note
        before = first ++ past

        abbrev chosen : List Note
        chosen = Chosen cycle a r ∷ []

        abbrev upon : Source → Response
        upon source = upon_choice source a (run plan board natives (cycle - 1)).state

        paid_then : IsPaid plan (before ++ chosen)
        paid_then = answered_two before chosen ∙ append-nil (answered_in before) ∙ paid ∙ ap (asked_for plan) (sym (events_two before chosen ∙ append-nil (events_in before)))

        owes_then : (source : Source) → Owes plan ((before ++ chosen) ++ (upon source).emitted) (asked_for plan (events_in (upon source).emitted))
        owes_then source = owes_more (before ++ chosen) (upon source).emitted paid_then (free_silent plan (upon source).emitted (upon_choices done source a (run plan board natives (cycle - 1)).state).of_act)

        -- the run up to what comes upon the choice
        notes_up_to : (emitted rest : List Note) → more ≡ emitted ++ rest → all ≡ ((before ++ chosen) ++ emitted) ++ rest
        notes_up_to emitted rest same =
            is ∙ ap (λ l. before ++ Chosen cycle a r ∷ l) same ∙ sym (append_assoc before chosen (emitted ++ rest)) ∙ sym (append_assoc (before ++ chosen) emitted rest)

        by_end : (source : Source) (rest : List Note) (end : Option End) → slice_get plan.sources a.source ≡ Some source → (upon source).end ≡ end → more ≡ ((upon source).emitted ++ finish_by end (upon source).state.natives) ++ rest
            → Comes (MayStand plan) (before ++ chosen) more
        by_end source rest None at none begins =
            let u = upon source in
            let s = (run plan board natives (cycle - 1)).state in
            let free = upon_choices done source a s in
            let more_is : more ≡ u.emitted ++ rest = begins ∙ ap (λ l. l ++ rest) (append-nil u.emitted) in
            let later : List Note = (past ++ chosen) ++ u.emitted in
            let same : (before ++ chosen) ++ u.emitted ≡ first ++ later = ap (λ l. l ++ u.emitted) (append_assoc first past chosen) ∙ append_assoc first (past ++ chosen) u.emitted in
            let outside' : phase_after later ≡ outside = fold-append after_in outside (past ++ chosen) u.emitted ∙ ap (λ phase. fold after_in phase u.emitted) (fold-append after_in outside past chosen) ∙ free.over none in
            let answers : Answers plan u.state.board (events_in u.emitted) ((before ++ chosen) ++ u.emitted) rest = responds.choices before more cycle a r is source rest at none more_is in
            let count : length more ≡ length u.emitted + length rest = ap (λ l. length l) more_is ∙ length-append u.emitted rest in
            let fewer : length rest ≤ fuel = omega (arith, few, count) in
            let goes = turns_on fuel others u.state.board (events_in u.emitted) later rest fewer (subst (λ l. Answers plan u.state.board (events_in u.emitted) l rest) same answers)
            (notes_up_to u.emitted rest more_is ∙ ap (λ l. l ++ rest) same) (inl outside') (subst (λ l. Owes plan l (asked_for plan (events_in u.emitted))) same (owes_then source)) in
            subst (Comes (MayStand plan) (before ++ chosen)) (sym more_is)
            (comes_then (MayStand plan) (before ++ chosen) u.emitted rest (free_come plan u.emitted (before ++ chosen) free.of_act) (subst (λ l. Comes (MayStand plan) l rest) (sym same) goes))
        by_end source rest (Some end) at some begins =
            let u = upon source in
            let s = (run plan board natives (cycle - 1)).state in
            let free = upon_choices done source a s in
            let last : List Note = map Closed (closings_of u.state.natives) ++ rest in
            let more_is : more ≡ u.emitted ++ Finished end ∷ last = begins ∙ append_assoc u.emitted (finish end u.state.natives) rest in
            let goes = finish_comes ((before ++ chosen) ++ u.emitted) end last (asked_for plan (events_in u.emitted)) (notes_up_to u.emitted (Finished end ∷ last) more_is) (owes_then source)
            (may_owe_early end (asked_for plan (events_in u.emitted)) (subst IsEarly some free.early)) in
            subst (Comes (MayStand plan) (before ++ chosen)) (sym more_is)
            (comes_then (MayStand plan) (before ++ chosen) u.emitted (Finished end ∷ last) (free_come plan u.emitted (before ++ chosen) free.of_act) goes)

        by_choice : Comes (MayStand plan) before (Chosen cycle a r ∷ more)
        by_choice =
            let f = followed before more cycle a r is in
            comes_then (MayStand plan) before chosen more (comes_one (MayStand plan) before (Chosen cycle a r) paid)
            (by_end f.source f.rest (upon f.source).end f.source_is refl f.begins)

      -- ---- quiescence

      by_quiet : (fuel : ℕ) → Rest fuel → (past more : List Note) (note : BoardNote) → note ≡ happened quiescence → length more ≤ fuel → all ≡ (first ++ past) ++ Board note ∷ more → IsApart (phase_after past) → IsPaid plan (first ++ past)
          → Comes (MayStand plan) (first ++ past) (Board note ∷ more)
      by_quiet fuel others past more note same few is apart paid =
          let quiet' : List Note = Board (happened quiescence) ∷ [] in
          let there' : all ≡ (first ++ past) ++ Board (happened quiescence) ∷ more = is ∙ ap (λ n. (first ++ past) ++ Board n ∷ more) same in
          let here = quiet_outside past more there' apart in
          let answers = responds.quiet past more here there' in
          let one : (first ++ past) ++ quiet' ≡ first ++ (past ++ quiet') = append_assoc first past quiet' in
          let b = (run plan board natives (length (chosen_in past))).state.board in
          let rests : phase_after (past ++ quiet') ≡ rested = fold-append after_in outside past quiet' ∙ ap (λ phase. fold after_in phase quiet') here in
          let goes = turns_on fuel others b (quiescence ∷ []) (past ++ quiet') more few (subst (λ l. Answers plan b (quiescence ∷ []) l more) one answers)
          (there' ∙ sym (append_assoc (first ++ past) quiet' more) ∙ ap (λ l. l ++ more) one) (inr rests) (subst (λ l. Owes plan l (asked_for plan (quiescence ∷ []))) one (owes_more (first ++ past) quiet' paid refl)) in
          subst (λ n. Comes (MayStand plan) (first ++ past) (Board n ∷ more)) (sym same)
          (comes_then (MayStand plan) (first ++ past) quiet' more (comes_one (MayStand plan) (first ++ past) (Board (happened quiescence)) tt) (subst (λ l. Comes (MayStand plan) l more) (sym one) goes))

      -- ---- one turn after another

      turns : (fuel : ℕ) → Rest fuel
      turns zero past left [] few turn = absurd turn.next
      turns zero past left (note ∷ more) few turn = absurd (omega (arith, few))
      turns (suc fuel) past left [] few turn = absurd turn.next
      turns (suc fuel) past left (Finished end ∷ more) few turn = finish_comes (first ++ past) end more turn.owed turn.is turn.owes (may_owe end left turn.owed turn.whole turn.next)
      turns (suc fuel) past left (Chosen cycle a r ∷ more) few turn =
          by_choice fuel (λ p l n. turns fuel p l n) past more cycle a r (omega (arith, few)) turn.is (paid_of (first ++ past) turn.owed turn.owes (turn.whole turn.next))
      turns (suc fuel) past left (Board note ∷ more) few turn =
          by_quiet fuel (λ p l n. turns fuel p l n) past more note turn.next.1 (omega (arith, few)) turn.is turn.apart (paid_of (first ++ past) turn.owed turn.owes (turn.whole turn.next.0))
      turns (suc fuel) past left (Triggered a ∷ more) few turn = absurd turn.next
      turns (suc fuel) past left (Declined source unit ∷ more) few turn = absurd turn.next
      turns (suc fuel) past left (Obviated number ∷ more) few turn = absurd turn.next
      turns (suc fuel) past left (Retriggered number base ∷ more) few turn = absurd turn.next
      turns (suc fuel) past left (Invalid number ∷ more) few turn = absurd turn.next
      turns (suc fuel) past left (Ended steps found allowed ∷ more) few turn = absurd turn.next
      turns (suc fuel) past left (Refused ask refusal ∷ more) few turn = absurd turn.next
      turns (suc fuel) past left (NativeEnded asks ∷ more) few turn = absurd turn.next
      turns (suc fuel) past left (Posted ∷ more) few turn = absurd turn.next
      turns (suc fuel) past left (PostEnded asks ∷ more) few turn = absurd turn.next
      turns (suc fuel) past left (Closed closing ∷ more) few turn = absurd turn.next

      run_comes : Comes (MayStand plan) [] all
      run_comes =
          let after = all_of phases.rest in
          let is : all ≡ first ++ after = ap all_of phases.begins in
          let none : first ++ [] ≡ first = append-nil first in
          let asked = asked_for plan (events_in first) in
          let owes : Owes plan first asked = ap (λ l. l ++ asked) (free_silent plan first (of_act_noted board.world.notes)) in
          let le : length after ≤ length after = omega arith in
          let goes = turns_on (length after) (λ p l n. turns (length after) p l n) (taken board) (events_in first) [] after le
          (subst (λ l. Answers plan (taken board) (events_in first) l after) (sym none) (responds.first after is)) (is ∙ ap (λ l. l ++ after) (sym none)) (inl refl) (subst (λ l. Owes plan l asked) (sym none) owes) in
          subst (Comes (MayStand plan) []) (sym is)
          (comes_then (MayStand plan) [] first after (free_come plan first [] (of_act_noted board.world.notes)) (subst (λ l. Comes (MayStand plan) l after) none goes))

      stands : (before : List Note) (note : Note) → At all before note → MayStand plan before note
      stands before note at = comes_at (MayStand plan) [] all before note at.0 run_comes at.1

      -- ---- what follows

      -- sources are triggered as the events ask for it, in their order, source by source: all of them at a choice
      pub run_is_paid : (before : List Note) (cycle : ℕ) (a : Activation) (r : ℤ) → At all before (Chosen cycle a r) → answered_in before ≡ asked_for plan (events_in before)
      run_is_paid before cycle a r at = stands before (Chosen cycle a r) at

      -- and at a finish by quiescence or by the limit; at another finish the first of them
      pub run_owes : (before : List Note) (end : End) → At all before (Finished end) → (owed : List (ℕ × ℕ)) × ((answered_in before ++ owed ≡ asked_for plan (events_in before)) × MayOwe end owed)
      run_owes before end at = stands before (Finished end) at
