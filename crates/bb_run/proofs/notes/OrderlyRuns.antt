-- Each run goes on orderly up to its end.
use Rattle.std.proofs.Common.{◌≡◌, ◌<◌, ◌≤◌, ℕ, zero, suc, ℤ, ◌+◌, ◌-◌, List, [], ◌∷◌, ◌++◌, length, map, Option, Some, None, refl, sym, ap, subst, ◌∙◌, append_assoc, arith}
use Rattle.std.proofs.lemmas.List.{append-nil}
use Rattle.std.proofs.lemmas.List.Elements.{All-contains}
use Rattle.bb_trace.specs.Board.{Board as Blackboard}
use Rattle.bb_agenda.specs.declared.focusing.activation.Activation.{Activation}
use Rattle.bb_agenda.specs.Agenda.{Agenda, next_number, pending_of}
use Rattle.bb_agenda.proofs.Laws.{chosen_some}
use Rattle.bb_trace.specs.End.{End}
use Rattle.bb_trace.specs.End as finishes
use Rattle.bb_trace.specs.declared.note.Note.{Note}
use Rattle.bb_trace.specs.declared.note.Note.TheVariants.{Chosen, Finished, Closed}
use Rattle.bb_trace.specs.Closing.{Closing}
use Rattle.bb_trace.specs.Native.{Native}
use Rattle.bb_trace.specs.Roster.{closings_of}
use Rattle.bb_run_plan.specs.Plan.{Plan}
use Rattle.bb_run.specs.State.{State}
use Rattle.bb_run.specs.Emission.{Stretch, emitting, over, after_emitted, and_then, and_then_unless}
use Rattle.bb_run.specs.Run.{rating, choice, wait, noted, cycle, if_chosen, cycles, finish, first_state, start, finish_segments, with_finish, unfinished, run}
use Rattle.bb_run_plan.specs.Foci.{setting_of}
use Rattle.bb_run.specs.Order.{all_of, notes_of, At, chosen_in, IsChosenAfter}
use Rattle.bb_run.proofs.rules.OrderLemmas.{Comes, ComesBefore, comes_before, comes_last, comes_none, comes_then}
use Rattle.bb_run.proofs.notes.PendingLemmas.{IsKnown, Stands, chosen_then, is_apart, stands_first}
use Rattle.bb_run.proofs.notes.OrderlyParts.{all_of_more, all_of_two, IsEarly, MayChoose, May, Agrees, Emits, reports, waits_for}
use Rattle.bb_run.proofs.notes.OrderlyCycles.{keeps_board, cycles_once}

-- closings are no choices
closed_unchosen : (closings : List Closing) → chosen_in (map Closed closings) ≡ []
closed_unchosen [] = refl
closed_unchosen (c ∷ cs) = closed_unchosen cs

module _ (plan : Plan) (board : Blackboard) (natives : List Native) where
  -- ---- the run so far

  -- whatever the limit, a run that makes `made` cycles begins with these segments
  abbrev pub Begins : (emitted : List (List Note)) (made : ℕ) → State → Type 0
  Begins emitted made s = (left limit : ℕ) → limit ≡ made + left → unfinished plan board natives limit ≡ after_emitted emitted (cycles plan made left s)

  -- what comes after the wait before a cycle, where no cycle more can be made, and where one can
  abbrev at_limit : Option Activation → State → Stretch
  at_limit c t = if_chosen t c (λ a. over finishes.Limit t)

  abbrev at_cycle : (made left : ℕ) → Option Activation → State → Stretch
  at_cycle made left c t = if_chosen t c (λ a. and_then (cycle plan (made + 1) a t) (cycles plan (made + 1) left))

  module _ (made : ℕ) (s : State) (a : Activation) (goes : (wait plan s).end ≡ None) (chosen : choice plan (wait plan s).state ≡ Some a) where
    -- the run is over, if no cycle more can be made
    limit_after : cycles plan made zero s ≡ after_emitted (wait plan s).emitted (over finishes.Limit (wait plan s).state)
    unfolding cycles
    limit_after =
        let p = wait plan s in
        ap (λ e. and_then_unless e p (λ t. at_limit (choice plan t) t)) goes ∙ ap (λ c. after_emitted p.emitted (at_limit c p.state)) chosen

    -- a cycle comes, if one more can be made
    cycle_after : (left : ℕ) → cycles plan made (suc left) s ≡ after_emitted (wait plan s).emitted (and_then (cycle plan (made + 1) a (wait plan s).state) (cycles plan (made + 1) left))
    unfolding cycles
    cycle_after left =
        let p = wait plan s in
        ap (λ e. and_then_unless e p (λ t. at_cycle made left (choice plan t) t)) goes ∙ ap (λ c. after_emitted p.emitted (at_cycle made left c p.state)) chosen

  -- segments before segments
  after_three : (xs ys zs : List (List Note)) (q : Stretch) → after_emitted xs (after_emitted ys (after_emitted zs q)) ≡ after_emitted (xs ++ (ys ++ zs)) q
  after_three xs ys zs q =
      let same : xs ++ (ys ++ (zs ++ q.emitted)) ≡ (xs ++ (ys ++ zs)) ++ q.emitted = ap (λ l. xs ++ l) (sym (append_assoc ys zs q.emitted)) ∙ sym (append_assoc xs (ys ++ zs) q.emitted) in
      ap (λ l. emitting l q.state q.end) same

  -- with one cycle more the run still begins so
  pub begins_next : (emitted : List (List Note)) (made : ℕ) (s : State) (a : Activation) → Begins emitted made s → (wait plan s).end ≡ None → choice plan (wait plan s).state ≡ Some a → (cycle plan (made + 1) a (wait plan s).state).end ≡ None
      → Begins (emitted ++ ((wait plan s).emitted ++ (cycle plan (made + 1) a (wait plan s).state).emitted)) (made + 1) (cycle plan (made + 1) a (wait plan s).state).state
  begins_next emitted made s a begins goes chosen on = λ left limit is.
      let p = wait plan s in
      let c = cycle plan (made + 1) a p.state in
      let count : limit ≡ made + suc left = omega (arith, is) in
      begins (suc left) limit count
      ∙ ap (λ q. after_emitted emitted q) (cycle_after made s a goes chosen left ∙ ap (λ e. after_emitted p.emitted (and_then_unless e c (cycles plan (made + 1) left))) on)
      ∙ after_three emitted p.emitted c.emitted (cycles plan (made + 1) left c.state)

  -- ---- a choice

  -- the state where a choice is made is the last of the run that ends by its limit there
  choice_after : (u : Stretch) (past : List Note) (emitted segments : List (List Note)) (made : ℕ) (t : State) (a : Activation) → u ≡ after_emitted emitted (after_emitted segments (over finishes.Limit t)) → past ≡ all_of emitted → Agrees plan board natives (past ++ all_of segments) made made t.agenda
      → choice plan t ≡ Some a → IsChosenAfter plan (with_finish u) (past ++ all_of segments) (made + 1) a (rating plan t a)
  choice_after u past emitted segments made t a is before stands chosen =
      let last = finish finishes.Limit t.natives in
      let best = chosen_some (rating plan t) plan.floor (pending_of t.agenda) a chosen in
      subst (λ v. IsChosenAfter plan (with_finish v) (past ++ all_of segments) (made + 1) a (rating plan t a)) (sym is) (record {
        counted = ap (λ n. n + 1) stands.cycles;
        once = is_apart (length plan.sources) (past ++ all_of segments) made made t.agenda stands a best.waits;
        emitted = all_of_more (emitted ++ (segments ++ [])) last ∙ ap (λ l. l ++ last) (all_of_two emitted (segments ++ []) ∙ ap (λ l. all_of emitted ++ all_of l) (append-nil segments) ∙ ap (λ l. l ++ all_of segments) (sym before));
        agenda = stands.pending;
        choice_is = chosen;
        rated = refl;
        best = best;
      })

  -- a cycle may choose what is chosen after the wait
  may_choose : (past : List Note) (emitted : List (List Note)) (made : ℕ) (s : State) (a : Activation) → Begins emitted made s → past ≡ all_of emitted → (wait plan s).end ≡ None → choice plan (wait plan s).state ≡ Some a
      → Agrees plan board natives (past ++ notes_of (wait plan s)) made made (wait plan s).state.agenda → MayChoose plan board natives (past ++ notes_of (wait plan s)) (made + 1) a (rating plan (wait plan s).state a)
  may_choose past emitted made s a begins before goes chosen stands =
      let p = wait plan s in
      let count : made + 1 - 1 ≡ made + zero = omega arith in
      let one : made ≡ made + 1 - 1 = omega arith in
      let ends = begins zero (made + 1 - 1) count ∙ ap (λ q. after_emitted emitted q) (limit_after made s a goes chosen) in
      record {
        choice = choice_after (unfinished plan board natives (made + 1 - 1)) past emitted p.emitted made p.state a ends before stands chosen;
        stands =
            subst (λ n. Stands (length plan.sources) (past ++ notes_of p) n n (run plan board natives (made + 1 - 1)).state.agenda) one
            (subst (λ u. Stands (length plan.sources) (past ++ notes_of p) made made (with_finish u).state.agenda) (sym ends) stands);
        goes_on =
            ap (λ (u : Stretch). u.state) (begins (suc zero) (made + 1) refl ∙ ap (λ q. after_emitted emitted q) (cycle_after made s a goes chosen zero))
            ∙ ap (λ t. (and_then (cycle plan (made + 1) a t) (cycles plan (made + 1) zero)).state) (sym (ap (λ (u : Stretch). u.state) ends));
      }

  -- ---- cycles up to the end

  -- notes after those in the past that end a run, with the state that they leave
  record Ends (past notes : List Note) (limit : ℕ) (s : State) (end : Option End) : Type 0 where
    comes : Comes (May plan board natives) past notes
    ends : (e : End) × (end ≡ Some e)
    within : length (chosen_in (past ++ notes)) ≤ limit
    met : end ≡ Some finishes.Limit → length (chosen_in (past ++ notes)) ≡ limit
    left : end ≡ Some finishes.Limit → (a : Activation) × (choice plan s ≡ Some a)
    exhausted : end ≡ Some finishes.Quiescence → choice plan s ≡ None

  -- the notes of a stretch may come after those in the past, and end the run
  abbrev EmitsLast : (past : List Note) (limit : ℕ) → Stretch → Type 0
  EmitsLast past limit p = Ends past (notes_of p) limit p.state p.end

  -- notes before others
  ends_more : (past xs ys : List Note) (limit : ℕ) (s : State) (end : Option End) → Comes (May plan board natives) past xs → Ends (past ++ xs) ys limit s end → Ends past (xs ++ ys) limit s end
  ends_more past xs ys limit s end may rest =
      let same : (past ++ xs) ++ ys ≡ past ++ (xs ++ ys) = append_assoc past xs ys in
      record {
        comes = comes_then (May plan board natives) past xs ys may rest.comes;
        ends = rest.ends;
        within = subst (λ l. length (chosen_in l) ≤ limit) same rest.within;
        met = λ e. subst (λ l. length (chosen_in l) ≡ limit) same (rest.met e);
        left = rest.left;
        exhausted = rest.exhausted;
      }

  -- a stretch, and then the next, in which the run ends
  ends_then : (past : List Note) (made executed limit : ℕ) (p : Stretch) (next : State → Stretch) (end : Option End) → p.end ≡ end → made ≤ limit → Emits plan board natives past made executed p
      → (p.end ≡ None → Agrees plan board natives (past ++ notes_of p) made executed p.state.agenda → EmitsLast (past ++ notes_of p) limit (next p.state)) → EmitsLast past limit (and_then_unless end p next)
  ends_then past made executed limit p next (Some end) is le first rest = record {
    comes = first.comes;
    ends = (end, is);
    within = subst (λ n. n ≤ limit) first.cycles le;
    met = λ e. absurd (subst IsEarly e first.early);
    left = λ e. absurd (subst IsEarly e first.early);
    exhausted = λ e. absurd (subst IsEarly e first.early);
  }
  ends_then past made executed limit p next None is le first rest =
      let q = next p.state in
      subst (λ l. Ends past l limit q.state q.end) (sym (all_of_two p.emitted q.emitted)) (ends_more past (notes_of p) (notes_of q) limit q.state q.end first.comes (rest is (first.stands is)))

  -- no cycle comes of no notes
  same_count : (past : List Note) (made executed : ℕ) (agenda : Agenda) → Agrees plan board natives past made executed agenda → length (chosen_in (past ++ [])) ≡ made
  same_count past made executed agenda stands = ap (λ l. length (chosen_in l)) (append-nil past) ∙ sym stands.cycles

  -- nothing can be chosen
  ends_quiet : (past : List Note) (made executed limit : ℕ) (t : State) → made ≤ limit → choice plan t ≡ None → Agrees plan board natives past made executed t.agenda → EmitsLast past limit (over finishes.Quiescence t)
  ends_quiet past made executed limit t le none stands = record {
    comes = comes_none (May plan board natives) past;
    ends = (finishes.Quiescence, refl);
    within = subst (λ n. n ≤ limit) (sym (same_count past made executed t.agenda stands)) le;
    met = λ e. absurd cc;
    left = λ e. absurd cc;
    exhausted = λ e. none;
  }

  -- no cycle more can be made
  ends_limit : (past : List Note) (limit executed : ℕ) (t : State) (c : Option Activation) → choice plan t ≡ c → Agrees plan board natives past limit executed t.agenda → EmitsLast past limit (at_limit c t)
  ends_limit past limit executed t None is stands = ends_quiet past limit executed limit t (omega arith) is stands
  ends_limit past limit executed t (Some a) is stands =
      let count = same_count past limit executed t.agenda stands in
      record {
        comes = comes_none (May plan board natives) past;
        ends = (finishes.Limit, refl);
        within = omega (arith, count);
        met = λ e. count;
        left = λ e. (a, is);
        exhausted = λ e. absurd cc;
      }

  -- a cycle is made, if one can be chosen
  ends_cycle : (past : List Note) (made left limit : ℕ) (t : State) (c : Option Activation) → choice plan t ≡ c → made + 1 ≤ limit → Agrees plan board natives past made made t.agenda
      → ((a : Activation) → choice plan t ≡ Some a → MayChoose plan board natives past (made + 1) a (rating plan t a))
      → ((a : Activation) → choice plan t ≡ Some a → let p = cycle plan (made + 1) a t in p.end ≡ None → Agrees plan board natives (past ++ notes_of p) (made + 1) (made + 1) p.state.agenda → EmitsLast (past ++ notes_of p) limit (cycles plan (made + 1) left p.state))
      → EmitsLast past limit (at_cycle made left c t)
  ends_cycle past made left limit t None is le stands may rest = ends_quiet past made made limit t (omega arith) is stands
  ends_cycle past made left limit t (Some a) is le stands may rest =
      let p = cycle plan (made + 1) a t in
      let there = (chosen_some (rating plan t) plan.floor (pending_of t.agenda) a is).waits in
      ends_then past (made + 1) (made + 1) limit p (cycles plan (made + 1) left) p.end refl le (cycles_once plan board natives a t past made (may a is) there stands) (rest a is)

  waits : (past : List Note) (made : ℕ) (s : State) → Agrees plan board natives past made made s.agenda → Emits plan board natives past made made (wait plan s)
  waits past made s stands = waits_for plan board natives past made made s (choice plan s) stands

  -- as many cycles as are left
  all_cycles : (left made limit : ℕ) (past : List Note) (emitted : List (List Note)) (s : State) → limit ≡ made + left → past ≡ all_of emitted → Begins emitted made s → Agrees plan board natives past made made s.agenda → EmitsLast past limit (cycles plan made left s)
  unfolding cycles
  all_cycles zero made limit past emitted s count before begins stands =
      let p = wait plan s in
      let met : limit ≡ made = omega (arith, count) in
      ends_then past made made limit p (λ t. at_limit (choice plan t) t) p.end refl (omega (arith, count)) (waits past made s stands)
      (λ goes later. ends_limit (past ++ notes_of p) limit made p.state (choice plan p.state) refl (subst (λ n. Agrees plan board natives (past ++ notes_of p) n made p.state.agenda) (sym met) later))
  all_cycles (suc left) made limit past emitted s count before begins stands =
      let p = wait plan s in
      ends_then past made made limit p (λ t. at_cycle made left (choice plan t) t) p.end refl (omega (arith, count)) (waits past made s stands)
      (λ goes later. ends_cycle (past ++ notes_of p) made left limit p.state (choice plan p.state) refl (omega (arith, count)) later
      (λ a chosen. may_choose past emitted made s a begins before goes chosen later)
      (λ a chosen on after.
      let c = cycle plan (made + 1) a p.state in
      let all : (past ++ notes_of p) ++ notes_of c ≡ all_of (emitted ++ (p.emitted ++ c.emitted)) =
      append_assoc past (notes_of p) (notes_of c) ∙ ap (λ l. l ++ (notes_of p ++ notes_of c)) before ∙ ap (λ l. all_of emitted ++ l) (sym (all_of_two p.emitted c.emitted)) ∙ sym (all_of_two emitted (p.emitted ++ c.emitted)) in
      let more : limit ≡ made + 1 + left = omega (arith, count) in
      all_cycles left (made + 1) limit ((past ++ notes_of p) ++ notes_of c) (emitted ++ (p.emitted ++ c.emitted)) c.state more all (begins_next emitted made s a begins goes chosen on) after))

  -- ---- the whole run

  starts : Emits plan board natives [] 0 0 (start plan board natives)
  starts =
      let first : State = first_state plan board natives in
      reports plan board natives [] 0 0 (noted first [] None) (keeps_board plan board natives [] 0 0 0 first None tt (λ none. refl) (stands_first (length plan.sources) (setting_of plan) first.agenda.foci))

  -- the run up to its finish
  ends_all : (limit : ℕ) → EmitsLast [] limit (unfinished plan board natives limit)
  ends_all limit =
      let p = start plan board natives in
      ends_then [] 0 0 limit p (cycles plan 0 limit) p.end refl (omega arith) starts
      (λ goes later. all_cycles limit 0 limit (notes_of p) p.emitted p.state (omega arith) refl
      (λ left any is. let same : any ≡ left = omega (arith, is) in ap (λ e. and_then_unless e p (cycles plan 0 any)) goes ∙ ap (λ n. after_emitted p.emitted (cycles plan 0 n p.state)) same) later)

  -- the end of the whole run
  end_of_run : (limit : ℕ) → (e : End) × ((unfinished plan board natives limit).end ≡ Some e)
  end_of_run limit = (ends_all limit).ends

  -- what natives say at their close
  abbrev closings : (limit : ℕ) → List Closing
  closings limit = closings_of (unfinished plan board natives limit).state.natives

  -- the notes of a run, the finish and the closings last
  notes_of_run : (limit : ℕ) → notes_of (run plan board natives limit) ≡ notes_of (unfinished plan board natives limit) ++ Finished (end_of_run limit).0 ∷ map Closed (closings limit)
  notes_of_run limit =
      let p = unfinished plan board natives limit in
      ap (λ e. all_of (p.emitted ++ finish_segments e p.state.natives)) (end_of_run limit).1 ∙ all_of_more p.emitted (finish (end_of_run limit).0 p.state.natives)

  -- how the notes of the run end, and that each before may come where it is
  pub record Notes (limit : ℕ) : Type 0 where
    pub end : End
    pub notes : notes_of (run plan board natives limit) ≡ notes_of (unfinished plan board natives limit) ++ finish end (run plan board natives limit).state.natives
    pub comes : Comes (May plan board natives) [] (notes_of (unfinished plan board natives limit))

  pub run_notes : (limit : ℕ) → Notes limit
  run_notes limit = record { end = (end_of_run limit).0; notes = notes_of_run limit; comes = (ends_all limit).comes }

  -- a note of the run that does not come with the finish
  pub may_come : (limit : ℕ) (before : List Note) (note : Note) → ComesBefore note → At (notes_of (run plan board natives limit)) before note → May plan board natives before note
  may_come limit before note early at =
      comes_before (May plan board natives) [] (notes_of (unfinished plan board natives limit)) (end_of_run limit).0 (closings limit) before note at.0 (ends_all limit).comes early (sym (notes_of_run limit) ∙ at.1)

  -- a finish of the run
  finish_at : (limit : ℕ) (before : List Note) (e : End) (after : List Note) → notes_of (run plan board natives limit) ≡ before ++ Finished e ∷ after
      → (e ≡ (end_of_run limit).0) × ((before ≡ notes_of (unfinished plan board natives limit)) × (after ≡ map Closed (closings limit)))
  finish_at limit before e after is =
      comes_last (May plan board natives) [] (notes_of (unfinished plan board natives limit)) (end_of_run limit).0 (closings limit) before e after (ends_all limit).comes (λ may. may) (sym (notes_of_run limit) ∙ is)

  may_choose_at : (limit : ℕ) (before : List Note) (number : ℕ) (a : Activation) (r : ℤ) → At (notes_of (run plan board natives limit)) before (Chosen number a r) → MayChoose plan board natives before number a r
  may_choose_at limit before number a r at = may_come limit before (Chosen number a r) tt at

  -- the run has an end, which it emits once, and after it what each native says at its close, in order
  pub record IsFinished (run : Stretch) : Type 0 where
    pub end : End
    pub ends : run.end ≡ Some end
    pub last : (before : List Note) × (notes_of run ≡ before ++ finish end run.state.natives)
    pub once : (before : List Note) (e : End) (after : List Note) → notes_of run ≡ before ++ Finished e ∷ after → after ≡ map Closed (closings_of run.state.natives)

  pub run_finishes : (limit : ℕ) → IsFinished (run plan board natives limit)
  run_finishes limit = record {
    end = (end_of_run limit).0;
    ends = (end_of_run limit).1;
    last = (notes_of (unfinished plan board natives limit), notes_of_run limit);
    once = λ before e after is. (finish_at limit before e after is).1.1;
  }

  -- a run has as many choices as without its finish: neither the finish nor a closing is one
  choices_of_run : (limit : ℕ) → length (chosen_in (notes_of (run plan board natives limit))) ≡ length (chosen_in (notes_of (unfinished plan board natives limit)))
  choices_of_run limit =
      let notes = notes_of (unfinished plan board natives limit) in
      ap (λ l. length (chosen_in l)) (notes_of_run limit) ∙ ap length (chosen_then notes (Finished (end_of_run limit).0 ∷ map Closed (closings limit)) ∙ ap (λ l. chosen_in notes ++ l) (closed_unchosen (closings limit)) ∙ append-nil (chosen_in notes))

  -- the run makes no more cycles than the limit, and its end says why it made no more
  pub record KeepsLimit (limit : ℕ) (run : Stretch) : Type 0 where
    pub within : length (chosen_in (notes_of run)) ≤ limit
    pub met : run.end ≡ Some finishes.Limit → length (chosen_in (notes_of run)) ≡ limit
    pub left : run.end ≡ Some finishes.Limit → (a : Activation) × (choice plan run.state ≡ Some a)
    pub exhausted : run.end ≡ Some finishes.Quiescence → choice plan run.state ≡ None

  pub run_keeps_limit : (limit : ℕ) → KeepsLimit limit (run plan board natives limit)
  run_keeps_limit limit =
      let all = ends_all limit in
      let same = sym (choices_of_run limit) in
      record {
        within = subst (λ n. n ≤ limit) same all.within;
        met = λ e. choices_of_run limit ∙ all.met e;
        left = all.left;
        exhausted = all.exhausted;
      }

  pub run_chooses : (limit : ℕ) (before : List Note) (number : ℕ) (a : Activation) (r : ℤ) → At (notes_of (run plan board natives limit)) before (Chosen number a r) → IsChosenAfter plan (run plan board natives (number - 1)) before number a r
  run_chooses limit before number a r at = (may_choose_at limit before number a r at).choice

  -- at a choice the agenda is what is pending by the notes
  pub run_stands : (limit : ℕ) (before : List Note) (number : ℕ) (a : Activation) (r : ℤ) → At (notes_of (run plan board natives limit)) before (Chosen number a r) → Stands (length plan.sources) before (number - 1) (number - 1) (run plan board natives (number - 1)).state.agenda
  run_stands limit before number a r at = (may_choose_at limit before number a r at).stands

  -- and a run with one cycle more makes that of the choice
  pub run_goes_on : (limit : ℕ) (before : List Note) (number : ℕ) (a : Activation) (r : ℤ) → At (notes_of (run plan board natives limit)) before (Chosen number a r)
      → (run plan board natives number).state ≡ (and_then (cycle plan number a (run plan board natives (number - 1)).state) (cycles plan number zero)).state
  run_goes_on limit before number a r at = (may_choose_at limit before number a r at).goes_on

  -- the source of what is chosen is there
  pub source_there : (limit : ℕ) (before : List Note) (number : ℕ) (a : Activation) (r : ℤ) → At (notes_of (run plan board natives limit)) before (Chosen number a r) → a.source < length plan.sources
  source_there limit before number a r at =
      let agenda = (run plan board natives (number - 1)).state.agenda in
      (All-contains (IsKnown (next_number agenda) (length plan.sources)) (pending_of agenda) a (run_stands limit before number a r at).known (run_chooses limit before number a r at).best.waits).source
