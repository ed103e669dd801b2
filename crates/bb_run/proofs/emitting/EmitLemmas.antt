-- A part of a run is emitted as far as what is left of it, and the run is cut short in one of its parts or in none.
use Rattle.std.proofs.Common.{◌≡◌, ◌<◌, ◌≤◌, ◌⊎◌, inl, inr, ℕ, suc, ◌+◌, ◌-◌, arith, List, [], ◌∷◌, ◌++◌, length, get_or, drop, Option, Some, None, Result, Ok, Err, refl, subst, sym, ap, ◌∙◌, append_assoc}
use Rattle.std.proofs.lemmas.List.{append-nil, drop_all}
use Rattle.std.specs.Prelude.{slice_get, option_and_then}
use Rattle.std.proofs.lemmas.List.Concat.{flat_map-cons}
use Rattle.bb_basis.proofs.IntoMapLemmas.{next_one}
use Rattle.bb_trace.specs.Event.{Event}
use Rattle.bb_agenda.specs.declared.focusing.activation.Activation.{Activation}
use Rattle.bb_rules.specs.Parts.{Source}
use Rattle.bb_trace.specs.End.{End, Limit, Quiescence}
use Rattle.bb_trace.specs.declared.halt.Halt.{Halt}
use Rattle.bb_trace.specs.declared.note.Note.{Note}
use Rattle.bb_run.specs.declared.cycles.Decision.{Decision}
use Rattle.bb_run.specs.declared.cycles.Decision.TheVariants.{Act, Over}
use Rattle.bb_run_plan.specs.Plan.{Plan}
use Rattle.bb_trace.specs.Board.{Board as Blackboard}
use Rattle.bb_run.specs.declared.execution.Verdict.{Verdict}
use Rattle.bb_run.specs.declared.runner.Runner.{Runner}
use Rattle.bb_run.specs.Emission.{Response, Stretch, after_emitted, and_then, and_then_unless, idle, over, segment, emitting}
use Rattle.bb_run.specs.Processing.{event_in, events_in, processing, processing_all, reported}
use Rattle.bb_run.specs.State.{State, with_board}
use Rattle.bb_run.specs.Run.{acting, choice, chosen_with, cycle, cycle_of, cycles, if_chosen, if_valid, quiet, rating, validity, wait, wait_for}
use Rattle.bb_run.specs.Emitting.{CutIn, Finishes, IsResponse, Leaves, Makes, MakesBy, Place, Same, IsEmitted, Validates, Waited, decision_by, option_list}
use Rattle.bb_run.proofs.emitting.SegmentLemmas.{emitted_nothing, emitted_then, cut_then, cut_before}

-- ---- one runner

pub same_then : {O : Type 0} (a b c : Runner O) → Same a b → Same b c → Same a c
same_then a b c p q = (q.0 ∙ p.0, q.1 ∙ p.1)

-- ---- a stretch, part by part

-- a stretch was emitted as far as what is left of it
pub record HasEmitted (plan : Plan) (old new : Place) (whole rest : Stretch) : Type 0 where
  pub segments : List (List Note)
  pub emitted : IsEmitted plan old new segments
  pub same : whole ≡ after_emitted segments rest

pub nothing_emitted : (plan : Plan) (place : Place) (p : Stretch) → HasEmitted plan place place p p
nothing_emitted plan place p = record { segments = []; emitted = emitted_nothing plan place; same = refl }

-- the run goes on after a stretch that does not end it, and ends in one that does
pub and_then_left : (p : Stretch) (next : State → Stretch) (s : State) → Leaves p s None → and_then p next ≡ after_emitted p.emitted (next s)
and_then_left p next s left = ap (λ e. and_then_unless e p next) (sym left.end) ∙ ap (λ t. after_emitted p.emitted (next t)) (sym left.state)

pub stops : (p : Stretch) (next : State → Stretch) (s : State) (end : End) → Leaves p s (Some end) → and_then p next ≡ p
stops p next s end left = ap (λ e. and_then_unless e p next) (sym left.end)

grouped : (xs ys : List (List Note)) (p : Stretch) → after_emitted xs (after_emitted ys p) ≡ after_emitted (xs ++ ys) p
grouped xs ys p = let with_segments : List (List Note) → Stretch = λ t. emitting t p.state p.end in ap with_segments (sym (append_assoc xs ys p.emitted))

-- all that is left of a stretch was emitted, and so the whole
pub last_emitted : (plan : Plan) (a b c : Place) (whole rest : Stretch) (s : State) (end : Option End) → HasEmitted plan a b whole rest → IsEmitted plan b c rest.emitted → Leaves rest s end
    → IsEmitted plan a c whole.emitted × Leaves whole s end
last_emitted plan a b c whole rest s end h t left =
    subst (λ w. IsEmitted plan a c w.emitted × Leaves w s end) (sym h.same) (emitted_then plan a b c h.segments rest.emitted h.emitted t, record { state = left.state; end = left.end })

-- a stretch was cut short in what is left of it
pub last_cut : (plan : Plan) (a b c : Place) (whole rest : Stretch) (halt : Halt) → HasEmitted plan a b whole rest → CutIn plan b c rest.emitted halt → CutIn plan a c whole.emitted halt
last_cut plan a b c whole rest halt h t = subst (λ w. CutIn plan a c w.emitted halt) (sym h.same) (cut_then plan a b c h.segments rest.emitted halt h.emitted t)

-- what is left of a stretch is made, or it is cut short in that
pub makes_last : {X : Type 0} (ends : X → Option End) (plan : Plan) (a b c : Place) (whole rest : Stretch) (s : State) (r : Result X Halt) → HasEmitted plan a b whole rest → MakesBy ends plan b c rest s r → MakesBy ends plan a c whole s r
makes_last ends plan a b c whole rest s (Ok x) h m = last_emitted plan a b c whole rest s (ends x) h m.0 m.1
makes_last ends plan a b c whole rest s (Err halt) h m = last_cut plan a b c whole rest halt h m

-- the segments of a stretch begin those of it and the next
later : Option End → Stretch → (State → Stretch) → List (List Note)
later None p next = (next p.state).emitted
later (Some end) p next = []

segments-and_then : (e : Option End) (p : Stretch) (next : State → Stretch) → (and_then_unless e p next).emitted ≡ p.emitted ++ later e p next
unfolding later
segments-and_then None p next = refl
segments-and_then (Some end) p next = sym (append-nil p.emitted)

-- a stretch was cut short in a part of it
pub part_cut : (plan : Plan) (a b c : Place) (whole p : Stretch) (next : State → Stretch) (halt : Halt) → HasEmitted plan a b whole (and_then p next) → CutIn plan b c p.emitted halt → CutIn plan a c whole.emitted halt
part_cut plan a b c whole p next halt h t =
    last_cut plan a b c whole (and_then p next) halt h (subst (λ x. CutIn plan b c x halt) (sym (segments-and_then p.end p next)) (cut_before plan b c p.emitted (later p.end p next) halt t))

-- a part of a stretch was emitted, and the run goes on
pub part_emitted : (plan : Plan) (a b c : Place) (whole p : Stretch) (next : State → Stretch) (s : State) → HasEmitted plan a b whole (and_then p next) → IsEmitted plan b c p.emitted → Leaves p s None → HasEmitted plan a c whole (next s)
part_emitted plan a b c whole p next s h t left = record {
  segments = h.segments ++ p.emitted;
  emitted = emitted_then plan a b c h.segments p.emitted h.emitted t;
  same = h.same ∙ ap (after_emitted h.segments) (and_then_left p next s left) ∙ grouped h.segments p.emitted (next s);
}

-- a part of it was emitted, and the run ends there
pub part_ends : (plan : Plan) (a b c : Place) (whole p : Stretch) (next : State → Stretch) (s : State) (end : End) → HasEmitted plan a b whole (and_then p next) → IsEmitted plan b c p.emitted → Leaves p s (Some end)
    → IsEmitted plan a c whole.emitted × Leaves whole s (Some end)
part_ends plan a b c whole p next s end h t left = last_emitted plan a b c whole p s (Some end) (record { segments = h.segments; emitted = h.emitted; same = h.same ∙ ap (after_emitted h.segments) (stops p next s end left) }) t left

-- a part of a stretch is made, and the run goes on
pub part_made : (plan : Plan) (a b c : Place) (whole p : Stretch) (next : State → Stretch) (s : State) (o : Option End) → HasEmitted plan a b whole (and_then p next) → Makes plan b c p s (Ok o) → o ≡ None → HasEmitted plan a c whole (next s)
part_made plan a b c whole p next s o h m none = part_emitted plan a b c whole p next s h m.0 (record { state = m.1.state; end = sym none ∙ m.1.end })

-- a part of a stretch is made, and the run ends there
pub part_over : (plan : Plan) (a b c : Place) (whole p : Stretch) (next : State → Stretch) (s : State) (o : Option End) (end : End) → HasEmitted plan a b whole (and_then p next) → Makes plan b c p s (Ok o) → o ≡ Some end → Makes plan a c whole s (Ok (Some end))
part_over plan a b c whole p next s o end h m some = part_ends plan a b c whole p next s end h m.0 (record { state = m.1.state; end = sym some ∙ m.1.end })

-- ---- a response

module _ (plan : Plan) (a b : Place) (r : Response) (first old new emitted : List Note) (s : State) (e : Option End) where
  response_segment : emitted ≡ new → old ≡ first → IsResponse r old new s e → emitted ≡ first ++ r.emitted
  response_segment is begun i = is ∙ i.notes ∙ ap (λ t. t ++ r.emitted) begun

  pub response_emitted : emitted ≡ new → old ≡ first → IsResponse r old new s e → IsEmitted plan a b (emitted ∷ []) → Makes plan a b (segment (after_emitted first r)) s (Ok e)
  response_emitted is begun i t = (subst (λ n. IsEmitted plan a b (n ∷ [])) (response_segment is begun i) t, record { state = i.state; end = i.end })

  pub response_cut : (halt : Halt) → emitted ≡ new → old ≡ first → IsResponse r old new s e → CutIn plan a b (emitted ∷ []) halt → CutIn plan a b ((first ++ r.emitted) ∷ []) halt
  response_cut halt is begun i t = subst (λ n. CutIn plan a b (n ∷ []) halt) (response_segment is begun i) t

-- ---- the events of notes, one after another

-- the events from a note on
pub next_note : (notes : List Note) (i : ℕ) (note : Note) → i < length notes → note ≡ get_or notes i note → events_in (drop i notes) ≡ event_in note ++ events_in (drop (i + 1) notes)
next_note notes i note lt is = ap events_in (next_one notes i note lt is) ∙ flat_map-cons event_in note (drop (i + 1) notes)

module _ (plan : Plan) (a b c : Place) (whole : Stretch) (notes : List Note) (i : ℕ) (note : Note) where
  pub at_note : (found : Option Event) (s : State) → i < length notes → note ≡ get_or notes i note → option_list found ≡ event_in note → HasEmitted plan a b whole (processing_all plan (events_in (drop i notes)) s)
      → HasEmitted plan a b whole (processing_all plan (option_list found ++ events_in (drop (i + 1) notes)) s)
  at_note found s lt is found_is h = subst (λ es. HasEmitted plan a b whole (processing_all plan es s)) (next_note notes i note lt is ∙ ap (λ es. es ++ events_in (drop (i + 1) notes)) (sym found_is)) h

  at_event : (event : Event) (s : State) → i < length notes → note ≡ get_or notes i note → option_list (Some event) ≡ event_in note → HasEmitted plan a b whole (processing_all plan (events_in (drop i notes)) s)
      → HasEmitted plan a b whole (and_then (processing plan event s) (processing_all plan (events_in (drop (i + 1) notes))))
  unfolding processing_all
  at_event event s lt is some h = at_note (Some event) s lt is some h

  pub event_made : (event : Event) (s t : State) (o : Option End) → i < length notes → note ≡ get_or notes i note → option_list (Some event) ≡ event_in note → HasEmitted plan a b whole (processing_all plan (events_in (drop i notes)) s)
      → Makes plan b c (processing plan event s) t (Ok o) → o ≡ None → HasEmitted plan a c whole (processing_all plan (events_in (drop (i + 1) notes)) t)
  event_made event s t o lt is some h m none = part_made plan a b c whole (processing plan event s) (processing_all plan (events_in (drop (i + 1) notes))) t o (at_event event s lt is some h) m none

  pub event_ends : (event : Event) (s t : State) (o : Option End) (end : End) → i < length notes → note ≡ get_or notes i note → option_list (Some event) ≡ event_in note → HasEmitted plan a b whole (processing_all plan (events_in (drop i notes)) s)
      → Makes plan b c (processing plan event s) t (Ok o) → o ≡ Some end → Makes plan a c whole t (Ok (Some end))
  event_ends event s t o end lt is some h m ended = part_over plan a b c whole (processing plan event s) (processing_all plan (events_in (drop (i + 1) notes))) t o end (at_event event s lt is some h) m ended

  pub event_cut : (event : Event) (s : State) (halt : Halt) → i < length notes → note ≡ get_or notes i note → option_list (Some event) ≡ event_in note → HasEmitted plan a b whole (processing_all plan (events_in (drop i notes)) s)
      → CutIn plan b c (processing plan event s).emitted halt → CutIn plan a c whole.emitted halt
  event_cut event s halt lt is some h m = part_cut plan a b c whole (processing plan event s) (processing_all plan (events_in (drop (i + 1) notes))) halt (at_event event s lt is some h) m

pub events_end : (plan : Plan) (a b : Place) (whole : Stretch) (notes : List Note) (i : ℕ) (s : State) → length notes ≤ i → HasEmitted plan a b whole (processing_all plan (events_in (drop i notes)) s) → Makes plan a b whole s (Ok None)
unfolding processing_all
events_end plan a b whole notes i s le h =
    last_emitted plan a b b whole (idle s) s None (subst (HasEmitted plan a b whole) (ap (λ ns. processing_all plan (events_in ns) s) (drop_all i notes le)) h) (emitted_nothing plan b) (record { state = refl; end = refl })

-- nothing more is emitted
pub idle_emitted : (plan : Plan) (a b : Place) (whole : Stretch) (s : State) → HasEmitted plan a b whole (idle s) → Makes plan a b whole s (Ok None)
idle_emitted plan a b whole s h = last_emitted plan a b b whole (idle s) s None h (emitted_nothing plan b) (record { state = refl; end = refl })

-- ---- a response is reported

module _ (plan : Plan) (a b : Place) (notes : List Note) (s : State) (end : Option End) where
  abbrev whole : Stretch
  whole = reported plan (emitting notes s end)

  abbrev next : State → Stretch
  next = processing_all plan (events_in notes)

  pub report_cut : (halt : Halt) → CutIn plan a b (notes ∷ []) halt → CutIn plan a b whole.emitted halt
  report_cut halt t = part_cut plan a a b whole (emitting (notes ∷ []) s end) next halt (nothing_emitted plan a whole) t

  pub report_over : (e : End) → end ≡ Some e → IsEmitted plan a b (notes ∷ []) → Makes plan a b whole s (Ok (Some e))
  report_over e some t = part_over plan a a b whole (emitting (notes ∷ []) s end) next s end e (nothing_emitted plan a whole) (t, record { state = refl; end = refl }) some

  pub report_made : (c : Place) (t : State) (r : Result (Option End) Halt) → end ≡ None → IsEmitted plan a b (notes ∷ []) → Makes plan b c (next s) t r → Makes plan a c whole t r
  report_made c t r none emitted m =
      makes_last (λ e. e) plan a b c whole (next s) t r
      (part_made plan a a b whole (emitting (notes ∷ []) s end) next s end (nothing_emitted plan a whole) (emitted, record { state = refl; end = refl }) none)
      m

-- the report of the notes is the report of the response that was noted
pub reported_as : (plan : Plan) (a b : Place) (r : Response) (old new emitted : List Note) (s t : State) (end : Option End) (result : Result (Option End) Halt) → emitted ≡ new → old ≡ [] → IsResponse r old new s end
    → Makes plan a b (reported plan (emitting emitted s end)) t result → Makes plan a b (reported plan r) t result
reported_as plan a b r old new emitted s t end result is none i m =
    let notes : emitted ≡ r.emitted = is ∙ i.notes ∙ ap (λ ns. ns ++ r.emitted) none in
    let same : emitting emitted s end ≡ r = ap (λ ns. emitting ns s end) notes ∙ ap (λ u. emitting r.emitted u end) i.state ∙ ap (emitting r.emitted r.state) i.end in
    subst (λ q. Makes plan a b (reported plan q) t result) same m

-- ---- a cycle

module _ (plan : Plan) (a b : Place) (number : ℕ) (x : Activation) (s : State) (source : Option Source) (v : Verdict) (board : Blackboard) where
  -- what is emitted of the choice, and what comes after it
  abbrev chosen' : Response
  chosen' = chosen_with number x (rating plan s x) v (with_board s board)

  abbrev then_acts : State → Stretch
  then_acts = acting plan (if_valid v source) x

  -- the cycle, once there is a verdict
  cycle_is : slice_get plan.sources x.source ≡ source → Validates (validity (option_and_then (λ t. t.revalidate) source) x s.board) v board → cycle plan number x s ≡ and_then (segment chosen') then_acts
  cycle_is there valid =
      let w = validity (option_and_then (λ t. t.revalidate) source) x s.board in
      let by : Verdict → Blackboard → Stretch = λ u c. and_then (segment (chosen_with number x (rating plan s x) u (with_board s c))) (acting plan (if_valid u source) x) in
      ap (λ o. cycle_of plan number o x s) there ∙ (ap (λ u. by u w.1) (sym valid.verdict_is) ∙ ap (by v) (sym valid.board_is))

  module _ (there : slice_get plan.sources x.source ≡ source) (valid : Validates (validity (option_and_then (λ t. t.revalidate) source) x s.board) v board)
      (notes : List Note) (t : State) (end : Option End) (noted : IsResponse chosen' [] notes t end) where
    begun : HasEmitted plan a a (cycle plan number x s) (and_then (segment chosen') then_acts)
    begun = subst (HasEmitted plan a a (cycle plan number x s)) (cycle_is there valid) (nothing_emitted plan a (cycle plan number x s))

    pub choice_cut : (halt : Halt) → CutIn plan a b (notes ∷ []) halt → CutIn plan a b (cycle plan number x s).emitted halt
    choice_cut halt cut = part_cut plan a a b (cycle plan number x s) (segment chosen') then_acts halt begun (subst (λ ns. CutIn plan a b (ns ∷ []) halt) noted.notes cut)

    pub choice_over : (e : End) → end ≡ Some e → IsEmitted plan a b (notes ∷ []) → Makes plan a b (cycle plan number x s) t (Ok (Some e))
    choice_over e is emitted = part_ends plan a a b (cycle plan number x s) (segment chosen') then_acts t e begun (subst (λ ns. IsEmitted plan a b (ns ∷ [])) noted.notes emitted) (record { state = noted.state; end = sym is ∙ noted.end })

    pub choice_emitted : end ≡ None → IsEmitted plan a b (notes ∷ []) → HasEmitted plan a b (cycle plan number x s) (acting plan (if_valid v source) x t)
    choice_emitted is emitted = part_emitted plan a a b (cycle plan number x s) (segment chosen') then_acts t begun (subst (λ ns. IsEmitted plan a b (ns ∷ [])) noted.notes emitted) (record { state = noted.state; end = sym is ∙ noted.end })

-- ---- decisions

pub act_by : (e : Option End) (choice : Option Activation) (a : Activation) → Act a ≡ decision_by e choice → (None ≡ e) × (choice ≡ Some a)
act_by (Some end) choice a is = absurd cc
act_by None None a is = absurd cc
act_by None (Some b) a is = (refl, let same : a ≡ b = cc in ap (λ x. Some x) (sym same))

pub over_by : (e : Option End) (choice : Option Activation) (end : End) → Over end ≡ decision_by e choice → (Some end ≡ e) ⊎ ((None ≡ e) × (choice ≡ None) × (end ≡ Quiescence))
over_by (Some last) choice end is = inl (let same : end ≡ last = cc in ap (λ x. Some x) same)
over_by None None end is = inr (refl, refl, let same : end ≡ Quiescence = cc in same)
over_by None (Some b) end is = absurd cc

module _ (plan : Plan) (a b : Place) (s t : State) where
  pub wait_cut : (halt : Halt) → choice plan s ≡ None → CutIn plan a b (quiet plan s).emitted halt → CutIn plan a b (wait plan s).emitted halt
  wait_cut halt none t = subst (λ o. CutIn plan a b (wait_for plan s o).emitted halt) (sym none) t

module _ (plan : Plan) (a b c : Place) (whole : Stretch) (s t : State) (next : State → Activation → Stretch) where
  -- an activation is chosen
  pub decision_acts : (decision : Decision) (x : Activation) → HasEmitted plan a b whole (and_then (wait plan s) (λ u. if_chosen u (choice plan u) (next u))) → Waited plan b c s t decision → decision ≡ Act x → HasEmitted plan a c whole (next t x)
  decision_acts decision x h w is =
      let by = act_by (wait plan s).end (choice plan (wait plan s).state) x (sym is ∙ w.decision_is) in
      let here = part_emitted plan a b c whole (wait plan s) (λ u. if_chosen u (choice plan u) (next u)) t h w.emitted (record { state = w.state; end = by.0 }) in
      subst (λ o. HasEmitted plan a c whole (if_chosen t o (next t))) (ap (choice plan) w.state ∙ by.1) here

  -- the run is over
  pub decision_over : (decision : Decision) (end : End) → HasEmitted plan a b whole (and_then (wait plan s) (λ u. if_chosen u (choice plan u) (next u))) → Waited plan b c s t decision → decision ≡ Over end → Finishes plan a c whole t (Ok end)
  decision_over decision end h w is =
      elim (over_by (wait plan s).end (choice plan (wait plan s).state) end (sym is ∙ w.decision_is)) [
        | inl ends ↦ part_ends plan a b c whole (wait plan s) (λ u. if_chosen u (choice plan u) (next u)) t end h w.emitted (record { state = w.state; end = ends })
        | inr quiet' ↦
            let here = part_emitted plan a b c whole (wait plan s) (λ u. if_chosen u (choice plan u) (next u)) t h w.emitted (record { state = w.state; end = quiet'.0 }) in
            last_emitted plan a c c whole (over Quiescence t) t (Some end) (subst (λ o. HasEmitted plan a c whole (if_chosen t o (next t))) (ap (choice plan) w.state ∙ quiet'.1) here)
            (emitted_nothing plan c) (record { state = refl; end = ap (λ x. Some x) quiet'.2 })
      ]

  -- the run is cut short
  pub decision_cut : (halt : Halt) → HasEmitted plan a b whole (and_then (wait plan s) (λ u. if_chosen u (choice plan u) (next u))) → CutIn plan b c (wait plan s).emitted halt → CutIn plan a c whole.emitted halt
  decision_cut halt h w = part_cut plan a b c whole (wait plan s) (λ u. if_chosen u (choice plan u) (next u)) halt h w

-- ---- cycles

-- what a chosen activation leads to, where `left` cycles are left
abbrev pub cycle_then : Plan → (made left : ℕ) → State → Activation → Stretch
cycle_then plan made left s a = and_then (cycle plan (made + 1) a s) (cycles plan (made + 1) left)

pub one_cycle : (plan : Plan) (limit made : ℕ) (s : State) → made < limit
    → cycles plan made (limit - made) s ≡ and_then (wait plan s) (λ u. if_chosen u (choice plan u) (cycle_then plan made (limit - (made + 1)) u))
unfolding cycles
one_cycle plan limit made s lt =
    let more : limit - made ≡ suc (limit - (made + 1)) = omega arith in
    ap (λ n. cycles plan made n s) more

pub no_cycle : (plan : Plan) (limit made : ℕ) (s : State) → limit ≤ made → cycles plan made (limit - made) s ≡ and_then (wait plan s) (λ u. if_chosen u (choice plan u) (λ a. over Limit u))
unfolding cycles
no_cycle plan limit made s le =
    let none : limit - made ≡ 0 = omega arith in
    ap (λ n. cycles plan made n s) none

pub at_cycle : (plan : Plan) (a b : Place) (whole : Stretch) (limit made : ℕ) (s : State) → made < limit → HasEmitted plan a b whole (cycles plan made (limit - made) s)
    → HasEmitted plan a b whole (and_then (wait plan s) (λ u. if_chosen u (choice plan u) (cycle_then plan made (limit - (made + 1)) u)))
at_cycle plan a b whole limit made s lt h = subst (HasEmitted plan a b whole) (one_cycle plan limit made s lt) h

pub at_limit : (plan : Plan) (a b : Place) (whole : Stretch) (limit made : ℕ) (s : State) → limit ≤ made → HasEmitted plan a b whole (cycles plan made (limit - made) s)
    → HasEmitted plan a b whole (and_then (wait plan s) (λ u. if_chosen u (choice plan u) (λ a. over Limit u)))
at_limit plan a b whole limit made s le h = subst (HasEmitted plan a b whole) (no_cycle plan limit made s le) h

pub over_limit : (plan : Plan) (a b : Place) (whole : Stretch) (t : State) → HasEmitted plan a b whole (over Limit t) → Finishes plan a b whole t (Ok Limit)
over_limit plan a b whole t h = last_emitted plan a b b whole (over Limit t) t (Some Limit) h (emitted_nothing plan b) (record { state = refl; end = refl })
