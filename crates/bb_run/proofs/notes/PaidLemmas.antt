-- What the sources emit in response to events answers what the events ask for.
use Rattle.std.proofs.Common.{◌≡◌, ◌⊎◌, inl, inr, ℕ, ◌+◌, ℤ, Bool, true, false, cond, if◌then◌else◌, List, [], ◌∷◌, ◌++◌, length, map, Option, Some, None, refl, sym, ap, subst, ◌∙◌, append_assoc}
use Rattle.std.specs.Prelude.{⊤}
use Rattle.std.specs.List.{flat_map, fold}
use Rattle.std.proofs.lemmas.List.{append-nil}
use Rattle.std.proofs.lemmas.List.Concat.{flat_map-append}
use Rattle.std.proofs.lemmas.List.Sums.{fold-append}
use Rattle.bb_schema.specs.Schema.{Schema}
use Rattle.bb_agenda.specs.declared.focusing.activation.Activation.{Activation}
use Rattle.bb_machine.specs.declared.outcome.Answer.{Answer}
use Rattle.bb_machine.specs.declared.outcome.Answer.TheVariants as answers
use Rattle.bb_verify.specs.Accepted.{Checked}
use Rattle.bb_trace.specs.Board.{Board as Blackboard}
use Rattle.bb_trace.specs.Event.{Event}
use Rattle.bb_trace.specs.Events.{unit_of}
use Rattle.bb_rules.specs.Match.{any_match}
use Rattle.bb_rules.specs.declared.source.Reaction.{Reaction}
use Rattle.bb_rules.specs.Parts.{Source}
use Rattle.bb_trace.specs.End.{End}
use Rattle.bb_trace.specs.End as ends
use Rattle.bb_trace.specs.declared.note.Note.{Note}
use Rattle.bb_trace.specs.declared.note.Note.TheVariants.{Triggered, Declined, Obviated, Retriggered, Chosen, Finished}
use Rattle.bb_run_plan.specs.Plan.{Plan}
use Rattle.bb_run.specs.Asking.{entry_of}
use Rattle.bb_run.specs.Order.{triggered_in}
use Rattle.bb_run.specs.Phases.{Phase, after_in}
use Rattle.bb_run.specs.Processing.{events_in}
use Rattle.bb_run.specs.Responses.{and_after, answer_of, told_about_each, gets, gets_by, gets_if_rated, if_rated, if_yes, known, reacts, responses, responses_from, responses_of, triggers, waiting_for}
use Rattle.bb_run.proofs.rules.OrderLemmas.{Comes, comes_none, comes_one, comes_then}
use Rattle.bb_run.proofs.notes.PendingLemmas.{events_two}

-- ---- what events ask for, and what is answered

-- the places of the sources that an event triggers, in order from this place on, each with the event's unit
abbrev pub triggered_from : Schema → Event → (place : ℕ) → List Source → List (ℕ × ℕ)
triggered_from schema event place [] = []
triggered_from schema event place (source ∷ more) =
    if any_match schema source.triggers event then (place, unit_of event) ∷ triggered_from schema event (place + 1) more else triggered_from schema event (place + 1) more

abbrev pub asked_by : Plan → Event → List (ℕ × ℕ)
asked_by plan event = triggered_from plan.schema event 0 plan.sources

-- what events ask for, one after another
abbrev pub asked_for : Plan → List Event → List (ℕ × ℕ)
asked_for plan events = flat_map (asked_by plan) events

-- a source that was triggered: it got an activation, or declined
abbrev pub answered_by : Note → List (ℕ × ℕ)
answered_by (Triggered a) = (a.source, a.unit) ∷ []
answered_by (Declined source unit) = (source, unit) ∷ []
answered_by _ = []

abbrev pub answered_in : List Note → List (ℕ × ℕ)
answered_in notes = flat_map answered_by notes

-- a run with this end may leave this unanswered of what its events ask for
abbrev pub MayOwe : End → List (ℕ × ℕ) → Type 0
MayOwe ends.Quiescence owed = owed ≡ []
MayOwe ends.Limit owed = owed ≡ []
MayOwe _ owed = ⊤

pub answered_two : (xs ys : List Note) → answered_in (xs ++ ys) ≡ answered_in xs ++ answered_in ys
answered_two xs ys = flat_map-append answered_by xs ys

-- ---- the first of some responses

-- notes that are all known
pub known_all : (notes : List Note) → known (map Some notes) ≡ notes
known_all [] = refl
known_all (note ∷ notes) = ap (λ l. note ∷ l) (known_all notes)

-- notes are emitted up to an element of the first of two lists
record StopsIn (xs ys : List (Option Note)) (emitted : List Note) (left : List (Option Note)) : Type 0 where
  element : Option Note
  more : List (Option Note)
  first_is : map Some emitted ++ element ∷ more ≡ xs
  left_is : left ≡ element ∷ (more ++ ys)

-- all of the first is emitted, and then some of the second
record GoesPast (xs ys : List (Option Note)) (emitted : List Note) (left : List (Option Note)) : Type 0 where
  first : List Note
  more : List Note
  notes : emitted ≡ first ++ more
  first_is : map Some first ≡ xs
  more_is : map Some more ++ left ≡ ys

split : (xs ys : List (Option Note)) (emitted : List Note) (left : List (Option Note)) → map Some emitted ++ left ≡ xs ++ ys → StopsIn xs ys emitted left ⊎ GoesPast xs ys emitted left
split [] ys emitted left is = inr (record { first = []; more = emitted; notes = refl; first_is = refl; more_is = is })
split (x ∷ xs) ys [] left is = inl (record { element = x; more = xs; first_is = refl; left_is = is })
split (x ∷ xs) ys (note ∷ notes) left is =
    let same : Some note ≡ x = cc in
    let rest : map Some notes ++ left ≡ xs ++ ys = cc in
    elim (split xs ys notes left rest) [
      | inl c ↦ inl (record { element = c.element; more = c.more; first_is = ap (λ l. Some note ∷ l) c.first_is ∙ ap (λ o. o ∷ xs) same; left_is = c.left_is })
      | inr c ↦ inr (record { first = note ∷ c.first; more = c.more; notes = ap (λ l. note ∷ l) c.notes; first_is = ap (λ l. Some note ∷ l) c.first_is ∙ ap (λ o. o ∷ xs) same; more_is = c.more_is })
    ]

not_none : (x : Option Note) (xs left : List (Option Note)) → left ≡ x ∷ xs → left ≡ [] → ⊥
not_none x xs left is none = absurd cc

module _ (plan : Plan) where
  -- all that the events among notes ask for is answered in them
  abbrev pub IsPaid : List Note → Type 0
  IsPaid notes = answered_in notes ≡ asked_for plan (events_in notes)

  -- but for this
  abbrev pub Owes : List Note → List (ℕ × ℕ) → Type 0
  Owes notes owed = answered_in notes ++ owed ≡ asked_for plan (events_in notes)

  -- a note of a run comes after notes by which it may
  abbrev pub MayStand : List Note → Note → Type 0
  MayStand before (Chosen cycle a r) = IsPaid before
  MayStand before (Finished end) = (owed : List (ℕ × ℕ)) × (Owes before owed × MayOwe end owed)
  MayStand before _ = ⊤

  -- these notes answer the first of this, and all of it where nothing is left out
  pub record Paid (past : List Note) (owed : List (ℕ × ℕ)) (emitted : List Note) (left : List (Option Note)) : Type 0 where
    pub comes : Comes MayStand past emitted
    pub quiet : events_in emitted ≡ []
    pub still : (phase : Phase) → fold after_in phase emitted ≡ phase
    pub rest : List (ℕ × ℕ)
    pub front : answered_in emitted ++ rest ≡ owed
    pub whole : left ≡ [] → rest ≡ []

  -- so do all that may be emitted of these responses
  abbrev pub Pays : (past : List Note) (owed : List (ℕ × ℕ)) → List (Option Note) → Type 0
  Pays past owed all = (emitted : List Note) (left : List (Option Note)) → map Some emitted ++ left ≡ all → Paid past owed emitted left

  paid_none : (past : List Note) (owed : List (ℕ × ℕ)) (left : List (Option Note)) → (left ≡ [] → owed ≡ []) → Paid past owed [] left
  paid_none past owed left none = record { comes = comes_none MayStand past; quiet = refl; still = λ phase. refl; rest = owed; front = refl; whole = none }

  pays_none : (past : List Note) → Pays past [] []
  pays_none past [] left is = paid_none past [] left (λ e. refl)
  pays_none past (note ∷ notes) left is = absurd cc

  -- there is no answer
  pays_stop : (past : List Note) (owed : List (ℕ × ℕ)) → Pays past owed (None ∷ [])
  pays_stop past owed [] left is = paid_none past owed left (λ e. absurd (not_none None [] left is e))
  pays_stop past owed (note ∷ notes) left is = absurd cc

  pays_one : (past : List Note) (owed : List (ℕ × ℕ)) (note : Note) → MayStand past note → events_in (note ∷ []) ≡ [] → ((phase : Phase) → after_in phase note ≡ phase) → answered_in (note ∷ []) ≡ owed → Pays past owed (Some note ∷ [])
  pays_one past owed note may quiet still answered [] left is = paid_none past owed left (λ e. absurd (not_none (Some note) [] left is e))
  pays_one past owed note may quiet still answered (x ∷ []) left is =
      let same : note ≡ x = cc in
      subst (λ n. Paid past owed (n ∷ []) left) same (record {
        comes = comes_one MayStand past note may;
        quiet = quiet;
        still = still;
        rest = [];
        front = append-nil (answered_in (note ∷ [])) ∙ answered;
        whole = λ e. refl;
      })
  pays_one past owed note may quiet still answered (x ∷ y ∷ more) left is = absurd cc

  paid_then : (past first more : List Note) (xs ys : List (ℕ × ℕ)) (left : List (Option Note)) → Paid past xs first [] → Paid (past ++ first) ys more left → Paid past (xs ++ ys) (first ++ more) left
  paid_then past first more xs ys left p q =
      let before : answered_in first ≡ xs = sym (append-nil (answered_in first)) ∙ ap (λ l. answered_in first ++ l) (sym (p.whole refl)) ∙ p.front in
      record {
        comes = comes_then MayStand past first more p.comes q.comes;
        quiet = events_two first more ∙ ap (λ l. l ++ events_in more) p.quiet ∙ q.quiet;
        still = λ phase. fold-append after_in phase first more ∙ ap (λ x. fold after_in x more) (p.still phase) ∙ q.still phase;
        rest = q.rest;
        front =
            ap (λ l. l ++ q.rest) (answered_two first more) ∙ append_assoc (answered_in first) (answered_in more) q.rest ∙ ap (λ l. answered_in first ++ l) q.front
            ∙ ap (λ l. l ++ ys) before;
        whole = q.whole;
      }

  pub pays_then : (past : List Note) (xs ys : List (ℕ × ℕ)) (first : List (Option Note)) (next : List Note → List (Option Note)) → Pays past xs first → Pays (past ++ known first) ys (next (past ++ known first)) → Pays past (xs ++ ys) (and_after past first next)
  pays_then past xs ys first next p q emitted left is =
      elim (split first (next (past ++ known first)) emitted left is) [
        | inl c ↦ (let f = p emitted (c.element ∷ c.more) c.first_is in record {
          comes = f.comes;
          quiet = f.quiet;
          still = f.still;
          rest = f.rest ++ ys;
          front = sym (append_assoc (answered_in emitted) f.rest ys) ∙ ap (λ l. l ++ ys) f.front;
          whole = λ e. absurd (not_none c.element (c.more ++ next (past ++ known first)) left c.left_is e);
        })
        | inr c ↦ (let same : known first ≡ c.first = ap known (sym c.first_is) ∙ known_all c.first in
            subst (λ l. Paid past (xs ++ ys) l left) (sym c.notes)
            (paid_then past c.first c.more xs ys left (p c.first [] (append-nil (map Some c.first) ∙ c.first_is)) (subst (λ l. Paid (past ++ l) ys c.more left) same (q c.more left c.more_is))))
      ]

  -- by a test
  pays_if : (past : List Note) (owed : List (ℕ × ℕ)) (b : Bool) (all : List (Option Note)) → Pays past owed all → Pays past (cond b owed []) (cond b all [])
  pays_if past owed true all pays = pays
  pays_if past owed false all pays = pays_none past

  pays_silent_if : (past : List Note) (b : Bool) (all : List (Option Note)) → Pays past [] all → Pays past [] (cond b all [])
  pays_silent_if past true all pays = pays
  pays_silent_if past false all pays = pays_none past

  -- ---- what becomes of what waits

  obviates : (a : Activation) (answer : Option Answer) (past : List Note) → Pays past [] (if_yes a answer)
  obviates a None past = pays_stop past []
  obviates a (Some answers.Yes) past = pays_one past [] (Obviated a.number) tt refl (λ phase. refl) refl
  obviates a (Some answers.No) past = pays_none past
  obviates a (Some answers.Done) past = pays_none past
  obviates a (Some answers.Declined) past = pays_none past
  obviates a (Some (answers.Rated base)) past = pays_none past

  rerates : (a : Activation) (answer : Option Answer) (past : List Note) → Pays past [] (if_rated a answer)
  rerates a None past = pays_stop past []
  rerates a (Some (answers.Rated base)) past = pays_one past [] (Retriggered a.number base) tt refl (λ phase. refl) refl
  rerates a (Some answers.Yes) past = pays_none past
  rerates a (Some answers.No) past = pays_none past
  rerates a (Some answers.Done) past = pays_none past
  rerates a (Some answers.Declined) past = pays_none past

  module _ (board : Blackboard) (event : Event) where
    module _ (by : Activation → Option Answer → List (Option Note)) (silent : (a : Activation) (answer : Option Answer) (past : List Note) → Pays past [] (by a answer)) where
      each : (reaction : Reaction) (waiting : List Activation) (past : List Note) → Pays past [] (told_about_each board event by reaction waiting)
      each reaction [] past = pays_none past
      each reaction (a ∷ more) past =
          let first = by a (answer_of reaction.code (entry_of a.unit (Some (unit_of event))) board) in
          pays_then past [] [] first (λ _. told_about_each board event by reaction more) (silent a (answer_of reaction.code (entry_of a.unit (Some (unit_of event))) board) past) (each reaction more (past ++ known first))

      reacts_silent : (reaction : Option Reaction) (waiting : List Activation) (past : List Note) → Pays past [] (reacts plan board event by reaction waiting)
      reacts_silent None waiting past = pays_none past
      reacts_silent (Some reaction) waiting past =
          pays_silent_if past (any_match plan.schema reaction.clauses event) (told_about_each board event by reaction waiting) (each reaction waiting past)

    -- ---- what a source gets that an event triggers

    abbrev here : ℕ → ℕ × ℕ
    here place = (place, unit_of event)

    gets_next : (place : ℕ) (base : ℤ) (past : List Note) → Pays past (here place ∷ []) (gets event place base past)
    gets_next place base past =
        pays_one past (here place ∷ []) (Triggered (record { number = length (triggered_in past) + 1; source = place; unit = unit_of event; base = base })) tt refl (λ phase. refl) refl

    declines : (place : ℕ) (past : List Note) → Pays past (here place ∷ []) (Some (Declined place (unit_of event)) ∷ [])
    declines place past = pays_one past (here place ∷ []) (Declined place (unit_of event)) tt refl (λ phase. refl) refl

    gets_by_answer : (place : ℕ) (answer : Option Answer) (past : List Note) → Pays past (here place ∷ []) (gets_if_rated event place answer past)
    gets_by_answer place None past = pays_stop past (here place ∷ [])
    gets_by_answer place (Some (answers.Rated base)) past = gets_next place base past
    gets_by_answer place (Some answers.Declined) past = declines place past
    gets_by_answer place (Some answers.Yes) past = declines place past
    gets_by_answer place (Some answers.No) past = declines place past
    gets_by_answer place (Some answers.Done) past = declines place past

    gets_one : (place : ℕ) (rate : ℤ) (code : Option Checked) (past : List Note) → Pays past (here place ∷ []) (gets_by board event place rate code past)
    gets_one place rate None past = gets_next place rate past
    gets_one place rate (Some code) past = gets_by_answer place (answer_of code (entry_of (unit_of event) None) board) past

    -- what is asked of one source
    abbrev of_source : ℕ → Source → List (ℕ × ℕ)
    of_source place source = cond (any_match plan.schema source.triggers event) (here place ∷ []) []

    source_pays : (place : ℕ) (source : Source) (past : List Note) → Pays past (of_source place source) (responses_of plan board event place source past)
    source_pays place source past =
        let gone = reacts plan board event if_yes source.obviate (waiting_for past place) in
        let later = past ++ known gone in
        let again = reacts plan board event if_rated source.retrigger (waiting_for later place) in
        pays_then past [] (of_source place source) gone (λ l. and_after l (reacts plan board event if_rated source.retrigger (waiting_for l place)) (triggers plan board event place source))
        (reacts_silent if_yes obviates source.obviate (waiting_for past place) past)
        (pays_then later [] (of_source place source) again (triggers plan board event place source)
        (reacts_silent if_rated rerates source.retrigger (waiting_for later place) later)
        (pays_if (later ++ known again) (here place ∷ []) (any_match plan.schema source.triggers event) (gets_by board event place source.rate source.require (later ++ known again))
        (gets_one place source.rate source.require (later ++ known again))))

    first_or_none : (x : ℕ × ℕ) (ys : List (ℕ × ℕ)) (b : Bool) → cond b (x ∷ []) [] ++ ys ≡ cond b (x ∷ ys) ys
    first_or_none x ys true = refl
    first_or_none x ys false = refl

    sources_pay : (place : ℕ) (sources : List Source) (past : List Note) → Pays past (triggered_from plan.schema event place sources) (responses_from plan board event place sources past)
    sources_pay place [] past = pays_none past
    sources_pay place (source ∷ more) past =
        let first = responses_of plan board event place source past in
        let rest = triggered_from plan.schema event (place + 1) more in
        subst (λ owed. Pays past owed (responses_from plan board event place (source ∷ more) past)) (first_or_none (here place) rest (any_match plan.schema source.triggers event))
        (pays_then past (of_source place source) rest first (responses_from plan board event (place + 1) more) (source_pays place source past) (sources_pay (place + 1) more (past ++ known first)))

  pub responses_pay : (board : Blackboard) (events : List Event) (past : List Note) → Pays past (asked_for plan events) (responses plan board events past)
  responses_pay board [] past = pays_none past
  responses_pay board (event ∷ events) past =
      let first = responses_from plan board event 0 plan.sources past in
      pays_then past (asked_by plan event) (asked_for plan events) first (responses plan board events) (sources_pay board event 0 plan.sources past) (responses_pay board events (past ++ known first))
