-- A source that an event does not concern by its kind answers nothing to it, so the others bring about the response.
use Rattle.std.proofs.Common.{◌≡◌, ℕ, zero, suc, ◌+◌, Bool, true, false, cond, ◌&&◌, ◌||◌, List, [], ◌∷◌, drop, Option, Some, None, refl, sym, ap, ◌∙◌, add-one}
use Rattle.std.specs.Prelude.{slice_get}
use Rattle.std.specs.Option.{option_map_or}
use Rattle.std.proofs.lemmas.Bool.{or_parts}
use Rattle.bb_schema.specs.Schema.{Schema, descends}
use Rattle.bb_agenda.specs.declared.focusing.activation.Activation.{Activation}
use Rattle.bb_agenda.specs.Agenda.{pending_for}
use Rattle.bb_machine.specs.declared.outcome.Answer.{Answer}
use Rattle.bb_rules.specs.declared.clause.Clause.{Clause}
use Rattle.bb_rules.specs.declared.clause.Clause.TheVariants as clauses
use Rattle.bb_run_plan.specs.Concerned.{any_of_kind, concerned_from, is_concerned, is_of_kind, reaction_of_kind}
use Rattle.bb_trace.specs.Event.{Event}
use Rattle.bb_trace.specs.Event.TheVariants as events
use Rattle.bb_rules.specs.Match.{any_match, matches}
use Rattle.bb_rules.specs.declared.source.Reaction.{Reaction}
use Rattle.bb_rules.specs.Parts.{Source}
use Rattle.bb_trace.specs.End.{End}
use Rattle.bb_run.specs.State.{State}
use Rattle.bb_run.specs.Emission.{Response, after_emitted, and_then, and_then_unless, idle}
use Rattle.bb_run.specs.Processing.{if_triggered, obviated_by, reacting, reacting_to_each, rerated_by, response_by, source_response, triggering}
use Rattle.bb_run.specs.proving.Responding.{response_at, responses_at}

-- ---- who has no clause of the kind of an event

not_named : (s : Schema) (event : Event) (clause : Clause) → is_of_kind event clause ≡ false → matches s clause event ≡ false
not_named s events.Quiescence clauses.Quiescence h = absurd cc
not_named s events.Quiescence (clauses.Change kind class) h = refl
not_named s (events.Change unit of change) clauses.Quiescence h = refl
not_named s (events.Change unit of change) (clauses.Change kind class) h = ap (λ b. b && descends s of class) h

none_named : (s : Schema) (event : Event) (list : List Clause) → any_of_kind event list ≡ false → any_match s list event ≡ false
none_named s event [] h = refl
none_named s event (clause ∷ more) h =
    let parts = or_parts (is_of_kind event clause) (any_of_kind event more) h in
    ap (λ b. b || any_match s more event) (not_named s event clause parts.0) ∙ none_named s event more parts.1

reacts_not : (s : Schema) (event : Event) (place : ℕ) (by : Activation → Answer → State → Response) (reaction : Option Reaction) (t : State) → reaction_of_kind event reaction ≡ false → reacting s event place by reaction t ≡ idle t
reacts_not s event place by None t h = refl
reacts_not s event place by (Some reaction) t h =
    ap (λ b. cond b (reacting_to_each event by reaction (pending_for t.agenda place) t) (idle t)) (none_named s event reaction.clauses h)

module _ (s : Schema) (event : Event) (place : ℕ) (source : Source) where
  triggered_not : (t : State) → any_of_kind event source.triggers ≡ false → if_triggered s event place source t ≡ idle t
  triggered_not t h = ap (λ b. cond b (triggering event place source.rate source.require t) (idle t)) (none_named s event source.triggers h)

  -- what comes after a source obviates
  abbrev after_obviating : State → Response
  after_obviating t = and_then (reacting s event place rerated_by source.retrigger t) (if_triggered s event place source)

  pub answers_not : (t : State) → is_concerned event source ≡ false → source_response s event place source t ≡ idle t
  answers_not t h =
      let two = or_parts (any_of_kind event source.triggers || reaction_of_kind event source.obviate) (reaction_of_kind event source.retrigger) h in
      let one = or_parts (any_of_kind event source.triggers) (reaction_of_kind event source.obviate) two.0 in
      ap (λ p. and_then p after_obviating) (reacts_not s event place obviated_by source.obviate t one.1)
      ∙ (ap (λ p. and_then p (if_triggered s event place source)) (reacts_not s event place rerated_by source.retrigger t two.1)
      ∙ triggered_not t one.0)

-- ---- all sources, and those that the event concerns

unless_same : (e : Option End) (p : Response) (f g : State → Response) → ((t : State) → f t ≡ g t) → and_then_unless e p f ≡ and_then_unless e p g
unless_same (Some end) p f g same = refl
unless_same None p f g same = ap (after_emitted p.emitted) (same p.state)

-- what comes after a part goes by what it gives of each state
pub then_same : (p : Response) (f g : State → Response) → ((t : State) → f t ≡ g t) → and_then p f ≡ and_then p g
then_same p f g same = unless_same p.end p f g same

-- the source at a place, where all after it are those from there on
source_at : (all : List Source) (n : ℕ) (source : Source) (rest : List Source) → drop n all ≡ source ∷ rest → (slice_get all n ≡ Some source) × (drop (suc n) all ≡ rest)
source_at all zero source rest h = (ap (λ xs. slice_get xs 0) h, ap (drop 1) h)
source_at [] (suc n) source rest h = absurd cc
source_at (first ∷ more) (suc n) source rest h = source_at more n source rest h

module _ (s : Schema) (event : Event) (all : List Source) where
  -- the response of the sources at the places of those of these that the event concerns
  abbrev concerned_of : ℕ → List Source → State → Response
  concerned_of place sources = responses_at s event all (concerned_from event place sources)

  by_one : (place : ℕ) (source : Source) (sources : List Source) (t : State) (b : Bool) → is_concerned event source ≡ b → slice_get all place ≡ Some source
      → ((u : State) → response_by s event (place + 1) sources u ≡ concerned_of (place + 1) sources u)
      → and_then (source_response s event place source t) (response_by s event (place + 1) sources)
      ≡ responses_at s event all (cond b (place ∷ concerned_from event (place + 1) sources) (concerned_from event (place + 1) sources)) t
  unfolding responses_at
  by_one place source sources t true is read rest =
      ap (λ o. and_then (option_map_or (λ x. source_response s event place x t) o (idle t)) (response_by s event (place + 1) sources)) (sym read)
      ∙ then_same (response_at s event all place t) (response_by s event (place + 1) sources) (concerned_of (place + 1) sources) rest
  by_one place source sources t false is read rest =
      ap (λ p. and_then p (response_by s event (place + 1) sources)) (answers_not s event place source t is) ∙ rest t

  pub all_by_concerned : (place : ℕ) (sources : List Source) → drop place all ≡ sources → (t : State) → response_by s event place sources t ≡ concerned_of place sources t
  unfolding response_by responses_at concerned_from
  all_by_concerned place [] h t = refl
  all_by_concerned place (source ∷ sources) h t =
      let at = source_at all place source sources h in
      by_one place source sources t (is_concerned event source) refl at.0
      (all_by_concerned (place + 1) sources (ap (λ n. drop n all) (add-one place) ∙ at.1))
