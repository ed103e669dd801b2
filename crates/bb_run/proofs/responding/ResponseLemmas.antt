-- A response is made part by part, and is over in one of its parts or in none.
use Rattle.std.proofs.Common.{◌≡◌, ◌<◌, ◌≤◌, ℕ, ◌+◌, List, [], ◌∷◌, ◌++◌, length, drop, get_or, Option, None, Some, Result, refl, subst, sym, ap, ◌∙◌, append_assoc}
use Rattle.std.proofs.lemmas.List.{append-nil, drop_all, drop_more}
use Rattle.std.specs.Prelude.{IfOk, slice_get}
use Rattle.std.specs.Option.{option_map_or}
use Rattle.bb_schema.specs.Schema.{Schema}
use Rattle.bb_trace.specs.Event.{Event}
use Rattle.bb_agenda.specs.declared.focusing.activation.Activation.{Activation}
use Rattle.bb_machine.specs.declared.outcome.Answer.{Answer}
use Rattle.bb_run_plan.specs.Concerned.{concerned}
use Rattle.bb_run_plan.specs.Plan.{Plan}
use Rattle.bb_rules.specs.declared.source.Reaction.{Reaction}
use Rattle.bb_rules.specs.Parts.{Source}
use Rattle.bb_trace.specs.End.{End}
use Rattle.bb_trace.specs.declared.note.Note.{Note}
use Rattle.bb_run.specs.State.{State}
use Rattle.bb_run.specs.Emission.{Response, after_emitted, and_then, and_then_unless, idle}
use Rattle.bb_run.specs.Processing.{reacting_to, reacting_to_each, response, source_response}
use Rattle.bb_run.specs.proving.Responding.{response_at, responses_at}
use Rattle.bb_run.specs.proving.Own.{asked_about}
use Rattle.bb_run.specs.Emitting.{IsResponse}
use Rattle.bb_run.proofs.responding.ConcernedLemmas.{all_by_concerned}
use Rattle.bb_run.proofs.responding.OwnLemmas.{IgnoresNo, as_asked}

-- ---- one part and then the next

pub nothing_emitted : (notes : List Note) (s : State) → IsResponse (idle s) notes notes s None
nothing_emitted notes s = record { notes = sym (append-nil notes); state = refl; end = refl }

-- of the whole response these notes were made, and the rest is left
pub record HasNoted (old new : List Note) (whole rest : Response) : Type 0 where
  pub notes : old ++ whole.emitted ≡ new ++ rest.emitted
  pub state : whole.state ≡ rest.state
  pub end : whole.end ≡ rest.end

pub nothing_noted : (old : List Note) (whole : Response) → HasNoted old old whole whole
nothing_noted old whole = record { notes = refl; state = refl; end = refl }

-- all that is left was made
pub rest_made : (old mid new : List Note) (whole rest : Response) (s : State) (end : Option End) → HasNoted old mid whole rest → IsResponse rest mid new s end → IsResponse whole old new s end
rest_made old mid new whole rest s end h r = record { notes = r.notes ∙ sym h.notes; state = r.state ∙ sym h.state; end = r.end ∙ sym h.end }

module _ (old mid new : List Note) (whole p : Response) (next : State → Response) (s : State) where
  -- a part was made, and the rest comes
  pub part_made : HasNoted old mid whole (and_then p next) → IsResponse p mid new s None → HasNoted old new whole (next s)
  part_made h r =
      let goes : and_then p next ≡ after_emitted p.emitted (next s) = ap (λ e. and_then_unless e p next) (sym r.end) ∙ ap (λ t. after_emitted p.emitted (next t)) (sym r.state) in
      record {
        notes = h.notes ∙ ap (λ q. mid ++ q.emitted) goes ∙ sym (append_assoc mid p.emitted (next s).emitted) ∙ ap (λ n. n ++ (next s).emitted) (sym r.notes);
        state = h.state ∙ ap (λ q. q.state) goes;
        end = h.end ∙ ap (λ q. q.end) goes;
      }

  -- the response is over in a part of it
  pub part_over : (end : End) → HasNoted old mid whole (and_then p next) → IsResponse p mid new s (Some end) → IsResponse whole old new s (Some end)
  part_over end h r =
      let stops : and_then p next ≡ p = ap (λ e. and_then_unless e p next) (sym r.end) in
      record {
        notes = r.notes ∙ sym (h.notes ∙ ap (λ q. mid ++ q.emitted) stops);
        state = r.state ∙ sym (h.state ∙ ap (λ q. q.state) stops);
        end = r.end ∙ sym (h.end ∙ ap (λ q. q.end) stops);
      }

-- ---- the source at a place

-- where there is no source, nothing is emitted
pub none_responds : (schema : Schema) (event : Event) (sources read : List Source) (place : ℕ) (s : State) (notes : List Note) → None ≡ slice_get read place → read ≡ sources → IsResponse (response_at schema event sources place s) notes notes s None
none_responds schema event sources read place s notes none are =
    let same = ap (λ o. option_map_or (λ source. source_response schema event place source s) o (idle s)) (none ∙ ap (λ xs. slice_get xs place) are) in
    subst (λ p. IsResponse p notes notes s None) same (nothing_emitted notes s)

-- a source that is there responds
pub one_responds : {E : Type 0} (r : Result (Option End) E) (old new : List Note) (t : State) (schema : Schema) (event : Event) (sources read : List Source) (place : ℕ) (source : Source) (s : State) → Some source ≡ slice_get read place → read ≡ sources
    → IfOk r (IsResponse (source_response schema event place source s) old new t) → IfOk r (IsResponse (response_at schema event sources place s) old new t)
one_responds r old new t schema event sources read place source s found are h =
    let here = ap (λ o. option_map_or (λ x. source_response schema event place x s) o (idle s)) (found ∙ ap (λ xs. slice_get xs place) are) in
    subst (λ p. IfOk r (IsResponse p old new t)) here h

-- ---- sources, one after another

module _ (old now : List Note) (whole : Response) (schema : Schema) (event : Event) (sources : List Source) (places : List ℕ) (i : ℕ) (s : State) where
  -- what the source at this place brings about, and those at the places after it
  abbrev by_place : Response
  by_place = response_at schema event sources (get_or places i 0) s

  abbrev after_place : State → Response
  after_place = responses_at schema event sources (drop (i + 1) places)

  at_place : i < length places → HasNoted old now whole (responses_at schema event sources (drop i places) s) → HasNoted old now whole (and_then by_place after_place)
  unfolding responses_at
  at_place lt h = subst (HasNoted old now whole) (ap (λ ps. responses_at schema event sources ps s) (drop_more places i 0 lt)) h

  -- the source at this place responds, and the response is over or goes on
  module _ (new : List Note) (t : State) (o : Option End) (lt : i < length places)
      (h : HasNoted old now whole (responses_at schema event sources (drop i places) s)) (r : IsResponse by_place now new t o) where
    pub place_over : (end : End) → o ≡ Some end → IsResponse whole old new t (Some end)
    place_over end some = part_over old now new whole by_place after_place t end (at_place lt h) (subst (IsResponse by_place now new t) some r)

    pub place_made : o ≡ None → HasNoted old new whole (responses_at schema event sources (drop (i + 1) places) t)
    place_made none = part_made old now new whole by_place after_place t (at_place lt h) (subst (IsResponse by_place now new t) none r)

  pub places_done : length places ≤ i → HasNoted old now whole (responses_at schema event sources (drop i places) s) → IsResponse whole old now s None
  unfolding responses_at
  places_done le h = rest_made old now now whole (idle s) s None (subst (HasNoted old now whole) (ap (λ ps. responses_at schema event sources ps s) (drop_all i places le)) h) (nothing_emitted now s)

-- nothing was noted yet of what the sources that the event concerns bring about, which is all of the response
pub begun_at : (old : List Note) (plan : Plan) (event : Event) (places : List ℕ) (s : State) → places ≡ concerned event plan.sources
    → HasNoted old old (response plan event s) (responses_at plan.schema event plan.sources places s)
begun_at old plan event places s are =
    subst (HasNoted old old (response plan event s)) (all_by_concerned plan.schema event plan.sources 0 plan.sources refl s ∙ ap (λ ps. responses_at plan.schema event plan.sources ps s) (sym are)) (nothing_noted old (response plan event s))

-- ---- pending activations, one after another

-- nothing was noted yet of what comes of each of them, where those are asked about that can matter
pub begun_with : (old : List Note) (event : Event) (by : Activation → Answer → State → Response) → IgnoresNo by → (reaction : Reaction) (s : State) (all items : List Activation) → items ≡ asked_about reaction event all
    → HasNoted old old (reacting_to_each event by reaction all s) (reacting_to_each event by reaction items s)
begun_with old event by ignores reaction s all items is =
    let same = ap (λ xs. reacting_to_each event by reaction xs s) is ∙ as_asked event by ignores reaction all s in
    subst (HasNoted old old (reacting_to_each event by reaction all s)) (sym same) (nothing_noted old (reacting_to_each event by reaction all s))

module _ (old now : List Note) (whole : Response) (event : Event) (by : Activation → Answer → State → Response) (reaction : Reaction) (s : State) where
  pub at_activation : (items : List Activation) (a : Activation) (more : List Activation) → items ≡ a ∷ more → HasNoted old now whole (reacting_to_each event by reaction items s)
      → HasNoted old now whole (and_then (reacting_to event by reaction a s) (reacting_to_each event by reaction more))
  unfolding reacting_to_each
  at_activation items a more is h = subst (HasNoted old now whole) (ap (λ xs. reacting_to_each event by reaction xs s) is) h

  module _ (items : List Activation) (a : Activation) (more : List Activation) (new : List Note) (t : State) (o : Option End) (is : items ≡ a ∷ more)
      (h : HasNoted old now whole (reacting_to_each event by reaction items s)) (r : IsResponse (reacting_to event by reaction a s) now new t o) where
    pub activation_over : (end : End) → o ≡ Some end → IsResponse whole old new t (Some end)
    activation_over end some =
        part_over old now new whole (reacting_to event by reaction a s) (reacting_to_each event by reaction more) t end (at_activation items a more is h) (subst (IsResponse (reacting_to event by reaction a s) now new t) some r)

    pub activation_made : o ≡ None → HasNoted old new whole (reacting_to_each event by reaction more t)
    activation_made none =
        part_made old now new whole (reacting_to event by reaction a s) (reacting_to_each event by reaction more) t (at_activation items a more is h) (subst (IsResponse (reacting_to event by reaction a s) now new t) none r)

  pub activations_done : (items : List Activation) → items ≡ [] → HasNoted old now whole (reacting_to_each event by reaction items s) → IsResponse whole old now s None
  unfolding reacting_to_each
  activations_done items is h = rest_made old now now whole (idle s) s None (subst (HasNoted old now whole) (ap (λ xs. reacting_to_each event by reaction xs s) is) h) (nothing_emitted now s)
