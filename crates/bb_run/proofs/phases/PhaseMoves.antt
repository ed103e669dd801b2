-- Where a run is by its phases, and how notes and stretches move it.
use Rattle.std.proofs.Common.{◌≡◌, ◌<◌, ◌⊎◌, ℕ, List, [], ◌∷◌, ◌++◌, length, Option, Some, None, refl, sym, ap, subst, ◌∙◌, append_assoc}
use Rattle.std.specs.Prelude.{⊤, All}
use Rattle.std.proofs.lemmas.List.{append-nil}
use Rattle.std.proofs.lemmas.List.Elements.{All-filter, All-nil}
use Rattle.std.proofs.lemmas.List.Sums.{fold-append}
use Rattle.bb_agenda.specs.declared.focusing.activation.Activation.{Activation}
use Rattle.bb_agenda.specs.Agenda.{Agenda, no_activations, pending_of}
use Rattle.bb_trace.specs.Board.{Board as Blackboard}
use Rattle.bb_agenda.specs.focusing.Foci.{Foci, Setting}
use Rattle.bb_agenda.specs.Changes.{other_than}
use Rattle.bb_trace.specs.End.{End}
use Rattle.bb_trace.specs.declared.note.Note.{Note}
use Rattle.bb_trace.specs.declared.note.Note.TheVariants.{Board, Chosen, Invalid, Ended, Refused, NativeEnded, Finished, Closed}
use Rattle.bb_trace.specs.Native.{Native}
use Rattle.bb_run_plan.specs.Plan.{Plan}
use Rattle.bb_run.specs.State.{State}
use Rattle.bb_run.specs.Emission.{Stretch, emitting, and_then_unless}
use Rattle.bb_run.specs.Run.{cycle}
use Rattle.bb_run_plan.specs.Foci.{with_foci}
use Rattle.bb_run.specs.Order.{notes_of, after_note, triggered_in, without}
use Rattle.bb_run.specs.Phases.{Phase, outside, rested, inside, after_in, phase_after, IsQuiet}
use Rattle.bb_run.proofs.rules.OrderLemmas.{Comes, comes_none, comes_one, comes_then}
use Rattle.bb_run.proofs.notes.OrderlyParts.{all_of_two, IsEarly}
use Rattle.bb_run.proofs.phases.PastLemmas.{IsBy, by_foci, by_silent}

module _ (plan : Plan) (board : Blackboard) (natives : List Native) where
  -- ---- where a run is

  abbrev pub IsOne : Activation → Type 0
  IsOne a = a.source < length plan.sources

  -- after these notes a run is in this phase, the agenda is what is pending by them, and each is of one of the sources
  pub record IsAt (past : List Note) (phase : Phase) (agenda : Agenda) : Type 0 where
    pub phase_is : phase_after past ≡ phase
    pub by : IsBy past agenda
    pub known : All IsOne (pending_of agenda)

  pub at_first : (setting : Setting) (foci : Foci) → IsAt [] outside (with_foci (no_activations setting) foci)
  at_first setting foci = record { phase_is = refl; by = record { pending = refl; numbers = refl }; known = All-nil IsOne }

  -- one note more
  pub at_next : (past : List Note) (phase : Phase) (before after : Agenda) (note : Note) → IsAt past phase before → IsBy (past ++ note ∷ []) after → All IsOne (pending_of after) → IsAt (past ++ note ∷ []) (after_in phase note) after
  at_next past phase before after note at by known = record {
    phase_is = fold-append after_in outside past (note ∷ []) ∙ ap (λ p. after_in p note) at.phase_is;
    by = by;
    known = known;
  }

  -- after a note that tells of no activation
  pub at_silent : (past : List Note) (phase : Phase) (agenda : Agenda) (note : Note) → IsAt past phase agenda → triggered_in (note ∷ []) ≡ [] → ((pending : List Activation) → after_note pending note ≡ pending) → IsAt (past ++ note ∷ []) (after_in phase note) agenda
  at_silent past phase agenda note at none same = at_next past phase agenda agenda note at (by_silent past (note ∷ []) agenda none same at.by) at.known

  -- foci change nothing of it
  pub at_foci : (past : List Note) (phase : Phase) (agenda : Agenda) (foci : Foci) → IsAt past phase agenda → IsAt past phase (with_foci agenda foci)
  at_foci past phase agenda foci at = record { phase_is = at.phase_is; by = by_foci past agenda at.by foci; known = at.known }

  -- without the one of a number
  pub known_left : (before after : Agenda) (number : ℕ) → pending_of after ≡ without number (pending_of before) → All IsOne (pending_of before) → All IsOne (pending_of after)
  known_left before after number left known = subst (All IsOne) (sym left) (All-filter (other_than number) IsOne (pending_of before) known)

  -- a note may come where the run is
  abbrev pub MayStand : List Note → Note → Type 0
  MayStand before (Board note) = (phase_after before ≡ inside) ⊎ IsQuiet plan board natives before note
  MayStand before (Chosen cycle a r) = (phase_after before ≡ outside) ⊎ (phase_after before ≡ rested)
  MayStand before (Ended steps found allowed) = phase_after before ≡ inside
  MayStand before (NativeEnded asks) = phase_after before ≡ inside
  MayStand before (Invalid number) = phase_after before ≡ inside
  MayStand before (Refused ask refusal) = phase_after before ≡ inside
  MayStand before (Finished end) = ⊥
  MayStand before (Closed closing) = ⊥
  MayStand before _ = ⊤

  -- notes after these, with what they leave
  pub record Moves (past notes : List Note) (phase : Phase) (s : State) (end : Option End) : Type 0 where
    pub comes : Comes MayStand past notes
    pub leaves : end ≡ None → IsAt (past ++ notes) phase s.agenda
    pub early : IsEarly end

  abbrev pub EmitsTo : (past : List Note) → Phase → Stretch → Type 0
  EmitsTo past phase p = Moves past (notes_of p) phase p.state p.end

  pub moves_none : (past : List Note) (phase : Phase) (s : State) (end : Option End) → IsEarly end → IsAt past phase s.agenda → Moves past [] phase s end
  moves_none past phase s end early at = record { comes = comes_none MayStand past; leaves = λ e. subst (λ l. IsAt l phase s.agenda) (sym (append-nil past)) at; early = early }

  pub moves_one : (past : List Note) (note : Note) (phase : Phase) (s : State) → MayStand past note → IsAt (past ++ note ∷ []) phase s.agenda → Moves past (note ∷ []) phase s None
  moves_one past note phase s may at = record { comes = comes_one MayStand past note may; leaves = λ e. at; early = tt }

  pub moves_more : (past xs ys : List Note) (phase : Phase) (s : State) (end : Option End) → Comes MayStand past xs → Moves (past ++ xs) ys phase s end → Moves past (xs ++ ys) phase s end
  moves_more past xs ys phase s end may rest = record {
    comes = comes_then MayStand past xs ys may rest.comes;
    leaves = λ e. subst (λ l. IsAt l phase s.agenda) (append_assoc past xs ys) (rest.leaves e);
    early = rest.early;
  }

  pub moves_segment : (past notes : List Note) (phase : Phase) (s : State) (end : Option End) → Moves past notes phase s end → EmitsTo past phase (emitting (notes ∷ []) s end)
  moves_segment past notes phase s end p = subst (λ l. Moves past l phase s end) (sym (append-nil notes)) p

  -- a stretch, and then the next
  pub emits_then : (past : List Note) (first after : Phase) (p : Stretch) (next : State → Stretch) (end : Option End) → p.end ≡ end → EmitsTo past first p
      → (IsAt (past ++ notes_of p) first p.state.agenda → EmitsTo (past ++ notes_of p) after (next p.state)) → EmitsTo past after (and_then_unless end p next)
  emits_then past first after p next (Some e) is emitted rest = record { comes = emitted.comes; leaves = λ none. absurd (let no : Some e ≡ None = sym is ∙ none in cc); early = emitted.early }
  emits_then past first after p next None is emitted rest =
      let q = next p.state in
      subst (λ l. Moves past l after q.state q.end) (sym (all_of_two p.emitted q.emitted)) (moves_more past (notes_of p) (notes_of q) after q.state q.end emitted.comes (rest (emitted.leaves is)))
