-- States that are ready: events are processed in them, and the asks of natives leave them so.
use Rattle.std.proofs.Common.{◌≡◌, ◌⊎◌, ◌≤◌, ◌<◌, inl, inr, ℕ, List, [], ◌∷◌, ◌++◌, length, Option, Some, None, Ok, refl, sym, ap, subst, ◌∙◌, arith}
use Rattle.std.specs.Prelude.{true, All, Contains, map, slice_get}
use Rattle.std.proofs.lemmas.List.{append-nil}
use Rattle.std.proofs.lemmas.List.Elements.{All-append, All-cons, All-contains, All-nil, All-weaker}
use Rattle.std.proofs.lemmas.Option.{slice_get_within, get_or_from_slice_get}
use Rattle.bb_schema.specs.Schema.{Schema}
use Rattle.bb_schema.specs.Fits as schemas
use Rattle.bb_theorem_machine.proofs.Laws.{was_outlives}
use Rattle.bb_theorem_machine.specs.Fits.{Fits}
use Rattle.bb_trace.specs.Outlives.{Outlives}
use Rattle.bb_theorem_machine.specs.Units.{Units}
use Rattle.bb_theorem_machine.specs.NeverWrong.{Begins}
use Rattle.bb_agenda.specs.declared.focusing.activation.Activation.{Activation}
use Rattle.bb_agenda.specs.Agenda.{pending_of}
use Rattle.bb_trace.specs.Board.{Board as Blackboard, with_world}
use Rattle.bb_trace.specs.BoardNote.{Note as BoardNote}
use Rattle.bb_trace.specs.Event.{Event}
use Rattle.bb_trace.specs.Events.{unit_of}
use Rattle.bb_rules.specs.Match.{any_match}
use Rattle.bb_rules.specs.declared.source.Reaction.{Reaction}
use Rattle.bb_verify.specs.Accepted.{Checked}
use Rattle.bb_trace.specs.Applied.{applied}
use Rattle.bb_trace.specs.Ask.{Ask}
use Rattle.bb_trace.proofs.Laws.{applied_fits, applied_leads}
use Rattle.bb_rules.specs.Parts.{Source}
use Rattle.bb_trace.specs.World.{after_take}
use Rattle.bb_trace.specs.End.{End}
use Rattle.bb_trace.specs.End as finishes
use Rattle.bb_trace.specs.declared.note.Note.{Note}
use Rattle.bb_trace.specs.declared.note.Note.TheVariants.{Board, Refused, NativeEnded, Posted, PostEnded}
use Rattle.bb_run_plan.specs.Plan.{Plan}
use Rattle.bb_run.specs.State.{State, with_board}
use Rattle.bb_run.specs.Emission.{Response, Stretch, emitting, idle, over, after_emitted, and_then_unless, segment}
use Rattle.bb_run.specs.Asking.{entry_of}
use Rattle.bb_run.specs.Processing.{event_in, events_in, processing_all, reported, response}
use Rattle.bb_run.specs.Run.{asked, each_applied, with_notes_taken, noted}
use Rattle.bb_run.specs.Unstuck.{FitsPlan, IsEventOf, IsReady, IsWellMade, KeepsBudget, NotStuck, SuitsSource}
use Rattle.bb_run.proofs.serving.EntryLemmas.{event_lasts, noted_events}
use Rattle.bb_run.proofs.rules.AskRule.{HoldsOfAsks, asks_hold}
use Rattle.bb_run.proofs.notes.PendingLemmas.{events_two}
use Rattle.bb_run.proofs.serving.UnstuckParts.{GoesWell, Waits, all_answer, obviate_begins, processes_all, require_begins, retrigger_begins, well_one, well_segment, well_then, well_weaker}

-- what a blackboard noted keeps every budget
pub board_notes : (notes : List BoardNote) (more : List Note) → All KeepsBudget more → All KeepsBudget (map Board notes ++ more)
board_notes [] more all = all
board_notes (note ∷ notes) more all = All-cons KeepsBudget (Board note) (map Board notes ++ more) tt (board_notes notes more all)

pub there_at : {X : Type 0} (xs : List X) (i : ℕ) (x : X) → slice_get xs i ≡ Some x → Contains xs x
there_at xs i x is = (i, slice_get_within xs i x is, get_or_from_slice_get xs i x x is)

module _ (plan : Plan) (sound : IsWellMade plan) where
  abbrev pub Ready : State → Type 0
  Ready = IsReady plan

  abbrev pub GoesOn : Stretch → Type 0
  GoesOn = GoesWell (All KeepsBudget) Ready

  -- ---- events are processed

  waits_in : (s : State) (ready : Ready s) → Waits plan sound s.board ready.board s
  waits_in s ready = record { board = refl; waiting = ready.waiting }

  ready_of : (b : Blackboard) (fits : FitsPlan plan b) (s : State) → Waits plan sound b fits s → Ready s
  ready_of b fits s w = record {
    board = subst (FitsPlan plan) (sym w.board) fits;
    waiting = subst (λ (x : Blackboard). All (SuitsSource plan x) (pending_of s.agenda)) (sym w.board) w.waiting;
  }

  pub answer_to : (event : Event) (s : State) → Ready s → IsEventOf plan.schema s.board event → GoesWell KeepsBudget Ready (response plan event s)
  answer_to event s ready here =
      well_weaker KeepsBudget (Waits plan sound s.board ready.board) Ready (response plan event s) (ready_of s.board ready.board)
      (all_answer plan sound s.board ready.board event here s (waits_in s ready))

  pub processes : (list : List Event) (s : State) → All (IsEventOf plan.schema s.board) list → Ready s → GoesOn (processing_all plan list s)
  processes list s here ready =
      well_weaker (All KeepsBudget) (Waits plan sound s.board ready.board) Ready (processing_all plan list s) (ready_of s.board ready.board)
      (processes_all plan sound s.board ready.board list s here (waits_in s ready))

  -- what sources ask about an event
  module _ (s : State) (event : Event) (ready : Ready s) (here : IsEventOf plan.schema s.board event) where
    pub reacts : (source : Source) (reaction : Reaction) (a : Activation) → Contains (pending_of s.agenda) a → slice_get plan.sources a.source ≡ Some source
        → (source.obviate ≡ Some reaction) ⊎ (source.retrigger ≡ Some reaction) → any_match plan.schema reaction.clauses event ≡ true
        → Begins reaction.code.part reaction.code.frames reaction.code.code (entry_of a.unit (Some (unit_of event))) s.board
    reacts source reaction a waits at (inl is) matched =
        let suits = All-contains (SuitsSource plan s.board) (pending_of s.agenda) a ready.waiting waits in
        obviate_begins plan sound s.board ready.board event here source (there_at plan.sources a.source source at) reaction is matched a (suits source at)
    reacts source reaction a waits at (inr is) matched =
        let suits = All-contains (SuitsSource plan s.board) (pending_of s.agenda) a ready.waiting waits in
        retrigger_begins plan sound s.board ready.board event here source (there_at plan.sources a.source source at) reaction is matched a (suits source at)

    pub requires : (source : Source) (code : Checked) → Contains plan.sources source → source.require ≡ Some code → any_match plan.schema source.triggers event ≡ true
        → Begins code.part code.frames code.code (entry_of (unit_of event) None) s.board
    requires source code there' is matched = require_begins plan sound s.board ready.board event here source there' code is matched

  -- ---- what was noted is emitted, and its events are processed

  taken_fits : (b : Blackboard) → FitsPlan plan b → FitsPlan plan (with_world b (after_take b.world))
  taken_fits b f = record {
    schema = f.schema;
    world = record {
      units = f.world.units;
      layout = f.world.layout;
      links = f.world.links;
      ends = f.world.ends;
      singular = f.world.singular;
      pairs = f.world.pairs;
      spaces = f.world.spaces;
      notes = refl;
    };
  }

  taken_ready : (s : State) → Ready s → Ready (with_notes_taken s)
  taken_ready s ready = record { board = taken_fits s.board ready.board; waiting = ready.waiting }

  -- a response goes well, and its events are of the blackboard that it leaves
  pub record IsWell (r : Response) : Type 0 where
    pub well : GoesWell KeepsBudget Ready r
    pub events : All (IsEventOf plan.schema r.state.board) (events_in r.emitted)

  pub reports : (r : Response) → IsWell r → GoesOn (reported plan r)
  reports r is = well_then (All KeepsBudget) Ready (segment r) (processing_all plan (events_in r.emitted)) r.end refl (well_segment Ready r is.well) (processes (events_in r.emitted) r.state is.events)

  pub well_noted : (s : State) (more : List Note) (end : Option End) → Ready s → All KeepsBudget more → events_in more ≡ [] → NotStuck end → IsWell (noted s more end)
  well_noted s more end ready fine none not = record {
    well = record { emitted = board_notes s.board.world.notes more fine; end = not; state = taken_ready s ready };
    events = noted_events plan.schema sound.schema s.board s.board.world.notes more ready.board.world.notes none;
  }

  -- ---- the asks of a native

  -- what asks leave, and that the events which they noted are of the blackboard then
  pub record AskLeaves (s : State) (r : Response) : Type 0 where
    pub is : IsWell r
    pub outlives : Outlives s.board.world.units r.state.board.world.units

  abbrev pub AskGoes : State → Response → Type 0
  AskGoes s r = Ready s → AskLeaves s r

  same_units : (u : Units) → Outlives u u
  same_units u = record { next = (let le : u.next ≤ u.next = omega arith in le); classes = λ n class lt is. is }

  outlives_both : (u v w : Units) → Outlives u v → Outlives v w → Outlives u w
  outlives_both u v w p q = record {
    next = (let one = p.next in let two = q.next in let le : u.next ≤ w.next = omega (arith, one, two) in le);
    classes = λ n class lt is. p.classes n class lt (q.classes n class (let one = p.next in let less : n < v.next = omega (arith, lt, one) in less) is);
  }

  -- events go on being of the blackboard
  events_last : (b c : Blackboard) (events : List Event) → Outlives b.world.units c.world.units → All (IsEventOf plan.schema b) events → All (IsEventOf plan.schema c) events
  events_last b c events outlives all = All-weaker (IsEventOf plan.schema b) (IsEventOf plan.schema c) (λ e here. event_lasts plan.schema sound.schema b c e outlives here) events all

  -- the blackboard after an ask
  changed_ready : (s : State) (ask : Ask) (b : Blackboard) → applied ask s.board ≡ Ok b → Ready s → Ready (with_board s b)
  changed_ready s ask b is ready =
      let leads = applied_leads ask s.board b is in
      let same : b.schema ≡ plan.schema = leads.schema ∙ ready.board.schema in
      let fits = applied_fits ask s.board b (subst schemas.Fits (sym ready.board.schema) sound.schema) (subst (λ (x : Schema). Fits x s.board.world) (sym ready.board.schema) ready.board.world) is in
      record {
        board = record { schema = same; world = subst (λ (x : Schema). Fits x b.world) same fits };
        waiting = All-weaker (SuitsSource plan s.board) (SuitsSource plan b)
            (λ x own other there'. was_outlives plan.schema s.board.world b.world other.class x.unit leads.outlives (own other there')) (pending_of s.agenda) ready.waiting;
      }

  nothing_asked : (s : State) (r : Response) → r.emitted ≡ [] → r.state ≡ s → NotStuck r.end → AskGoes s r
  nothing_asked s r none same not ready = record {
    is = record {
      well = record { emitted = subst (All KeepsBudget) (sym none) (All-nil KeepsBudget); end = not; state = subst Ready (sym same) ready };
      events = subst (λ l. All (IsEventOf plan.schema r.state.board) (events_in l)) (sym none) (All-nil (IsEventOf plan.schema r.state.board));
    };
    outlives = subst (λ (t : State). Outlives s.board.world.units t.board.world.units) (sym same) (same_units s.board.world.units);
  }

  asks_then : (s : State) (r : Response) (next : State → Response) (end : Option End) → r.end ≡ end → AskGoes s r → AskGoes r.state (next r.state) → AskGoes s (and_then_unless end r next)
  asks_then s r next (Some e) is first rest ready = first ready
  asks_then s r next None is first rest ready =
      let q = next r.state in
      let one = first ready in
      let two = rest one.is.well.state in
      record {
        is = record {
          well = record { emitted = All-append KeepsBudget r.emitted q.emitted one.is.well.emitted two.is.well.emitted; end = two.is.well.end; state = two.is.well.state };
          events = subst (All (IsEventOf plan.schema q.state.board)) (sym (events_two r.emitted q.emitted))
              (All-append (IsEventOf plan.schema q.state.board) (events_in r.emitted) (events_in q.emitted) (events_last r.state.board q.state.board (events_in r.emitted) two.outlives one.is.events) two.is.events);
        };
        outlives = outlives_both s.board.world.units r.state.board.world.units q.state.board.world.units one.outlives two.outlives;
      }

  pub ask_parts : (asks : List Ask) → HoldsOfAsks asks AskGoes
  ask_parts asks = record {
    nothing = λ s. nothing_asked s (idle s) refl refl tt;
    changed = λ s ask b is ready. record {
      is = well_noted (with_board s b) [] None (changed_ready s ask b is ready) (All-nil KeepsBudget) refl tt;
      outlives = (applied_leads ask s.board b is).outlives;
    };
    refused = λ s number refusal ready. record {
      is = record { well = well_one KeepsBudget Ready (Refused number refusal) s tt ready; events = All-nil (IsEventOf plan.schema s.board) };
      outlives = same_units s.board.world.units;
    };
    full = λ s ask there came. nothing_asked s (over finishes.Full s) refl refl tt;
    no_memory = λ s ask came. nothing_asked s (over finishes.Full s) refl refl tt;
    further = λ s r next first rest. asks_then s r next r.end refl first rest;
  }

  -- and the note that tells how many there were
  pub asks_end : (note : Note) → KeepsBudget note → event_in note ≡ [] → (r : Response) (end : Option End) → r.end ≡ end → IsWell r → IsWell (and_then_unless end r (λ u. emitting (note ∷ []) u None))
  asks_end note fine none r (Some e) is well = well
  asks_end note fine none r None is it =
      let no_events : events_in (note ∷ []) ≡ [] = ap (λ (es : List Event). es ++ []) none in
      record {
        well = record { emitted = All-append KeepsBudget r.emitted (note ∷ []) it.well.emitted (All-cons KeepsBudget note [] fine (All-nil KeepsBudget)); end = tt; state = it.well.state };
        events = subst (All (IsEventOf plan.schema r.state.board)) (sym (events_two r.emitted (note ∷ []) ∙ (ap (λ (es : List Event). events_in r.emitted ++ es) no_events ∙ append-nil (events_in r.emitted)))) it.events;
      }

  pub native_ends : (asks : ℕ) (r : Response) (end : Option End) → r.end ≡ end → IsWell r → IsWell (and_then_unless end r (λ u. emitting (NativeEnded asks ∷ []) u None))
  native_ends asks r end is well = asks_end (NativeEnded asks) tt refl r end is well

  -- what a native that is due asks
  pub answers_well : (asks : List Ask) (s : State) → Ready s → IsWell (asked (λ n. NativeEnded n) asks s)
  answers_well asks s ready =
      let r = each_applied 1 asks s in
      native_ends (length asks) r r.end refl (asks_hold asks AskGoes (ask_parts asks) s ready).is

  -- asks from outside
  pub posts_well : (asks : List Ask) (s : State) → Ready s → IsWell (after_emitted (Posted ∷ []) (asked (λ n. PostEnded n) asks s))
  posts_well asks s ready =
      let r = each_applied 1 asks s in
      let it = asks_end (PostEnded (length asks)) tt refl r r.end refl (asks_hold asks AskGoes (ask_parts asks) s ready).is in
      record {
        well = record { emitted = All-cons KeepsBudget Posted (asked (λ n. PostEnded n) asks s).emitted tt it.well.emitted; end = it.well.end; state = it.well.state };
        events = it.events;
      }
