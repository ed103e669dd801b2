-- The agenda has the foci of the blackboard, at each choice as at the end.
use Rattle.std.proofs.Common.{◌≡◌, ◌<◌, ◌≤◌, inl, inr, ℕ, zero, suc, ◌+◌, ℤ, Bool, true, false, cond, List, [], ◌∷◌, ◌++◌, length, slice_get, Option, Some, None, Result, Ok, Err, refl, sym, ap, subst, ◌∙◌, arith}
use Rattle.std.specs.Prelude.{◌||◌, Contains, option_and_then}
use Rattle.std.specs.List.{fold, list_any, range_with_len}
use Rattle.std.specs.Option.{option_map_or}
use Rattle.std.specs.Ordering.{nat_cmp, eq_by_cmp}
use Rattle.std.specs.Cmp.{nat_cmp_total, nat_cmp_is, Equal-is}
use Rattle.std.specs.FinMap as fin
use Rattle.std.specs.FinMap.{contains_key-keys, get, get-insert, get-remove, get-empty, nat_cmp-IsAntisymmetric, same_map}
use Rattle.std.specs.declared.cmp.Ordering.TheVariants.{Equal}
use Rattle.std.proofs.Math.Nat.{eq-or-lt_of_le}
use Rattle.std.proofs.lemmas.Bool.{cases_lt, eqb-true}
use Rattle.std.proofs.lemmas.Option.{slice_get_within, get_or_from_slice_get}
use Rattle.bb_schema.specs.Schema.{Schema, descends}
use Rattle.bb_agenda.specs.declared.focusing.activation.Activation.{Activation}
use Rattle.bb_agenda.specs.declared.focusing.focus.Focus.{Focus}
use Rattle.bb_agenda.specs.Agenda.{pending_of}
use Rattle.bb_agenda.specs.Chosen.{chosen}
use Rattle.bb_agenda.specs.focusing.Foci.{Foci, Setting}
use Rattle.bb_agenda.specs.Rating.{rating as rated, rating_in}
use Rattle.bb_code.specs.Code.{Code}
use Rattle.bb_verify.specs.Budget.{budget}
use Rattle.bb_verify.specs.declared.checked.TheConstants.{FOUND_LIMIT}
use Rattle.bb_machine.specs.declared.outcome.Outcome.{Outcome}
use Rattle.bb_machine.specs.declared.outcome.Stop.{Stop}
use Rattle.bb_theorem_machine.specs.Named.{names, NotesChanges}
use Rattle.bb_theorem_machine.specs.Units.{Units, is_live, class_of, value_of}
use Rattle.bb_schema_classes.specs.declared.value.Value.{Value}
use Rattle.bb_theorem_machine.proofs.Laws.{activation_named, activation_schema, no_class, same_class, same_value}
use Rattle.bb_trace.specs.Event.{Event}
use Rattle.bb_trace.specs.Events.{unit_of}
use Rattle.bb_trace.specs.Board.{Board as Blackboard}
use Rattle.bb_trace.specs.BoardNote.{Note as BoardNote}
use Rattle.bb_trace.specs.BoardNote.TheVariants.{Event as happened, Said as said}
use Rattle.bb_rules.specs.declared.source.Act.{Act}
use Rattle.bb_rules.specs.declared.source.Act.TheVariants as acts
use Rattle.bb_rules.specs.Parts.{Source}
use Rattle.bb_trace.specs.End.{End}
use Rattle.bb_trace.specs.Ask.{Ask}
use Rattle.bb_trace.specs.Native.{Native}
use Rattle.bb_trace.specs.Roster.{after_act_at, asks_at, place_of}
use Rattle.bb_trace.specs.Sight.{sight_of}
use Rattle.bb_trace.specs.declared.note.Note.TheVariants.{NativeEnded, Posted, PostEnded}
use Rattle.bb_trace.proofs.Laws.{applied_leads}
use Rattle.bb_run_plan.specs.Plan.{Plan}
use Rattle.bb_run.specs.declared.execution.Verdict.{Verdict}
use Rattle.bb_run.specs.declared.execution.Verdict.TheVariants as verdicts
use Rattle.bb_run.specs.State.{State, with_board, with_natives}
use Rattle.bb_run.specs.Emission.{Response, after_emitted, idle, emitting, and_then_unless}
use Rattle.bb_run.specs.Asking.{attempt, entry_of}
use Rattle.bb_run_plan.specs.Foci.{focus_from, text_in, number_in, truth_in, focus_of, foci_on, told_unit, told_note, told_notes, first_agenda}
use Rattle.bb_run.specs.Processing.{response}
use Rattle.bb_run.specs.Reads.{AsksByReading}
use Rattle.bb_run.specs.Run.{rating, choice, quiet, wait_for, with_notes_taken, noted, answered, asked, calling, each_applied, execution, validity, chosen_with, cycle, cycles, if_chosen, first_state, start, run}
use Rattle.bb_run.specs.Weighed.{KnowsFoci, NumbersGiven}
use Rattle.bb_run_plan.proofs.Laws.{fold_range}
use Rattle.bb_run.proofs.keeping.ReadLemmas.{run_reads}
use Rattle.bb_run.proofs.rules.AskRule.{HoldsOfAsks, asks_hold}
use Rattle.bb_run.proofs.rules.ResponseRule.{HoldsOfParts, holds}
use Rattle.bb_run.specs.Turns.{answering, posting, turn, turn_by}
use Rattle.bb_run.proofs.rules.StateRule.{IsKept, cycle_keeps, cycles_keep, goes_if, kept_then, reports, run_keeps, start_keeps, wait_keeps}

-- ---- what the agenda is told of one unit

same_key : (n : ℕ) → eq_by_cmp nat_cmp n n ≡ true
same_key n = (Equal-is (nat_cmp n n)).1 (sym (nat_cmp_is n n Equal refl))

module _ (s : Schema) (u : Units) where
  -- what the foci have of a unit is what the unit is
  abbrev Right : ℕ → Foci → Type 0
  Right q foci = get foci q ≡ focus_of s u q

  told_get : (foci : Foci) (n q : ℕ) (o : Option Focus) → get (option_map_or (λ focus. fin.insert foci n focus) o (fin.remove foci n)) q ≡ cond (eq_by_cmp nat_cmp q n) o (get foci q)
  told_get foci n q None = get-remove nat_cmp_total foci n q
  told_get foci n q (Some focus) = get-insert nat_cmp_total foci n focus q

  by_key : (foci : Foci) (n q : ℕ) (b : Bool) → eq_by_cmp nat_cmp q n ≡ b → Right q foci → cond b (focus_of s u n) (get foci q) ≡ focus_of s u q
  by_key foci n q true is right = ap (focus_of s u) (sym (nat_cmp-IsAntisymmetric q n ((Equal-is (nat_cmp q n)).0 is)))
  by_key foci n q false is right = right

  -- what the foci have of a unit stays right when another unit is told
  still_right : (foci : Foci) (n q : ℕ) → Right q foci → Right q (told_unit s u foci n)
  still_right foci n q right = told_get foci n q (focus_of s u n) ∙ by_key foci n q (eq_by_cmp nat_cmp q n) refl right

  -- what the foci have of a unit becomes right when it is told
  now_right : (foci : Foci) (n : ℕ) → Right n (told_unit s u foci n)
  now_right foci n = told_get foci n n (focus_of s u n) ∙ ap (λ b. cond b (focus_of s u n) (get foci n)) (same_key n)

  -- ---- of the units that notes name

  after_note : (q : ℕ) (note : BoardNote) (foci : Foci) (b : Bool) → names q note ≡ b → (b ≡ false → Right q foci) → Right q (told_note s u foci note)
  after_note q (happened event) foci true is right = subst (λ n. Right n (told_unit s u foci (unit_of event))) (eqb-true (unit_of event) q is) (now_right foci (unit_of event))
  after_note q (happened event) foci false is right = still_right foci (unit_of event) q (right refl)
  after_note q (said values) foci b is right = right (sym is)

  none_named : (b c : Bool) → b ≡ false → c ≡ false → (b || c) ≡ false
  none_named true c p q = absurd cc
  none_named false c p q = q

  notes_right : (q : ℕ) (notes : List BoardNote) (foci : Foci) → (list_any (names q) notes ≡ false → Right q foci) → Right q (told_notes s u notes foci)
  notes_right q [] foci right = right refl
  notes_right q (note ∷ notes) foci right =
      notes_right q notes (told_note s u foci note)
      (λ others. after_note q note foci (names q note) refl (λ here. right (none_named (names q note) (list_any (names q) notes) here others)))

  -- ---- of some units, one after another

  stays_right : (q : ℕ) (ns : List ℕ) (foci : Foci) → Right q foci → Right q (fold (told_unit s u) foci ns)
  stays_right q [] foci right = right
  stays_right q (n ∷ ns) foci right = stays_right q ns (told_unit s u foci n) (still_right foci n q right)

  right_by : (q n : ℕ) (ns : List ℕ) (foci : Foci) (b : Bool) → eq_by_cmp nat_cmp q n ≡ b → (b || list_any (eq_by_cmp nat_cmp q) ns) ≡ true
      → (list_any (eq_by_cmp nat_cmp q) ns ≡ true → Right q (fold (told_unit s u) (told_unit s u foci n) ns)) → Right q (fold (told_unit s u) (told_unit s u foci n) ns)
  right_by q n ns foci true is there later =
      let same : q ≡ n = nat_cmp-IsAntisymmetric q n ((Equal-is (nat_cmp q n)).0 is) in
      stays_right q ns (told_unit s u foci n) (subst (λ k. Right k (told_unit s u foci n)) (sym same) (now_right foci n))
  right_by q n ns foci false is there later = later there

  -- what the foci have becomes right of each unit among those that are told
  becomes_right : (q : ℕ) (ns : List ℕ) (foci : Foci) → list_any (eq_by_cmp nat_cmp q) ns ≡ true → Right q (fold (told_unit s u) foci ns)
  becomes_right q [] foci there = absurd cc
  becomes_right q (n ∷ ns) foci there = right_by q n ns foci (eq_by_cmp nat_cmp q n) refl there (becomes_right q ns (told_unit s u foci n))

  -- ---- of all units

  below_right : (k q : ℕ) (foci : Foci) → q < k → Right q (fold (told_unit s u) foci (range_with_len 0 k))
  below_right zero q foci lt = absurd (omega (arith, lt))
  below_right (suc k) q foci lt =
      let all = fold (told_unit s u) foci (range_with_len 0 k) in
      let le : q ≤ k = omega (arith, lt) in
      let count : k + 1 ≡ suc k = omega arith in
      let told : fold (told_unit s u) foci (range_with_len 0 (suc k)) ≡ told_unit s u all k = ap (λ n. fold (told_unit s u) foci (range_with_len 0 n)) (sym count) ∙ fold_range (told_unit s u) foci k in
      let right : Right q (told_unit s u all k) = elim (eq-or-lt_of_le le) [
        | inl same ↦ subst (λ n. Right n (told_unit s u all k)) (sym same) (now_right all k)
        | inr under ↦ still_right all k q (below_right k q foci under)
      ] in
      subst (Right q) (sym told) right

  all_right : (k q : ℕ) (foci : Foci) → Right q foci → Right q (fold (told_unit s u) foci (range_with_len 0 k))
  all_right zero q foci right = right
  all_right (suc k) q foci right =
      let all = fold (told_unit s u) foci (range_with_len 0 k) in
      let count : k + 1 ≡ suc k = omega arith in
      let told : fold (told_unit s u) foci (range_with_len 0 (suc k)) ≡ told_unit s u all k = ap (λ n. fold (told_unit s u) foci (range_with_len 0 n)) (sym count) ∙ fold_range (told_unit s u) foci k in
      subst (Right q) (sym told) (still_right all k q (all_right k q foci right))

-- ---- what a unit is goes by the unit alone

-- by its class and the values of its slots
abbrev focus_with : Schema → Option ℕ → Option Value → Option Value → Option Value → Option Value → Option Focus
focus_with s class a b c d = cond (option_map_or (λ x. descends s x 0) class false) (focus_from (text_in a) (text_in b) (number_in c) (truth_in d)) None

module _ (s : Schema) where
  focus_is : (u : Units) (n : ℕ) → focus_of s u n ≡ focus_with s (class_of u n) (value_of u n 0) (value_of u n 1) (value_of u n 2) (value_of u n 3)
  unfolding focus_of
  focus_is u n = refl

  focus_same : (u v : Units) (n : ℕ) → get v.units n ≡ get u.units n → focus_of s u n ≡ focus_of s v n
  focus_same u v n same =
      focus_is u n
      ∙ ap (λ x. focus_with s x (value_of u n 0) (value_of u n 1) (value_of u n 2) (value_of u n 3)) (same_class u v n same)
      ∙ ap (λ x. focus_with s (class_of v n) x (value_of u n 1) (value_of u n 2) (value_of u n 3)) (same_value u v n 0 same)
      ∙ ap (λ x. focus_with s (class_of v n) (value_of v n 0) x (value_of u n 2) (value_of u n 3)) (same_value u v n 1 same)
      ∙ ap (λ x. focus_with s (class_of v n) (value_of v n 0) (value_of v n 1) x (value_of u n 3)) (same_value u v n 2 same)
      ∙ ap (λ x. focus_with s (class_of v n) (value_of v n 0) (value_of v n 1) (value_of v n 2) x) (same_value u v n 3 same)
      ∙ sym (focus_is v n)

  -- a number that names no unit is no focus
  no_focus : (u : Units) (n : ℕ) → is_live u n ≡ false → focus_of s u n ≡ None
  no_focus u n is = focus_is u n ∙ ap (λ x. focus_with s x (value_of u n 0) (value_of u n 1) (value_of u n 2) (value_of u n 3)) (no_class u n is)

  none_there : (u : Units) (n : ℕ) (b : Bool) → is_live u n ≡ b → (is_live u n ≡ true → n < u.next) → u.next ≤ n → focus_of s u n ≡ None
  none_there u n true is given le = absurd (let lt : n < u.next = given is in omega (arith, lt, le))
  none_there u n false is given le = no_focus u n is

-- ---- the foci of a blackboard

module _ (board : Blackboard) where
  on_by : (q : ℕ) (b : Bool) → is_live board.world.units q ≡ b → get (foci_on board) q ≡ focus_of board.schema board.world.units q
  on_by q true is = becomes_right board.schema board.world.units q (fin.keys board.world.units.units) fin.empty (sym (contains_key-keys board.world.units.units q) ∙ is)
  on_by q false is = stays_right board.schema board.world.units q (fin.keys board.world.units.units) fin.empty (get-empty nat_cmp q ∙ sym (no_focus board.schema board.world.units q is))

  -- under each number they have what the unit is
  foci_are : (q : ℕ) → get (foci_on board) q ≡ focus_of board.schema board.world.units q
  foci_are q = on_by q (is_live board.world.units q) refl

-- an agenda that knows them rates by them
module _ (plan : Plan) (s : State) (k : KnowsFoci plan s) where
  same_foci : s.agenda.foci ≡ foci_on s.board
  same_foci = same_map nat_cmp_total nat_cmp-IsAntisymmetric _ _ (λ q. k.each q ∙ sym (foci_are s.board q))

  pub rating_known : (a : Activation) → rating_in s.agenda a ≡ rating plan s a
  rating_known a =
      ap (λ f. rated s.agenda.setting.schema s.agenda.setting.sources f a) same_foci
      ∙ ap (λ (x : Setting). rated x.schema x.sources (foci_on s.board) a) k.setting

  pub choice_known : chosen (rating_in s.agenda) plan.floor (pending_of s.agenda) ≡ choice plan s
  choice_known =
      ap (λ f. chosen (λ a. rated s.agenda.setting.schema s.agenda.setting.sources f a) plan.floor (pending_of s.agenda)) same_foci
      ∙ ap (λ (x : Setting). chosen (λ a. rated x.schema x.sources (foci_on s.board) a) plan.floor (pending_of s.agenda)) k.setting

-- ---- the agenda knows the foci

-- by what it knew, where blackboard and foci are as they were
knows_same : (plan : Plan) (s t : State) → t.board ≡ s.board → t.agenda.foci ≡ s.agenda.foci → t.agenda.setting ≡ s.agenda.setting → KnowsFoci plan s → KnowsFoci plan t
knows_same plan s t board foci setting k = record {
  taken = ap (λ (b : Blackboard). b.world.notes) board ∙ k.taken;
  each = λ n. ap (λ f. get f n) foci ∙ k.each n ∙ ap (λ (b : Blackboard). focus_of b.schema b.world.units n) (sym board);
  setting = setting ∙ k.setting;
}

-- a blackboard whose notes name what changed is noted, and the agenda is told of it
knows_noted : (plan : Plan) (s : State) (b : Blackboard) → KnowsFoci plan s → b.schema ≡ s.board.schema → NotesChanges s.board.world b.world → KnowsFoci plan (with_notes_taken (with_board s b))
knows_noted plan s b k schema changes =
    let notes : b.world.notes ≡ changes.more = changes.notes ∙ ap (λ l. l ++ changes.more) k.taken in
    record {
      taken = refl;
      each = λ q.
          notes_right b.schema b.world.units q b.world.notes s.agenda.foci
          (λ others.
          k.each q
          ∙ ap (λ x. focus_of x s.board.world.units q) (sym schema)
          ∙ focus_same b.schema s.board.world.units b.world.units q (changes.kept q (ap (list_any (names q)) (sym notes) ∙ others)));
      setting = k.setting;
    }

-- ---- what answers to an event changes no focus

module _ (plan : Plan) where
  abbrev SameFoci : State → Response → Type 0
  SameFoci s r = (r.state.agenda.foci ≡ s.agenda.foci) × (r.state.agenda.setting ≡ s.agenda.setting)

  same_then : (s : State) (r : Response) (next : State → Response) (end : Option End) → SameFoci s r → SameFoci r.state (next r.state) → SameFoci s (and_then_unless end r next)
  same_then s r next (Some e) first rest = first
  same_then s r next None first rest = (rest.0 ∙ first.0, rest.1 ∙ first.1)

  response_parts : HoldsOfParts plan SameFoci
  response_parts = record {
    nothing = λ s. (refl, refl);
    full = λ s is. (refl, refl);
    stopped = λ s code entry stop of came. (refl, refl);
    went_on = λ s code entry r of same. same;
    triggered = λ s source unit base under room. (refl, refl);
    declined = λ s source unit. (refl, refl);
    obviated = λ s number. (refl, refl);
    rebased = λ s number base. (refl, refl);
    further = λ s r next first rest. same_then s r next r.end first rest;
  }

  pub response_foci : (event : Event) (s : State) → SameFoci s (response plan event s)
  response_foci event s = holds plan SameFoci response_parts event s

module _ (plan : Plan) (reading : AsksByReading plan) where
  abbrev Knows : State → Type 0
  Knows = KnowsFoci plan

  -- ---- what answers to an event

  pub responds : (event : Event) (s : State) → Knows s → Knows (response plan event s).state
  responds event s k =
      let same = response_foci plan event s in
      knows_same plan s (response plan event s).state ((run_reads plan reading).events event s) same.0 same.1 k

  -- ---- an execution

  answers : (code : Code) (s : State) (b : Blackboard) (r : Result Outcome Stop) → Knows s → b.schema ≡ s.board.schema → NotesChanges s.board.world b.world → Knows (answered code (with_board s b) r).state
  answers code s b (Ok o) k schema changes = knows_noted plan s b k schema changes
  answers code s b (Err stop) k schema changes = knows_noted plan s b k schema changes

  -- the asks of a native
  abbrev KnowsStill : State → Response → Type 0
  KnowsStill s r = Knows s → Knows r.state

  still_then : (s : State) (r : Response) (next : State → Response) (end : Option End) → KnowsStill s r → KnowsStill r.state (next r.state) → KnowsStill s (and_then_unless end r next)
  still_then s r next (Some e) first rest k = first k
  still_then s r next None first rest k = rest (first k)

  ask_parts : (asks : List Ask) → HoldsOfAsks asks KnowsStill
  ask_parts asks = record {
    nothing = λ s k. k;
    changed = λ s ask b is k. let leads = applied_leads ask s.board b is in knows_noted plan s b k leads.schema leads.named;
    refused = λ s number refusal k. k;
    full = λ s ask there is k. k;
    no_memory = λ s ask is k. k;
    further = λ s r next first rest. still_then s r next r.end first rest;
  }

  calls : (place : Option ℕ) (a : Activation) (s : State) → Knows s → Knows (calling place a s).state
  calls None a s k = k
  calls (Some place) a s k =
      let seen = sight_of s.board in
      let asks = asks_at s.natives place a.unit seen in
      let t = with_natives s (after_act_at s.natives place a.unit seen) in
      let r = each_applied 1 asks t in
      kept_then plan Knows r (λ u. emitting (NativeEnded (length asks) ∷ []) u None) r.end (asks_hold asks KnowsStill (ask_parts asks) t (knows_same plan s t refl refl refl k)) (λ u known. known)

  executes : (name : List ℕ) (act : Act) (a : Activation) (s : State) → Knows s → Knows (execution name act a s).state
  executes name (acts.Code body) a s k =
      let e = attempt body.code (entry_of a.unit None) s.board in
      answers body.code s e.1 e.0 k (activation_schema (budget body.code FOUND_LIMIT) body.code (entry_of a.unit None) s.board) (activation_named (budget body.code FOUND_LIMIT) body.code (entry_of a.unit None) s.board)
  executes name acts.Native a s k = calls (place_of s.natives name) a s k

  -- ---- a choice

  chooses : (number : ℕ) (a : Activation) (r : ℤ) (v : Verdict) (s : State) → Knows s → Knows (chosen_with number a r v s).state
  chooses number a r verdicts.Valid s k = knows_same plan s (chosen_with number a r verdicts.Valid s).state refl refl refl k
  chooses number a r verdicts.Invalid s k = knows_same plan s (chosen_with number a r verdicts.Invalid s).state refl refl refl k
  chooses number a r (verdicts.Over end) s k = k

  there_at : (xs : List Source) (i : ℕ) (x : Source) → slice_get xs i ≡ Some x → Contains xs x
  there_at xs i x is = (i, slice_get_within xs i x is, get_or_from_slice_get xs i x x is)

  -- asking whether it is still of use changes nothing
  same_board : (source : Option Source) (a : Activation) (b : Blackboard) → slice_get plan.sources a.source ≡ source → (validity (option_and_then (λ t. t.revalidate) source) a b).1 ≡ b
  same_board None a b is = refl
  same_board (Some source) a b is = (run_reads plan reading).choices source a b (there_at plan.sources a.source source is)

  -- ---- each part of a run

  knows_kept : IsKept plan Knows
  knows_kept = record {
    events = responds;
    executes = executes;
    asks = λ source a s is k. knows_same plan s (with_board s (validity (option_and_then (λ t. t.revalidate) source) a s.board).1) (same_board source a s.board is) refl refl k;
    chooses = chooses;
  }

  pub cycle_knows : (number : ℕ) (a : Activation) (s : State) → Knows s → Knows (cycle plan number a s).state
  cycle_knows number a s k = cycle_keeps plan Knows knows_kept number a s k

  pub waits : (s : State) (c : Option Activation) → Knows s → Knows (wait_for plan s c).state
  waits s c k = wait_keeps plan Knows knows_kept s c k

  pub cycles_know : (made left : ℕ) (s : State) → Knows s → Knows (cycles plan made left s).state
  cycles_know made left s k = cycles_keep plan Knows knows_kept made left s k

  -- ---- what else a host has a run do

  turns : (made : ℕ) (s : State) (c : Option Activation) → Knows s → Knows (turn_by plan made s c).state
  turns made s (Some a) k = cycle_knows (made + 1) a s k
  turns made s None k =
      let p = quiet plan s in
      kept_then plan Knows p (λ t. if_chosen t (choice plan t) (λ a. idle t)) p.end (waits s None k) (λ t known. goes_if plan Knows knows_kept t (choice plan t) (λ a. idle t) known (λ a. known))

  pub turn_knows : (made : ℕ) (s : State) → Knows s → Knows (turn plan made s).state
  turn_knows made s k = turns made s (choice plan s) k

  pub post_knows : (asks : List Ask) (s : State) → Knows s → Knows (posting plan asks s).state
  post_knows asks s k =
      let r = each_applied 1 asks s in
      reports plan Knows knows_kept (after_emitted (Posted ∷ []) (asked (λ n. PostEnded n) asks s))
      (kept_then plan Knows r (λ u. emitting (PostEnded (length asks) ∷ []) u None) r.end (asks_hold asks KnowsStill (ask_parts asks) s k) (λ u known. known))

  pub answer_knows : (asks : List Ask) (s : State) → Knows s → Knows (answering plan asks s).state
  answer_knows asks s k =
      let r = each_applied 1 asks s in
      reports plan Knows knows_kept (asked (λ n. NativeEnded n) asks s)
      (kept_then plan Knows r (λ u. emitting (NativeEnded (length asks) ∷ []) u None) r.end (asks_hold asks KnowsStill (ask_parts asks) s k) (λ u known. known))

  -- ---- the whole run

  -- the foci of the blackboard that the run begins with
  first_right : (board : Blackboard) → NumbersGiven board → (q : ℕ) → get (first_agenda plan board).foci q ≡ focus_of board.schema board.world.units q
  first_right board given q =
      let u = board.world.units in
      elim (cases_lt q u.next) [
        | inl lt ↦ below_right board.schema u u.next q fin.empty lt
        | inr le ↦ all_right board.schema u u.next q fin.empty (get-empty nat_cmp q ∙ sym (none_there board.schema u q (is_live u q) refl (given q) le))
      ]

  first_knows : (board : Blackboard) (natives : List Native) → NumbersGiven board → Knows (noted (first_state plan board natives) [] None).state
  first_knows board natives given = record {
    taken = refl;
    each = λ q. notes_right board.schema board.world.units q board.world.notes (first_agenda plan board).foci (λ others. first_right board given q);
    setting = refl;
  }

  pub start_knows : (board : Blackboard) (natives : List Native) → NumbersGiven board → Knows (start plan board natives).state
  start_knows board natives given = start_keeps plan Knows knows_kept board natives (first_knows board natives given)

  pub run_knows_foci : (board : Blackboard) (natives : List Native) (limit : ℕ) → NumbersGiven board → Knows (run plan board natives limit).state
  run_knows_foci board natives limit given = run_keeps plan Knows knows_kept board natives (first_knows board natives given) limit
