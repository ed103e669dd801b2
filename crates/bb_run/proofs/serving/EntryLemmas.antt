-- What an execution begins with fits its part: an activation's unit is one of its source's class, and an event's is one
-- of the class of the clause that names it.
use Rattle.std.proofs.Common.{◌≡◌, ◌≤◌, ◌<◌, inl, inr, ℕ, Bool, true, false, List, [], ◌∷◌, ◌++◌, length, map, Option, Some, None, option_map, refl, sym, ap, subst, ◌∙◌, arith}
use Rattle.std.specs.Prelude.{All, ◌&&◌, ◌||◌, ◌==◌, nat_lt}
use Rattle.std.specs.List.{list_all}
use Rattle.std.specs.Option.{option_map_or}
use Rattle.std.proofs.lemmas.Bool.{and_parts, eqb-true}
use Rattle.std.proofs.lemmas.Bool.Decides.{nat_tests}
use Rattle.std.proofs.lemmas.List.Elements.{All-cons, All-head, All-nil, All-tail}
use Rattle.bb_basis.proofs.BoolLemmas.{or_right_and}
use Rattle.bb_schema.specs.Schema.{Schema, descends}
use Rattle.bb_schema.specs.Fits as schemas
use Rattle.bb_code.specs.Code.{IsCode}
use Rattle.bb_verify.specs.Accepted.{Checked}
use Rattle.bb_verify.specs.Facts.{Facts}
use Rattle.bb_verify_effect.specs.declared.part.Part.{Part}
use Rattle.bb_verify_effect.specs.declared.part.Part.TheVariants as parts
use Rattle.bb_verify.proofs.Laws.{checked_facts}
use Rattle.bb_theorem_machine.proofs.Laws.{descends_on}
use Rattle.bb_machine.specs.declared.outcome.Entry.{Entry}
use Rattle.bb_theorem_machine.specs.Fits.{is_event_of, is_noted, is_of_if_live, names_slot_of}
use Rattle.bb_theorem_machine.specs.Kinds.{WasOf}
use Rattle.bb_theorem_machine.specs.NeverWrong.{Begins, EntryFits}
use Rattle.bb_theorem_machine.specs.Units.{class_of}
use Rattle.bb_trace.specs.Outlives.{Outlives}
use Rattle.bb_trace.specs.Board.{Board as Blackboard}
use Rattle.bb_trace.specs.BoardNote.{Note as BoardNote}
use Rattle.bb_trace.specs.BoardNote.TheVariants.{Event as happened, Said as said}
use Rattle.bb_trace.specs.Change.{Change}
use Rattle.bb_rules.specs.declared.clause.Clause.{Clause}
use Rattle.bb_rules.specs.declared.clause.Clause.TheVariants as clauses
use Rattle.bb_trace.specs.Event.{Event}
use Rattle.bb_trace.specs.Event.TheVariants as events
use Rattle.bb_trace.specs.Events.{kind_of, unit_of}
use Rattle.bb_rules.specs.Law.{HasSoundCodes, IsAccepted, IsWithin}
use Rattle.bb_rules.specs.Match.{any_match, is_same_kind, matches}
use Rattle.bb_rules.specs.Questions.{IsQuestion}
use Rattle.bb_rules.specs.declared.source.Reaction.{Reaction}
use Rattle.bb_rules.specs.Parts.{Source}
use Rattle.bb_trace.specs.declared.note.Note.{Note}
use Rattle.bb_trace.specs.declared.note.Note.TheVariants.{Board}
use Rattle.bb_run.specs.Asking.{entry_of}
use Rattle.bb_run.specs.Causes.{IsPart, code_of}
use Rattle.bb_run.specs.Processing.{events_in}
use Rattle.bb_run.specs.Unstuck.{IsEventOf}

-- ---- events that clauses name

module _ (s : Schema) (sf : schemas.Fits s) (b : Blackboard) where
  -- a unit of an event's class, if it is live
  still_of : (class of : ℕ) (own : Option ℕ) → option_map_or (λ c. c == of) own true ≡ true → descends s of class ≡ true → option_map_or (λ c. descends s c class) own true ≡ true
  still_of class of None is under = refl
  still_of class of (Some own) is under = subst (λ c. descends s c class ≡ true) (sym (eqb-true own of is)) under

  -- the class of an event that one of the clauses names descends from that of the clauses
  named_by : (class unit of : ℕ) (change : Change) (c : Clause) → IsWithin s class c → matches s c (events.Change unit of change) ≡ true → descends s of class ≡ true
  named_by class unit of change (clauses.Change kind changed) within is = descends_on s of changed class sf (and_parts (is_same_kind kind (kind_of change)) (descends s of changed) is).1 within
  named_by class unit of change clauses.Quiescence within is = absurd cc

  named_or : (class unit of : ℕ) (change : Change) (x y : Bool) → (x ≡ true → descends s of class ≡ true) → (y ≡ true → descends s of class ≡ true) → (x || y) ≡ true → descends s of class ≡ true
  named_or class unit of change true y one more is = one refl
  named_or class unit of change false y one more is = more is

  named : (class unit of : ℕ) (change : Change) (list : List Clause) → All (IsWithin s class) list → any_match s list (events.Change unit of change) ≡ true → descends s of class ≡ true
  named class unit of change [] all is = absurd cc
  named class unit of change (c ∷ list) all is =
      named_or class unit of change (matches s c (events.Change unit of change)) (any_match s list (events.Change unit of change))
      (named_by class unit of change c (All-head (IsWithin s class) c list all))
      (named class unit of change list (All-tail (IsWithin s class) c list all)) is

  -- the unit of an event that one of the clauses names
  pub event_was : (class : ℕ) (list : List Clause) (e : Event) → All (IsWithin s class) list → IsEventOf s b e → any_match s list e ≡ true → WasOf s b.world class (unit_of e)
  event_was class list (events.Change unit of change) all here is =
      let u = b.world.units in
      let p = and_parts (nat_lt unit u.next && is_of_if_live u unit of && nat_lt of (length s.classes)) (names_slot_of s change) here in
      let q = and_parts (nat_lt unit u.next && is_of_if_live u unit of) (nat_lt of (length s.classes)) p.0 in
      let r = and_parts (nat_lt unit u.next) (is_of_if_live u unit of) q.0 in
      or_right_and (unit == 0) (nat_lt unit u.next) (option_map_or (λ c. descends s c class) (class_of u unit) true) r.0
      (still_of class of (class_of u unit) r.1 (named class unit of change list all is))
  event_was class list events.Quiescence all here is = refl

  -- ---- events of a blackboard that has changed since

  all_four : (a c d f : Bool) → a ≡ true → c ≡ true → d ≡ true → f ≡ true → (a && c && d && f) ≡ true
  all_four a c d f p q r t = rw (p, q, r, t) refl

  still_out : (n next later : ℕ) → next ≤ later → nat_lt n next ≡ true → nat_lt n later ≡ true
  still_out n next later le lt = grind (arith, nat_tests)

  below_by_test : (n next : ℕ) → nat_lt n next ≡ true → n < next
  below_by_test n next lt = grind (arith, nat_tests)

  still_own : (of : ℕ) (before after : Option ℕ) → ((c : ℕ) → after ≡ Some c → before ≡ Some c) → option_map_or (λ c. c == of) before true ≡ true → option_map_or (λ c. c == of) after true ≡ true
  still_own of before None from is = refl
  still_own of before (Some c) from is = sym (ap (λ (o : Option ℕ). option_map_or (λ d. d == of) o true) (from c refl)) ∙ is

  -- an event stays one of it
  pub event_lasts : (c : Blackboard) (e : Event) → Outlives b.world.units c.world.units → IsEventOf s b e → IsEventOf s c e
  event_lasts c events.Quiescence outlives here = refl
  event_lasts c (events.Change unit of change) outlives here =
      let u = b.world.units in
      let v = c.world.units in
      let p = and_parts (nat_lt unit u.next && is_of_if_live u unit of && nat_lt of (length s.classes)) (names_slot_of s change) here in
      let q = and_parts (nat_lt unit u.next && is_of_if_live u unit of) (nat_lt of (length s.classes)) p.0 in
      let r = and_parts (nat_lt unit u.next) (is_of_if_live u unit of) q.0 in
      all_four (nat_lt unit v.next) (is_of_if_live v unit of) (nat_lt of (length s.classes)) (names_slot_of s change)
      (still_out unit u.next v.next outlives.next r.0)
      (still_own of (class_of u unit) (class_of v unit) (λ k. outlives.classes unit k (below_by_test unit u.next r.0)) r.1) q.1 p.1

  -- ---- events that were noted

  pub noted_events : (notes : List BoardNote) (more : List Note) → list_all (is_noted s b.world.units) notes ≡ true → events_in more ≡ [] → All (IsEventOf s b) (events_in (map Board notes ++ more))
  noted_events [] more all none = subst (All (IsEventOf s b)) (sym none) (All-nil (IsEventOf s b))
  noted_events (happened e ∷ notes) more all none =
      let p = and_parts (is_event_of s b.world.units e) (list_all (is_noted s b.world.units) notes) all in
      All-cons (IsEventOf s b) e (events_in (map Board notes ++ more)) p.0 (noted_events notes more p.1 none)
  noted_events (said values ∷ notes) more all none =
      let p = and_parts (is_noted s b.world.units (said values)) (list_all (is_noted s b.world.units) notes) all in
      noted_events notes more p.1 none

-- ---- codes within their limits

reaction_code : (reaction : Option Reaction) (c : Checked) → option_map code_of reaction ≡ Some c → ((r : Reaction) → reaction ≡ Some r → IsQuestion r.code) → IsCode c.code
reaction_code None c is each = absurd cc
reaction_code (Some r) c is each = let same : r.code ≡ c = cc in subst (λ (d : Checked). IsCode d.code) same (each r refl).sound.code

-- each code of a source is
pub code_within : (source : Source) (c : Checked) → HasSoundCodes source → IsPart source c → IsCode c.code
code_within source c sound (inl is) = (sound.act c is).code
code_within source c sound (inr (inl is)) = (sound.require c is).sound.code
code_within source c sound (inr (inr (inl is))) = (sound.revalidate c is).sound.code
code_within source c sound (inr (inr (inr (inl is)))) = reaction_code source.obviate c is sound.obviate
code_within source c sound (inr (inr (inr (inr is)))) = reaction_code source.retrigger c is sound.retrigger

-- ---- what fits a part

module _ (s : Schema) (b : Blackboard) where
  pub fits_require : (part : Part) (class unit : ℕ) → part ≡ parts.Require class → WasOf s b.world class unit → EntryFits s b.world part (entry_of unit None)
  fits_require part class unit is was = subst (λ p. EntryFits s b.world p (entry_of unit None)) (sym is) ((unit, refl, was), tt)

  pub fits_revalidate : (part : Part) (class unit : ℕ) → part ≡ parts.Revalidate class → WasOf s b.world class unit → EntryFits s b.world part (entry_of unit None)
  fits_revalidate part class unit is was = subst (λ p. EntryFits s b.world p (entry_of unit None)) (sym is) ((unit, refl, was), tt)

  pub fits_do : (part : Part) (class unit : ℕ) → part ≡ parts.Do class → WasOf s b.world class unit → EntryFits s b.world part (entry_of unit None)
  fits_do part class unit is was = subst (λ p. EntryFits s b.world p (entry_of unit None)) (sym is) ((unit, refl, was), tt)

  pub fits_obviate : (part : Part) (class of unit event : ℕ) → part ≡ parts.Obviate class of → WasOf s b.world class unit → WasOf s b.world of event → EntryFits s b.world part (entry_of unit (Some event))
  fits_obviate part class of unit event is was other = subst (λ p. EntryFits s b.world p (entry_of unit (Some event))) (sym is) ((unit, refl, was), ((event, refl, other), tt))

  pub fits_retrigger : (part : Part) (class of unit event : ℕ) → part ≡ parts.Retrigger class of → WasOf s b.world class unit → WasOf s b.world of event → EntryFits s b.world part (entry_of unit (Some event))
  fits_retrigger part class of unit event is was other = subst (λ p. EntryFits s b.world p (entry_of unit (Some event))) (sym is) ((unit, refl, was), ((event, refl, other), tt))

  -- an accepted code, executed for an entry that fits its part
  pub begins_with : (c : Checked) (entry : Entry) → b.schema ≡ s → IsCode c.code → IsAccepted s c → EntryFits s b.world c.part entry → Begins c.part c.frames c.code entry b
  begins_with c entry same is accepted fit = record {
    accepted = subst (λ (x : Schema). Facts x c.part c.code c.frames) (sym same) (checked_facts s c.part c.code c accepted is.ops.some);
    units = subst (λ (x : Schema). EntryFits x b.world c.part entry) (sym same) fit;
  }
