-- The index of clauses has what the clauses name.
use Rattle.std.proofs.Common.{◌≡◌, ℕ, Bool, true, false, cond, ◌&&◌, ◌||◌, ◌==◌, List, [], ◌∷◌, ◌++◌, refl, sym, ap, ◌∙◌, eqb-true, eq-eqb}
use Rattle.std.specs.List.{list_any}
use Rattle.std.proofs.lemmas.Bool.{and_parts, or_right, and_from}
use Rattle.bb_basis.proofs.ListLemmas.{list_any-last}
use Rattle.bb_basis.proofs.BoolLemmas.{or_false, same_truth}
use Rattle.bb_schema.specs.Schema.{Schema, descends}
use Rattle.bb_board.specs.declared.event.Change.{Change}
use Rattle.bb_board.specs.declared.event.ChangeKind.{ChangeKind}
use Rattle.bb_board.specs.declared.event.Event.{Event}
use Rattle.bb_board.specs.declared.event.Event.TheVariants as events
use Rattle.bb_board.specs.Events.{kind_of}
use Rattle.bb_rules.specs.declared.clause.Clause.{Clause}
use Rattle.bb_rules.specs.declared.clause.Clause.TheVariants as clauses
use Rattle.bb_rules.specs.declared.kind_index.KindIndex.{KindIndex}
use Rattle.bb_rules.specs.KindIndex.{has, ids_for, put_if}
use Rattle.bb_rules.specs.Match.{is_same_kind, matches, any_match}
use Rattle.bb_rules.specs.proving.Index.{IsIndex, names_class, is_about, is_quiescence}

-- ---- one clause more

or_true : (b : Bool) → true ≡ (b || true)
or_true true = refl
or_true false = refl

-- what is there after a number was put
there_at : (ns : List ℕ) (n c : ℕ) (there same : Bool) → has ns n ≡ there → (n == c) ≡ same → has (cond there ns (ns ++ n ∷ [])) c ≡ (has ns c || same)
there_at ns n c false same is is_same = list_any-last (λ d. d == c) ns n ∙ ap (λ b. has ns c || b) is_same
there_at ns n c true false is is_same = sym (or_false (has ns c))
there_at ns n c true true is is_same = ap (has ns) (sym (eqb-true n c is_same)) ∙ (is ∙ or_true (has ns c))

has_put : (ns : List ℕ) (n : ℕ) (added : Bool) (c : ℕ) → has (put_if added ns n) c ≡ (has ns c || (added && n == c))
has_put ns n false c = sym (or_false (has ns c))
has_put ns n true c = there_at ns n c (has ns n) (n == c) refl refl

has_more : (old new : List ℕ) (n : ℕ) (added : Bool) (c : ℕ) → new ≡ put_if added old n → has new c ≡ (has old c || (added && n == c))
has_more old new n added c is = ap (λ ns. has ns c) is ∙ has_put old n added c

pub change_indexed : (list : List Clause) (index new : KindIndex) (quiescence : Bool) (kind : ChangeKind) (class : ℕ)
    → IsIndex list index quiescence
    → ((k : ChangeKind) → ids_for new k ≡ put_if (is_same_kind kind k) (ids_for index k) class)
    → IsIndex (list ++ clauses.Change kind class ∷ []) new quiescence
change_indexed list index new quiescence kind class old added = record {
  kinds = λ k c. has_more (ids_for index k) (ids_for new k) class (is_same_kind kind k) c (added k) ∙ (ap (λ b. b || (is_same_kind kind k && class == c)) (old.kinds k c) ∙ sym (list_any-last (is_about k c) list (clauses.Change kind class)));
  quiet = old.quiet ∙ (sym (or_false (list_any is_quiescence list)) ∙ sym (list_any-last is_quiescence list (clauses.Change kind class)));
}

pub quiescence_indexed : (list : List Clause) (index : KindIndex) (quiescence : Bool) → IsIndex list index quiescence → IsIndex (list ++ clauses.Quiescence ∷ []) index true
quiescence_indexed list index quiescence old = record {
  kinds = λ k c. sym (or_false (names_class index k c)) ∙ (ap (λ b. b || false) (old.kinds k c) ∙ sym (list_any-last (is_about k c) list clauses.Quiescence));
  quiet = or_true (list_any is_quiescence list) ∙ sym (list_any-last is_quiescence list clauses.Quiescence);
}

-- ---- a clause names an event exactly where the index says so

-- what is in the list and passes settles the answer
found_at : (p : ℕ → Bool) (d n : ℕ) (rest : List ℕ) (t : Bool) → (n == d) ≡ t → p d ≡ true → (has rest d ≡ true → list_any p rest ≡ true) → (t || has rest d) ≡ true → (p n || list_any p rest) ≡ true
found_at p d n rest true is passes further h = ap (λ b. b || list_any p rest) (ap p (eqb-true n d is) ∙ passes)
found_at p d n rest false is passes further h = or_right (p n) (list_any p rest) (further h)

passes_in : (p : ℕ → Bool) (d : ℕ) (ns : List ℕ) → p d ≡ true → has ns d ≡ true → list_any p ns ≡ true
passes_in p d [] passes h = absurd cc
passes_in p d (n ∷ rest) passes h = found_at p d n rest (n == d) refl passes (passes_in p d rest passes) h

-- what settles the answer is in the list and passes
settled_at : (p : ℕ → Bool) (n : ℕ) (rest : List ℕ) (t : Bool) → p n ≡ t → (list_any p rest ≡ true → (d : ℕ) × (has rest d ≡ true) × (p d ≡ true)) → (t || list_any p rest) ≡ true → (d : ℕ) × (has (n ∷ rest) d ≡ true) × (p d ≡ true)
settled_at p n rest true is further h = (n, ap (λ b. b || has rest n) (eq-eqb n n refl), is)
settled_at p n rest false is further h = let one = further h in (one.0, or_right (n == one.0) (has rest one.0) one.1, one.2)

settled : (p : ℕ → Bool) (ns : List ℕ) → list_any p ns ≡ true → (d : ℕ) × (has ns d ≡ true) × (p d ≡ true)
settled p [] h = absurd cc
settled p (n ∷ rest) h = settled_at p n rest (p n) refl (settled p rest) h

module _ (s : Schema) (unit of : ℕ) (change : Change) where
  abbrev event : Event
  event = events.Change unit of change

  abbrev kind : ChangeKind
  kind = kind_of change

  -- a clause about the kind and a class from which the unit's class descends names the event
  about_names : (c : ℕ) (clause : Clause) → descends s of c ≡ true → is_about kind c clause ≡ true → matches s clause event ≡ true
  about_names c (clauses.Change k class) under h =
      let parts = and_parts (is_same_kind k kind) (class == c) h in
      and_from (is_same_kind k kind) (descends s of class) parts.0 (ap (descends s of) (eqb-true class c parts.1) ∙ under)
  about_names c clauses.Quiescence under h = absurd cc

  -- a clause that names the event is about the kind and such a class
  names_about : (clause : Clause) → matches s clause event ≡ true → (c : ℕ) × (is_about kind c clause ≡ true) × (descends s of c ≡ true)
  names_about (clauses.Change k class) h =
      let parts = and_parts (is_same_kind k kind) (descends s of class) h in
      (class, and_from (is_same_kind k kind) (class == class) parts.0 (eq-eqb class class refl), parts.1)
  names_about clauses.Quiescence h = absurd cc

  names_at : (c : ℕ) (clause : Clause) (rest : List Clause) (t : Bool) → is_about kind c clause ≡ t → descends s of c ≡ true → (list_any (is_about kind c) rest ≡ true → any_match s rest event ≡ true) → (t || list_any (is_about kind c) rest) ≡ true → any_match s (clause ∷ rest) event ≡ true
  names_at c clause rest true is under further h = ap (λ b. b || any_match s rest event) (about_names c clause under is)
  names_at c clause rest false is under further h = or_right (matches s clause event) (any_match s rest event) (further h)

  names : (c : ℕ) (list : List Clause) → descends s of c ≡ true → list_any (is_about kind c) list ≡ true → any_match s list event ≡ true
  names c [] under h = absurd cc
  names c (clause ∷ rest) under h = names_at c clause rest (is_about kind c clause) refl under (names c rest under) h

  about_at : (clause : Clause) (rest : List Clause) (t : Bool) → matches s clause event ≡ t → (any_match s rest event ≡ true → (c : ℕ) × (list_any (is_about kind c) rest ≡ true) × (descends s of c ≡ true)) → (t || any_match s rest event) ≡ true → (c : ℕ) × (list_any (is_about kind c) (clause ∷ rest) ≡ true) × (descends s of c ≡ true)
  about_at clause rest true is further h = let one = names_about clause is in (one.0, ap (λ b. b || list_any (is_about kind one.0) rest) one.1, one.2)
  about_at clause rest false is further h = let one = further h in (one.0, or_right (is_about kind one.0 clause) (list_any (is_about kind one.0) rest) one.1, one.2)

  about : (list : List Clause) → any_match s list event ≡ true → (c : ℕ) × (list_any (is_about kind c) list ≡ true) × (descends s of c ≡ true)
  about [] h = absurd cc
  about (clause ∷ rest) h = about_at clause rest (matches s clause event) refl (about rest) h

  pub change_named : (list : List Clause) (index : KindIndex) (quiescence : Bool) → IsIndex list index quiescence → list_any (λ d. descends s of d) (ids_for index kind) ≡ any_match s list event
  change_named list index quiescence i =
      same_truth (list_any (λ d. descends s of d) (ids_for index kind)) (any_match s list event)
      (λ h. let one = settled (λ d. descends s of d) (ids_for index kind) h in names one.0 list one.2 (sym (i.kinds kind one.0) ∙ one.1))
      (λ h. let one = about list h in passes_in (λ d. descends s of d) one.0 (ids_for index kind) one.2 (i.kinds kind one.0 ∙ one.1))
