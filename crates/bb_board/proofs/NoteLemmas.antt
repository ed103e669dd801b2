-- Notes stay those of units that are live, or were.
use Rattle.std.proofs.Common.{◌≡◌, ℕ, ◌<◌, true, List, [], ◌∷◌, ◌++◌, length, Option, Some, None, refl, ◌∙◌, arith, nat_lt}
use Rattle.std.specs.Prelude.{◌&&◌, ◌==◌}
use Rattle.std.specs.List.{list_all}
use Rattle.std.specs.Option.{option_map_or}
use Rattle.std.proofs.lemmas.Bool.{and_parts, and_from}
use Rattle.std.proofs.lemmas.List.Folds.{list_all-append}
use Rattle.bb_basis.proofs.NumberLemmas.{nat_lt_true, nat_lt_below}
use Rattle.bb_schema.specs.Schema.{Schema}
use Rattle.bb_units.specs.Units.{Units, class_of}
use Rattle.bb_board.specs.declared.event.Change.{Change}
use Rattle.bb_board.specs.declared.event.Event.{Event}
use Rattle.bb_board.specs.declared.event.Event.TheVariants as events
use Rattle.bb_board.specs.declared.note.Note.{Note}
use Rattle.bb_board.specs.declared.note.Note.TheVariants as notes
use Rattle.bb_board.specs.Fits.{names_slot_of, is_of_if_live, is_event_of, is_noted}
use Rattle.bb_board.specs.Outlives.{Outlives}

same_class : (class : ℕ) (old new : Option ℕ) → ((c : ℕ) → new ≡ Some c → old ≡ Some c) → option_map_or (λ c. c == class) old true ≡ true → option_map_or (λ c. c == class) new true ≡ true
same_class class old None from is = refl
same_class class old (Some c) from is = rw (from c refl) at is

module _ (s : Schema) (u v : Units) (outlives : Outlives u v) where
  pub still : (n class : ℕ) → nat_lt n u.next ≡ true → is_of_if_live u n class ≡ true → is_of_if_live v n class ≡ true
  still n class lt is = same_class class (class_of u n) (class_of v n) (λ c. outlives.classes n c (nat_lt_true n u.next lt)) is

  event_kept : (e : Event) → is_event_of s u e ≡ true → is_event_of s v e ≡ true
  event_kept (events.Change n class change) is =
      let p = and_parts (nat_lt n u.next && is_of_if_live u n class && nat_lt class (length s.classes)) (names_slot_of s change) is in
      let q = and_parts (nat_lt n u.next && is_of_if_live u n class) (nat_lt class (length s.classes)) p.0 in
      let r = and_parts (nat_lt n u.next) (is_of_if_live u n class) q.0 in
      and_from _ (names_slot_of s change)
      (and_from _ (nat_lt class (length s.classes))
      (and_from (nat_lt n v.next) (is_of_if_live v n class)
      (let lt = nat_lt_true n u.next r.0 in nat_lt_below n v.next (omega (arith, lt, outlives.next))) (still n class r.0 r.1)) q.1) p.1
  event_kept events.Quiescence is = refl

  note_kept : (note : Note) → is_noted s u note ≡ true → is_noted s v note ≡ true
  note_kept (notes.Event e) is = event_kept e is
  note_kept (notes.Said values) is = is

  pub notes_kept : (list : List Note) → list_all (is_noted s u) list ≡ true → list_all (is_noted s v) list ≡ true
  notes_kept [] is = refl
  notes_kept (note ∷ list) is =
      let p = and_parts (is_noted s u note) (list_all (is_noted s u) list) is in
      and_from (is_noted s v note) (list_all (is_noted s v) list) (note_kept note p.0) (notes_kept list p.1)

-- a list of notes with one more
pub noted_more : (s : Schema) (u : Units) (list : List Note) (note : Note) → list_all (is_noted s u) list ≡ true → is_noted s u note ≡ true → list_all (is_noted s u) (list ++ note ∷ []) ≡ true
noted_more s u list note is one =
    list_all-append (is_noted s u) list (note ∷ [])
    ∙ and_from (list_all (is_noted s u) list) (is_noted s u note && true) is (and_from (is_noted s u note) true one refl)

-- an event of a unit that was created
pub event_of : (s : Schema) (u : Units) (n class : ℕ) (change : Change) → n < u.next → is_of_if_live u n class ≡ true → class < length s.classes → names_slot_of s change ≡ true
    → is_event_of s u (events.Change n class change) ≡ true
event_of s u n class change given is there names =
    and_from _ (names_slot_of s change)
    (and_from _ (nat_lt class (length s.classes))
    (and_from (nat_lt n u.next) (is_of_if_live u n class) (nat_lt_below n u.next given) is) (nat_lt_below class (length s.classes) there)) names
