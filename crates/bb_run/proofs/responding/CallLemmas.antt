-- Asks are applied one after another, and what there is to emit of them and of the call of a native.
use Rattle.std.proofs.Common.{◌≡◌, ℕ, ◌+◌, List, [], ◌∷◌, ◌++◌, length, Option, None, Some, refl, subst, sym, ap, ◌∙◌}
use Rattle.bb_agenda.specs.declared.focusing.activation.Activation.{Activation}
use Rattle.bb_trace.specs.Ask.{Ask}
use Rattle.bb_trace.specs.Applied.{applied}
use Rattle.bb_trace.specs.Native.{Native}
use Rattle.bb_trace.specs.Roster.{after_act_at, asks_at}
use Rattle.bb_trace.specs.Sight.{sight_of}
use Rattle.bb_trace.specs.End.{End}
use Rattle.bb_trace.specs.declared.note.Note.{Note}
use Rattle.bb_trace.specs.declared.note.Note.TheVariants.{NativeEnded}
use Rattle.bb_run.specs.State.{State, with_natives}
use Rattle.bb_run.specs.Emission.{Response, and_then, idle, emitting}
use Rattle.bb_run.specs.Run.{asked, calling, each_applied, upon_ask}
use Rattle.bb_run.specs.Emitting.{IsResponse}
use Rattle.bb_run.proofs.responding.ResponseLemmas.{HasNoted, nothing_noted, nothing_emitted, part_made, part_over, rest_made}

-- ---- asks, one after another

-- nothing was noted yet of what comes of them
pub asks_begin : (old : List Note) (s : State) (all items : List Ask) → items ≡ all → HasNoted old old (each_applied 1 all s) (each_applied (0 + 1) items s)
asks_begin old s all items is = subst (λ xs. HasNoted old old (each_applied 1 all s) (each_applied 1 xs s)) (sym is) (nothing_noted old (each_applied 1 all s))

module _ (old now : List Note) (whole : Response) (number : ℕ) (s : State) where
  at_ask : (items : List Ask) (ask : Ask) (more : List Ask) → items ≡ ask ∷ more → HasNoted old now whole (each_applied number items s)
      → HasNoted old now whole (and_then (upon_ask number (applied ask s.board) s) (each_applied (number + 1) more))
  unfolding each_applied
  at_ask items ask more is h = subst (HasNoted old now whole) (ap (λ xs. each_applied number xs s) is) h

  module _ (items : List Ask) (ask : Ask) (more : List Ask) (new : List Note) (t : State) (o : Option End) (is : items ≡ ask ∷ more)
      (h : HasNoted old now whole (each_applied number items s)) (r : IsResponse (upon_ask number (applied ask s.board) s) now new t o) where
    pub ask_over : (end : End) → o ≡ Some end → IsResponse whole old new t (Some end)
    ask_over end some =
        part_over old now new whole (upon_ask number (applied ask s.board) s) (each_applied (number + 1) more) t end (at_ask items ask more is h) (subst (IsResponse (upon_ask number (applied ask s.board) s) now new t) some r)

    pub ask_made : o ≡ None → HasNoted old new whole (each_applied (number + 1) more t)
    ask_made none =
        part_made old now new whole (upon_ask number (applied ask s.board) s) (each_applied (number + 1) more) t (at_ask items ask more is h) (subst (IsResponse (upon_ask number (applied ask s.board) s) now new t) none r)

  pub asks_done : (items : List Ask) → items ≡ [] → HasNoted old now whole (each_applied number items s) → IsResponse whole old now s None
  unfolding each_applied
  asks_done items is h = rest_made old now now whole (idle s) s None (subst (HasNoted old now whole) (ap (λ xs. each_applied number xs s) is) h) (nothing_emitted now s)

-- ---- all of them, and the note that tells how many

module _ (old mid : List Note) (s t : State) (last : ℕ → Note) (asks : List Ask) (o : Option End) (r : IsResponse (each_applied 1 asks s) old mid t o) where
  abbrev ends : State → Response
  ends u = emitting (last (length asks) ∷ []) u None

  pub asked_over : (end : End) → o ≡ Some end → IsResponse (asked last asks s) old mid t (Some end)
  asked_over end some = part_over old old mid (asked last asks s) (each_applied 1 asks s) ends t end (nothing_noted old (asked last asks s)) (subst (IsResponse (each_applied 1 asks s) old mid t) some r)

  pub asked_made : (new : List Note) (count : ℕ) → o ≡ None → count ≡ length asks → new ≡ mid ++ last count ∷ [] → IsResponse (asked last asks s) old new t None
  asked_made new count none counted is =
      let here = part_made old old mid (asked last asks s) (each_applied 1 asks s) ends t (nothing_noted old (asked last asks s)) (subst (IsResponse (each_applied 1 asks s) old mid t) none r) in
      rest_made old mid new (asked last asks s) (ends t) t None here
      (record { notes = is ∙ ap (λ n. mid ++ last n ∷ []) counted; state = refl; end = refl })

-- ---- a call

-- what is emitted of a call is what is emitted of its asks, with the natives after it
pub called_as : (old new : List Note) (s t : State) (place : ℕ) (a : Activation) (asks : List Ask) (natives : List Native) (o : Option End)
    → asks ≡ asks_at s.natives place a.unit (sight_of s.board) → natives ≡ after_act_at s.natives place a.unit (sight_of s.board)
    → IsResponse (asked (λ n. NativeEnded n) asks (with_natives s natives)) old new t o → IsResponse (calling (Some place) a s) old new t o
called_as old new s t place a asks natives o asked_is left r =
    let by : List Ask → List Native → Response = λ xs ns. asked (λ n. NativeEnded n) xs (with_natives s ns) in
    subst (λ q. IsResponse q old new t o) (ap (λ xs. by xs natives) asked_is ∙ ap (by (asks_at s.natives place a.unit (sight_of s.board))) left) r
