-- A turn after which a native is due, and the answer for it, come to the turn in which a native inside asks the same.
use Rattle.std.proofs.Common.{◌≡◌, ℕ, ◌+◌, List, [], ◌∷◌, ◌++◌, Option, Some, None, refl, sym, ap, subst, ◌∙◌}
use Rattle.std.proofs.lemmas.List.{append-nil}
use Rattle.std.specs.Prelude.{slice_get}
use Rattle.bb_run.specs.Activation.{Activation}
use Rattle.bb_run.specs.Ask.{Ask}
use Rattle.bb_run.specs.End.{End}
use Rattle.bb_run.specs.End as ends
use Rattle.bb_run.specs.Native.{Native}
use Rattle.bb_run.specs.Order.{all_of, notes_of}
use Rattle.bb_run.specs.Plan.{Plan}
use Rattle.bb_run.specs.Roster.{place_of}
use Rattle.bb_run.specs.Run.{choice, cycle}
use Rattle.bb_run.specs.Source.{Source}
use Rattle.bb_run.specs.State.{State, with_natives}
use Rattle.bb_run.specs.Turns.{answering, turn_by}
use Rattle.bb_run.proofs.Laws as runs
use Rattle.bb_run.proofs.Laws.{ComesTo, all_of_two, cycle_outside}
use Rattle.bb_run_held.specs.Moves.{Moved, Standing, after, answer, made_by, moved, moved_in, one_turn, pause_by, played}
use Rattle.bb_run_held.specs.Outside.{AsksInside, ComesToSame, with_inside}
use Rattle.bb_run_held.specs.declared.pause.Pause.TheVariants.{Going, Due}

-- how the turn ended
due_end : (a : Activation) (end : Option End) → pause_by end ≡ Due a → end ≡ Some (ends.Due a)
due_end a None is = absurd cc
due_end a (Some ends.Limit) is = absurd cc
due_end a (Some ends.Quiescence) is = absurd cc
due_end a (Some ends.Full) is = absurd cc
due_end a (Some (ends.Due b)) is = let same : b ≡ a = cc in ap (λ x. Some (ends.Due x)) same
due_end a (Some (ends.Stuck reason)) is = absurd cc

module _ (plan : Plan) (natives : List Native) (asks : List Ask) (a : Activation) where
  -- a move, and then what answers
  abbrev then_this : Moved → Moved → Moved
  then_this p q = record { emitted = p.emitted ++ (q.emitted ++ []); standing = q.standing }

  abbrev then_answer : Moved → Moved
  then_answer p = then_this p (moved plan (answer asks) p.standing)

  answered : (t : Standing) → t.pause ≡ Due a → moved plan (answer asks) t ≡ after t.made (answering plan asks t.state)
  answered t is = ap (λ x. moved_in plan x (answer asks) t) is

  inside_of : (s : State) → AsksInside plan natives asks a s → (x : Source) → slice_get plan.sources a.source ≡ Some x → runs.AsksInside plan natives asks x a s
  inside_of s inside x is =
      let both : Some inside.source ≡ Some x = sym inside.source_is ∙ is in
      let one : inside.source ≡ x = cc in
      record { place = inside.place; there = subst (λ (y : Source). place_of natives y.name ≡ Some inside.place) one inside.there; same = inside.same }

  -- of a cycle
  cycle_same : (made : ℕ) (s : State) → let p = after (made + 1) (cycle plan (made + 1) a s) in p.standing.pause ≡ Due a → AsksInside plan natives asks a p.standing.state
      → ComesToSame (then_answer p) (after (made + 1) (cycle plan (made + 1) a (with_natives s natives)))
  cycle_same made s due inside =
      let c = cycle plan (made + 1) a s in
      let w = cycle plan (made + 1) a (with_natives s natives) in
      let r = answering plan asks c.state in
      let p = after (made + 1) c in
      let comes : ComesTo plan natives asks c w = cycle_outside plan natives asks (made + 1) a a s (due_end a c.end due) (inside_of c.state inside) in
      subst (λ q. ComesToSame (then_this p q) (after (made + 1) w)) (sym (answered p.standing due)) (record {
        notes = all_of_two c.emitted (r.emitted ++ []) ∙ (ap (λ l. notes_of c ++ all_of l) (append-nil r.emitted) ∙ comes.notes);
        board = ap (λ (u : State). u.board) comes.state;
        agenda = ap (λ (u : State). u.agenda) comes.state;
        made = refl;
        pause = ap pause_by comes.end;
      })

  -- of a turn, by what can be chosen
  abbrev turned : (made : ℕ) → State → Option Activation → Moved
  turned made s c = after (made_by made c) (turn_by plan made s c)

  abbrev Same : (made : ℕ) → State → Option Activation → Type 0
  Same made s c =
      (turned made s c).standing.pause ≡ Due a → AsksInside plan natives asks a (turned made s c).standing.state
      → ComesToSame (then_answer (turned made s c)) (turned made (with_natives s natives) c)

  turn_same : (made : ℕ) (s : State) → choice plan s ≡ Some a → Same made s (choice plan s)
  turn_same made s is = subst (Same made s) (sym is) (cycle_same made s)

  -- by how the run stands
  abbrev Comes : Standing → Type 0
  Comes t =
      (moved plan one_turn t).standing.pause ≡ Due a → AsksInside plan natives asks a (moved plan one_turn t).standing.state
      → ComesToSame (then_answer (moved plan one_turn t)) (moved plan one_turn (with_inside natives t))

  pub turn_outside : (t : Standing) → t.pause ≡ Going → choice plan t.state ≡ Some a → (moved plan one_turn t).standing.pause ≡ Due a
      → AsksInside plan natives asks a (moved plan one_turn t).standing.state → ComesToSame (played plan (one_turn ∷ answer asks ∷ []) t) (moved plan one_turn (with_inside natives t))
  unfolding played
  turn_outside t goes chosen = subst (λ x. Comes (record t { pause = x })) (sym goes) (turn_same t.made t.state chosen)
