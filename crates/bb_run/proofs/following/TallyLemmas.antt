-- What follows from the phases of a run, and so is no clause of the law: each execution follows its choice.
use Rattle.std.proofs.Common.{◌≡◌, ◌⊎◌, inl, inr, ℕ, ◌+◌, ℤ, List, [], ◌∷◌, ◌++◌, length, refl, sym, ap, subst, ◌∙◌, append_assoc, arith, length-append}
use Rattle.std.specs.Prelude.{⊤}
use Rattle.std.proofs.lemmas.List.{append-nil}
use Rattle.std.proofs.lemmas.List.Sums.{fold-append}
use Rattle.bb_agenda.specs.declared.focusing.activation.Activation.{Activation}
use Rattle.bb_trace.specs.Board.{Board as Blackboard}
use Rattle.bb_trace.specs.BoardNote.{Note as BoardNote}
use Rattle.bb_trace.specs.BoardNote.TheVariants.{Event as happened, Said as said}
use Rattle.bb_trace.specs.Event.TheVariants.{Change as changed, Quiescence as quiescence}
use Rattle.bb_trace.specs.Native.{Native}
use Rattle.bb_trace.specs.declared.note.Note.{Note}
use Rattle.bb_trace.specs.declared.note.Note.TheVariants.{Board, Triggered, Declined, Obviated, Retriggered, Chosen, Invalid, Ended, Refused, NativeEnded, Posted, PostEnded, Finished, Closed}
use Rattle.bb_run_plan.specs.Plan.{Plan}
use Rattle.bb_run.specs.Order.{At, all_of, chosen_in}
use Rattle.bb_run.specs.Phases.{GoesByPhases, Phase, after_in, inside, outside, phase_after, rested}
use Rattle.bb_run.specs.Run.{run}
use Rattle.bb_run.proofs.notes.PendingLemmas.{chosen_then, ends_in, ends_then}

-- so many cycles were begun, and so many are over
abbrev Tallies : Phase → (begun over : ℕ) → Type 0
Tallies outside begun over = over ≡ begun
Tallies rested begun over = over ≡ begun
Tallies inside begun over = over + 1 ≡ begun

-- a note may come in this phase
abbrev MayCome : Phase → Note → Type 0
MayCome phase (Chosen cycle a r) = (phase ≡ outside) ⊎ (phase ≡ rested)
MayCome phase (Invalid number) = phase ≡ inside
MayCome phase (Ended steps found allowed) = phase ≡ inside
MayCome phase (NativeEnded asks) = phase ≡ inside
MayCome phase _ = ⊤

tallies_begin : (phase : Phase) (begun over : ℕ) → (phase ≡ outside) ⊎ (phase ≡ rested) → Tallies phase begun over → over + 0 + 1 ≡ begun + 1
tallies_begin outside begun over may tally = omega (arith, tally)
tallies_begin rested begun over may tally = omega (arith, tally)
tallies_begin inside begun over (inl is) tally = absurd cc
tallies_begin inside begun over (inr is) tally = absurd cc

finishes : (phase : Phase) (begun over : ℕ) → phase ≡ inside → Tallies phase begun over → over + 1 ≡ begun + 0
finishes outside begun over is tally = absurd cc
finishes rested begun over is tally = absurd cc
finishes inside begun over is tally = omega (arith, tally)

tallies_same : (phase : Phase) (begun over : ℕ) → Tallies phase begun over → Tallies phase (begun + 0) (over + 0)
tallies_same outside begun over tally = omega (arith, tally)
tallies_same rested begun over tally = omega (arith, tally)
tallies_same inside begun over tally = omega (arith, tally)

on_board : (phase : Phase) (note : BoardNote) (begun over : ℕ) → Tallies phase begun over → Tallies (after_in phase (Board note)) (begun + 0) (over + 0)
on_board inside note begun over tally = omega (arith, tally)
on_board rested note begun over tally = omega (arith, tally)
on_board outside (happened quiescence) begun over tally = omega (arith, tally)
on_board outside (happened (changed unit class change)) begun over tally = omega (arith, tally)
on_board outside (said values) begun over tally = omega (arith, tally)

-- one note more
tally_next : (phase : Phase) (note : Note) (begun over : ℕ) → MayCome phase note → Tallies phase begun over → Tallies (after_in phase note) (begun + length (chosen_in (note ∷ []))) (over + ends_in (note ∷ []))
tally_next phase (Chosen cycle a r) begun over may tally = tallies_begin phase begun over may tally
tally_next phase (Invalid number) begun over may tally = finishes phase begun over may tally
tally_next phase (Ended steps found allowed) begun over may tally = finishes phase begun over may tally
tally_next phase (NativeEnded asks) begun over may tally = finishes phase begun over may tally
tally_next phase (Board note) begun over may tally = on_board phase note begun over tally
tally_next phase (Triggered a) begun over may tally = tallies_same phase begun over tally
tally_next phase (Declined source unit) begun over may tally = tallies_same phase begun over tally
tally_next phase (Obviated number) begun over may tally = tallies_same phase begun over tally
tally_next phase (Retriggered number base) begun over may tally = tallies_same phase begun over tally
tally_next phase (Refused ask refusal) begun over may tally = tallies_same phase begun over tally
tally_next phase Posted begun over may tally = tallies_same phase begun over tally
tally_next phase (PostEnded asks) begun over may tally = tallies_same phase begun over tally
tally_next phase (Finished end) begun over may tally = tallies_same phase begun over tally
tally_next phase (Closed closing) begun over may tally = tallies_same phase begun over tally

-- what notes say of it
abbrev pub IsTallied : List Note → Type 0
IsTallied past = Tallies (phase_after past) (length (chosen_in past)) (ends_in past)

tally_more : (past : List Note) (note : Note) → MayCome (phase_after past) note → IsTallied past → IsTallied (past ++ note ∷ [])
tally_more past note may tally =
    let one : List Note = note ∷ [] in
    let begun : length (chosen_in (past ++ one)) ≡ length (chosen_in past) + length (chosen_in one) = ap (λ l. length l) (chosen_then past one) ∙ length-append (chosen_in past) (chosen_in one) in
    rw (fold-append after_in outside past one, begun, ends_then past one) (tally_next (phase_after past) note (length (chosen_in past)) (ends_in past) may tally)

-- notes each of which may come in its phase
tally_all : (all past notes left : List Note) → ((before : List Note) (note : Note) → At all before note → MayCome (phase_after before) note) → all ≡ past ++ (notes ++ left) → IsTallied past → IsTallied (past ++ notes)
tally_all all past [] left may is tally = subst IsTallied (sym (append-nil past)) tally
tally_all all past (note ∷ notes) left may is tally =
    subst IsTallied (append_assoc past (note ∷ []) notes)
    (tally_all all (past ++ note ∷ []) notes left may (is ∙ sym (append_assoc past (note ∷ []) (notes ++ left))) (tally_more past note (may past note (notes ++ left, is)) tally))

module _ (plan : Plan) (board : Blackboard) (natives : List Native) (limit : ℕ) (phases : GoesByPhases plan board natives (run plan board natives limit)) where
  -- the notes after the first segment
  abbrev later : List Note
  later = all_of phases.rest

  may_come : (before : List Note) (note : Note) → At later before note → MayCome (phase_after before) note
  may_come before (Chosen cycle a r) at = phases.choices before cycle a r at
  may_come before (Invalid number) at = phases.invalids before number at
  may_come before (Ended steps found allowed) at = phases.ends before steps found allowed at
  may_come before (NativeEnded asks) at = phases.native_ends before asks at
  may_come before (Board note) at = tt
  may_come before (Triggered a) at = tt
  may_come before (Declined source unit) at = tt
  may_come before (Obviated number) at = tt
  may_come before (Retriggered number base) at = tt
  may_come before (Refused ask refusal) at = tt
  may_come before Posted at = tt
  may_come before (PostEnded asks) at = tt
  may_come before (Finished end) at = tt
  may_come before (Closed closing) at = tt

  -- each place of a run has its tally
  tallied : (before : List Note) (note : Note) → At later before note → IsTallied before
  tallied before note at = tally_all later [] before (note ∷ at.0) may_come at.1 refl

  -- at a choice each cycle before is over
  pub choices_in_turn : (before : List Note) (cycle : ℕ) (a : Activation) (r : ℤ) → At later before (Chosen cycle a r) → ends_in before ≡ length (chosen_in before)
  choices_in_turn before cycle a r at = by_phase (phase_after before) (phases.choices before cycle a r at) (tallied before (Chosen cycle a r) at)
    where
      by_phase : (phase : Phase) → (phase ≡ outside) ⊎ (phase ≡ rested) → Tallies phase (length (chosen_in before)) (ends_in before) → ends_in before ≡ length (chosen_in before)
      by_phase outside may tally = tally
      by_phase rested may tally = tally
      by_phase inside (inl is) tally = absurd cc
      by_phase inside (inr is) tally = absurd cc

  -- in a cycle one choice more was made than cycles are over: where an execution ends, or an activation is invalid, or
  -- an ask is refused
  pub open_in_turn : (before : List Note) (note : Note) → At later before note → phase_after before ≡ inside → ends_in before + 1 ≡ length (chosen_in before)
  open_in_turn before note at here = subst (λ phase. Tallies phase (length (chosen_in before)) (ends_in before)) here (tallied before note at)
