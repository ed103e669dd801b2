-- Where quiescence is cut short, a rest is; and what was emitted of a part of a run is written.
use Rattle.std.proofs.Common.{◌≡◌, ℕ, List, [], Option, Ok, Err, refl, subst, take}
use Rattle.std.specs.Io.KnownBytes.{Appends}
use Rattle.bb_trace.specs.Page.{Flushes}
use Rattle.bb_trace.specs.declared.halt.Halt.{Halt}
use Rattle.bb_trace.specs.declared.halt.Halt.TheVariants as halts
use Rattle.bb_run_plan.specs.Plan.{Plan}
use Rattle.bb_run.specs.State.{State}
use Rattle.bb_run.specs.Emission.{Stretch, idle}
use Rattle.bb_run.specs.Run.{choice, if_chosen, quiet}
use Rattle.bb_run.specs.Turns.{rested}
use Rattle.bb_run.specs.Emitting.{CutIn, CutsShort, Place, WritesEmitted}
use Rattle.bb_run.proofs.emitting.SegmentLemmas.{all_written, page_cut}
use Rattle.bb_run.proofs.emitting.EmitLemmas.{nothing_emitted, part_cut}
use Rattle.bb_run.proofs.emitting.WholeLemmas.{nothing_written}

-- ---- quiescence

module _ (plan : Plan) (a b : Place) (s t : State) where
  abbrev rest : State → Stretch
  rest u = if_chosen u (choice plan u) (λ x. idle u)

  pub rest_cut : (halt : Halt) → CutIn plan a b (quiet plan s).emitted halt → CutIn plan a b (rested plan s).emitted halt
  rest_cut halt cut = part_cut plan a a b (rested plan s) (quiet plan s) rest halt (nothing_emitted plan a (rested plan s)) cut

-- ---- what was emitted is written

module _ {X : Type 0} (place : Place) (given : Option (List ℕ)) where
  -- all of it
  pub emitted_written : (x : X) → Appends place.taken given place.page → WritesEmitted place given (Ok x) (Ok x)
  emitted_written x more end_of plan start p s made = (all_written plan start given place p.emitted (made.0 start [] (nothing_written plan start [] refl)) more, made.1)

  -- the front of it, where the output fails
  pub emitted_fails : (x : X) (page new : List ℕ) (halt : Halt) → page ≡ place.page → Flushes place.taken given page new (Err halt) → WritesEmitted {X = X} place given (Ok x) (Err halt)
  emitted_fails x page new halts.Memory same flushed = absurd flushed
  emitted_fails x page new halts.Write same flushed = λ end_of plan start p s made.
      page_cut plan start given place p.emitted flushed.0 (made.0 start [] (nothing_written plan start [] refl)) (subst (λ (l : List ℕ). Appends place.taken given (take flushed.0 l)) same flushed.1)

  -- where the run was cut short, as far as it was emitted
  pub cut_written : (halt result : Halt) → CutsShort place given halt result → WritesEmitted {X = X} place given (Err halt) (Err result)
  cut_written halt result cuts end_of plan start p s cut = cuts plan start p.emitted (cut start [] (nothing_written plan start [] refl))
