-- An accepted code comes to an answer of its part.
use Rattle.std.proofs.Common.{◌≡◌, ℕ, ℤ, zero, suc, ◌+◌, true, List, Option, Some, Result, Ok, Err, refl, sym, subst}
use Rattle.std.specs.Prelude.{slice_get}
use Rattle.bb_basis.proofs.AppendLemmas.{there_is}
use Rattle.bb_schema.specs.Schema.{Schema}
use Rattle.bb_schema.specs.Fits as schemas
use Rattle.bb_board.specs.Board.{Board}
use Rattle.bb_code.specs.Code.{Code, IsCode}
use Rattle.bb_code.specs.declared.op.Op.{Op}
use Rattle.bb_code.specs.declared.op.Op.TheVariants as ops
use Rattle.bb_verify.specs.FrameType.{Frame}
use Rattle.bb_verify.specs.PartType.{Part}
use Rattle.bb_verify.specs.PartType.TheVariants.{Require, Obviate, Retrigger, Revalidate, Do}
use Rattle.bb_verify.specs.Part.{ends_done, ends_rated, ends_answered}
use Rattle.bb_verify.specs.Effect as effects
use Rattle.bb_verify.specs.Effect.{effect}
use Rattle.bb_verify.specs.Facts.{Facts}
use Rattle.bb_verify.proofs.Laws.{edges_ok, done_ok, decline_ok, rate_ok, answer_ok}
use Rattle.bb_machine.specs.declared.outcome.Answer.{Answer}
use Rattle.bb_machine.specs.declared.outcome.Answer.TheVariants.{Done, Rated, Declined, Yes, No}
use Rattle.bb_machine.specs.declared.halt.Halt.{Halt}
use Rattle.bb_machine.specs.declared.halt.Halt.TheVariants.{Answered, Full, Stuck, Memory}
use Rattle.bb_machine.specs.Machine.{Machine, go_to}
use Rattle.bb_machine.specs.Changing.{State}
use Rattle.bb_machine.specs.Step.{step}
use Rattle.bb_machine.specs.Activation.{Execution, steps_from}
use Rattle.bb_machine.proofs.Laws.{after_op, by_op}
use Rattle.bb_theorem_machine.specs.NeverWrong.{Stands, is_answer_of, AnswersAs}
use Rattle.bb_theorem_machine.specs.Safe.{edges_of, can_answer}
use Rattle.bb_theorem_machine.proofs.RunLemmas.{inside}
use Rattle.bb_theorem_machine.proofs.StandLemmas.{Advances, step_advances}

-- ---- the answers of a part that may end so

done_of : (part : Part) → ends_done part ≡ Ok tt → is_answer_of part Done ≡ true
done_of (Do class) h = refl
done_of _ h = absurd cc

rated_of : (part : Part) (n : ℤ) → ends_rated part ≡ Ok tt → is_answer_of part (Rated n) ≡ true
rated_of (Require class) n h = refl
rated_of (Retrigger class of) n h = refl
rated_of _ n h = absurd cc

declined_of : (part : Part) → ends_rated part ≡ Ok tt → is_answer_of part Declined ≡ true
declined_of (Require class) h = refl
declined_of (Retrigger class of) h = refl
declined_of _ h = absurd cc

yes_of : (part : Part) → ends_answered part ≡ Ok tt → is_answer_of part Yes ≡ true
yes_of (Obviate class of) h = refl
yes_of (Revalidate class) h = refl
yes_of _ h = absurd cc

no_of : (part : Part) → ends_answered part ≡ Ok tt → is_answer_of part No ≡ true
no_of (Obviate class of) h = refl
no_of (Revalidate class) h = refl
no_of _ h = absurd cc

-- ---- an op that ends an execution

module _ (s : Schema) (part : Part) (code : Code) (f : Frame) (e : Option Frame × Option Frame) where
  -- an op of an accepted code gives answers of the part alone
  ends_as : (op : Op) (a : Answer) → edges_of s part code op f ≡ Ok e → can_answer op a ≡ true → is_answer_of part a ≡ true
  unfolding effect
  ends_as ops.Done Done h can = let x = edges_ok (effects.done part) e h in done_of part (done_ok part x.0 x.1).0
  ends_as ops.Rate (Rated n) h can = let x = edges_ok (effects.rate part f) e h in rated_of part n (rate_ok part f x.0 x.1).may
  ends_as ops.Decline Declined h can = let x = edges_ok (effects.decline part) e h in declined_of part (decline_ok part x.0 x.1).0
  ends_as ops.Answer Yes h can = let x = edges_ok (effects.answer part f) e h in yes_of part (answer_ok part f x.0 x.1).may
  ends_as ops.Answer No h can = let x = edges_ok (effects.answer part f) e h in no_of part (answer_ok part f x.0 x.1).may
  ends_as _ _ h can = absurd cc

-- ---- an execution

module _ (s : Schema) (part : Part) (code : Code) (fs : List Frame) (is : IsCode code) (sf : schemas.Fits s) (facts : Facts s part code fs) where
  ends_at : (place : ℕ) (op : Op) (f : Frame) (a : Answer) → slice_get code.ops place ≡ Some op → slice_get fs place ≡ Some f → can_answer op a ≡ true → is_answer_of part a ≡ true
  ends_at place op f a at there can = let leaves = facts.leaves place op f at there in ends_as s part code f leaves.edges op a leaves.are can

  answers_by : (n steps : ℕ) (m : Machine) (b : Board) (op : Op) (f : Frame) (r : Result State Halt) → slice_get code.ops m.place ≡ Some op → slice_get fs m.place ≡ Some f
      → ((next : State) → Stands s code fs next → AnswersAs part (steps_from n (steps + 1) code next).0)
      → Advances s code fs m.place op r → AnswersAs part (after_op n steps code m b r).0
  answers_by n steps m b op f (Ok next) at there later adv = later next adv.0
  answers_by n steps m b op f (Err (Answered a)) at there later adv = ends_at m.place op f a at there adv
  answers_by n steps m b op f (Err Full) at there later adv = tt
  answers_by n steps m b op f (Err (Stuck reason)) at there later adv = tt
  answers_by n steps m b op f (Err Memory) at there later adv = tt

  no_steps_answer : (steps : ℕ) (m : Machine) (b : Board) → AnswersAs part (steps_from zero steps code (m, b)).0
  unfolding steps_from
  no_steps_answer steps m b = tt

  pub answers_from : (n steps : ℕ) (m : Machine) (b : Board) → Stands s code fs (m, b) → AnswersAs part (steps_from n steps code (m, b)).0
  answers_from zero steps m b stands = no_steps_answer steps m b
  answers_from (suc n) steps m b stands =
      let op = there_is code.ops m.place (inside s part code fs is sf facts m b stands) in
      subst (λ (e : Execution). AnswersAs part e.0) (sym (by_op n steps code m b (Some op.0) (sym op.1)))
      (answers_by n steps m b op.0 stands.frame (step code op.0 (go_to (m.place + 1) m, b)) op.1 stands.there (λ next there. answers_from n (steps + 1) next.0 next.1 there)
      (step_advances part code fs is s m b op.0 sf facts stands op.1))
