-- Each op of an accepted code is safe at a state that suits the frame of its place.
use Rattle.std.proofs.Common.{◌≡◌, ℕ, ◌≤◌, true, length, Option, Ok, arith}
use Rattle.std.specs.Prelude.{nat_le, All}
use Rattle.std.proofs.lemmas.Bool.Decides.{nat_tests}
use Rattle.bb_basis.proofs.AppendLemmas.{there_is}
use Rattle.bb_schema_classes.specs.declared.value.TheConstants.{TEXT_LIMIT}
use Rattle.bb_schema_classes.proofs.Laws.{All-at}
use Rattle.bb_schema.specs.Fits as schemas
use Rattle.bb_board.specs.Board.{Board}
use Rattle.bb_board.specs.Fits.{Fits}
use Rattle.bb_code.specs.Code.{Code, IsCode, IsOp, IsText}
use Rattle.bb_code.specs.declared.parts.TheConstants.{TEXT_BYTES_LIMIT}
use Rattle.bb_code.specs.declared.op.Op.{Op}
use Rattle.bb_code.specs.declared.op.Op.TheVariants as ops
use Rattle.bb_verify.specs.FrameType.{Frame}
use Rattle.bb_verify.specs.PartType.{Part}
use Rattle.bb_verify.specs.Tables.{in_tables}
use Rattle.bb_machine.specs.Machine.{Machine}
use Rattle.bb_machine.specs.Step.{step}
use Rattle.bb_verify.specs.Facts.{is_known}
use Rattle.bb_theorem_machine.specs.Kinds.{Suits}
use Rattle.bb_theorem_machine.specs.Safe.{edges_of, IsSafe}
use Rattle.bb_theorem_machine.proofs.AheadLemmas.{entry_below, label_there, not_above}
use Rattle.bb_theorem_machine.proofs.plain.PlainSteps.{push_int_safe, push_bool_safe, push_text_safe, push_label_safe, load_safe, store_safe, pop_safe, calculate_safe, divide_safe, compare_safe, eq_text_safe, not_safe, combine_safe, make_interval_safe, bound_safe}
use Rattle.bb_theorem_machine.proofs.jumping.JumpSteps.{jump_safe, back_safe, done_safe, decline_safe, unless_safe, rate_safe, answer_safe, alive_safe}
use Rattle.bb_theorem_machine.proofs.jumping.NextSteps.{next_safe}
use Rattle.bb_theorem_machine.proofs.reading.ReadSteps.{eq_unit_safe, eq_label_safe, size_safe, as_safe}
use Rattle.bb_theorem_machine.proofs.changing.ChangeSteps.{leave_safe}
use Rattle.bb_theorem_machine.proofs.changing.EnterSteps.{enter_safe}
use Rattle.bb_theorem_machine.proofs.reading.SlotSteps.{get_safe, one_safe, links_safe, find_safe}
use Rattle.bb_theorem_machine.proofs.changing.WriteSteps.{delete_safe, new_safe, relink_safe, set_safe, say_safe}

short : (n : ℕ) → n ≤ TEXT_BYTES_LIMIT → nat_le n TEXT_LIMIT ≡ true
short n le = grind (arith, nat_tests)

module _ (part : Part) (code : Code) (b : Board) (sf : schemas.Fits b.schema) (fits : Fits b.schema b.world) (m : Machine) (f : Frame) (suits : Suits b.schema b.world m f) (e : Option Frame × Option Frame) where
  -- an op that is safe at the state
  abbrev Safe : Op → Type 0
  Safe op = edges_of b.schema part code op f ≡ Ok e → IsSafe b.schema m.place op e (step code op (m, b))

  pub step_safe : (op : Op) → IsCode code → IsOp op → length m.locals ≡ code.locals → All (λ k. is_known k ≡ true) f.stack → in_tables b.schema code op ≡ Ok tt → Safe op
  unfolding in_tables
  step_safe (ops.PushInt n) is op locals known there h = push_int_safe part code b fits m f suits e n op h
  step_safe (ops.PushText text) is op locals known there h =
      let words = there_is code.texts text (entry_below (length code.texts) text there) in
      push_text_safe part code b fits m f suits e text words.0 words.1 (short (length words.0) (All-at IsText code.texts text words.0 words.1 is.texts.each).len) h
  step_safe (ops.PushBool truth) is op locals known there h = push_bool_safe part code b fits m f suits e truth h
  step_safe (ops.PushLabel set label) is op locals known there h = push_label_safe part code b fits m f suits e set label (label_there b.schema set label there) h
  step_safe (ops.Load l) is op locals known there h = load_safe part code b fits m f suits e l h
  step_safe (ops.Store l) is op locals known there h = store_safe part code b fits m f suits e l (not_above (length m.locals) code.locals l locals (entry_below code.locals l there)) h
  step_safe ops.Pop is op locals known there h = pop_safe part code b fits m f suits e h
  step_safe (ops.Calculate c) is op locals known there h = calculate_safe part code b fits m f suits e c h
  step_safe (ops.Divide d n) is op locals known there h = divide_safe part code b fits m f suits e d n op h
  step_safe (ops.Compare c) is op locals known there h = compare_safe part code b fits m f suits e c h
  step_safe ops.EqText is op locals known there h = eq_text_safe part code b fits m f suits e h
  step_safe ops.EqLabel is op locals known there h = eq_label_safe part code b fits m f suits e h
  step_safe ops.EqUnit is op locals known there h = eq_unit_safe part code b fits m f suits e h
  step_safe ops.Not is op locals known there h = not_safe part code b fits m f suits e h
  step_safe (ops.Combine l) is op locals known there h = combine_safe part code b fits m f suits e l h
  step_safe ops.MakeInterval is op locals known there h = make_interval_safe part code b fits m f suits e h
  step_safe (ops.BoundOf end) is op locals known there h = bound_safe part code b fits m f suits e end h
  step_safe (ops.Get slot) is op locals known there h = get_safe part code b sf fits m f suits e slot h
  step_safe (ops.One slot place) is op locals known there h = one_safe part code b sf fits m f suits e slot place h
  step_safe (ops.Links slot) is op locals known there h = links_safe part code b sf fits m f suits e slot h
  step_safe (ops.Find query) is op locals known there h = find_safe part code b sf fits m f suits e query h
  step_safe ops.Size is op locals known there h = size_safe part code b fits m f suits e h
  step_safe (ops.Alive place) is op locals known there h = alive_safe part code b fits m f suits e place h
  step_safe (ops.As class place) is op locals known there h =
      let kept = there_is b.schema.classes class (entry_below (length b.schema.classes) class there) in
      as_safe part code b fits m f suits e class place kept.0 kept.1 h
  step_safe (ops.New class) is op locals known there h =
      let kept = there_is b.schema.classes class (entry_below (length b.schema.classes) class there) in
      new_safe part code b sf fits m f suits e class kept.0 kept.1 h
  step_safe (ops.Set slot) is op locals known there h = set_safe part code b sf fits m f suits e slot h
  step_safe (ops.Relink change slot) is op locals known there h = relink_safe part code b sf fits m f suits e change slot h
  step_safe (ops.Enter space) is op locals known there h = enter_safe part code b sf fits m f suits e space h
  step_safe (ops.Leave space) is op locals known there h = leave_safe part code b fits m f suits e space h
  step_safe ops.Delete is op locals known there h = delete_safe part code b sf fits m f suits e h
  step_safe (ops.Say count) is op locals known there h = say_safe part code b sf fits m f suits e count known h
  step_safe (ops.Jump place) is op locals known there h = jump_safe part code b fits m f suits e place h
  step_safe (ops.Unless place) is op locals known there h = unless_safe part code b fits m f suits e place h
  step_safe (ops.Next l place) is op locals known there h = next_safe part code b fits m f suits e l place h
  step_safe (ops.Back place) is op locals known there h = back_safe part code b fits m f suits e place h
  step_safe ops.Done is op locals known there h = done_safe part code b fits m f suits e h
  step_safe ops.Rate is op locals known there h = rate_safe part code b fits m f suits e h
  step_safe ops.Decline is op locals known there h = decline_safe part code b fits m f suits e h
  step_safe ops.Answer is op locals known there h = answer_safe part code b fits m f suits e h
