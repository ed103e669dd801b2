-- What the crates above use of what the compiler lays out, and that its code is accepted.
pub use Rattle.bb_theorem_accepted.proofs.buffers.BufferLemmas.{Clean, passed, not_failed, never_noted, is_due, is_known, with_op, put_ok, put_clean, put_value_ok, Grown, grown_none, grown_op, grown_on, count_of, is_open, Has, has_before, seam, op_at, count_op, front}
pub use Rattle.bb_theorem_accepted.proofs.kinds.UnderLemmas.{descends_on, under_class}
pub use Rattle.bb_theorem_accepted.proofs.kinds.KnowLemmas.{Finds, kept_unit}
pub use Rattle.bb_theorem_accepted.proofs.buffers.PutLemmas.{pair_ok, triple_ok, clean_before, IsPut, pushed_ok, IsLoaded, variable_ok, IsUnit, unit_ok, one_due_ok, two_due_ok}
pub use Rattle.bb_theorem_accepted.proofs.kinds.HeldLemmas.{find_sound, named_slot}
pub use Rattle.bb_theorem_accepted.proofs.straight.ExprLemmas.{class_there}
pub use Rattle.bb_theorem_accepted.proofs.straight.StoreLemmas.{declared_on, declare_is}
pub use Rattle.bb_theorem_accepted.proofs.whole.TextLemmas.{PartLaid, part_laid, text_accepted}
pub use Rattle.bb_theorem_accepted.proofs.blocks.BeforeLemmas.{InEither, InOther}
unfoldable pub use Rattle.bb_theorem_accepted.proofs.blocks.BeforeLemmas.{InBlock, InStatement}
pub use Rattle.bb_theorem_accepted.proofs.blocks.BranchLemmas.{TestLaid, AbsentLaid, ElseEnded, ElseOn, if_laid, with_laid}
pub use Rattle.bb_theorem_accepted.proofs.blocks.GuardLemmas.{Guard, Branches, branches_absent, branches_else}
pub use Rattle.bb_theorem_accepted.proofs.blocks.GuardLemmas.{Puts, exits_of, tested_puts, puts_one, head_scope}
unfoldable pub use Rattle.bb_theorem_accepted.proofs.blocks.GuardLemmas.{test_guard, named_guard, head_guard, if_branches, with_branches}
pub use Rattle.bb_theorem_accepted.proofs.blocks.HeadLemmas.{OfClass, IsAlive, IsBoth, Tested, AsLaid, LinkLaid, HeadLaid, binding_laid}
pub use Rattle.bb_theorem_accepted.proofs.blocks.AimLemmas.{AreAimed, same_more, more_after, block_count, aims_grown, aims_count, aims_has, aims_there, aimed_behind, aimed_before, jump_count, open_is, closed_is, end_count, open_has, jump_there}
pub use Rattle.bb_theorem_accepted.proofs.blocks.BlockLemmas.{stated}
pub use Rattle.bb_theorem_accepted.proofs.blocks.TextLays.{block_clean, statement_clean, block_now, block_grown}
pub use Rattle.bb_theorem_accepted.proofs.blocks.LoopLaid.{SequenceLaid, ForLaid, for_laid}
pub use Rattle.bb_theorem_accepted.proofs.nests.LoopRuns.{LoopRuns, loop_runs, loop_grown, loop_clean, inner_clean, loop_has, LoopKeeps, loop_keeps}
pub use Rattle.bb_theorem_accepted.proofs.kinds.MoveLemmas.{Apart, Sole}
pub use Rattle.bb_theorem_accepted.proofs.nests.NestLemmas.{Inside}
pub use Rattle.bb_theorem_accepted.proofs.nests.LooplessLemmas.{loopless_depth}
