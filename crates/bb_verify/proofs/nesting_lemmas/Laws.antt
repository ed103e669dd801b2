-- Lemmas for the crates above.
pub use Rattle.bb_verify.proofs.nesting_lemmas.LoopLemmas.{loop_passed, few_around}
pub use Rattle.bb_verify.proofs.nesting_lemmas.LoopInversion.{check_order_ok, never_ok, before_ok, ahead_ok, nests_ok, LoopDue, loop_due_ok, PlaceDue, place_due_ok}
