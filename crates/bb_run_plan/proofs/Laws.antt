-- The lemma on folds over numbers that crates above use.
pub use Rattle.bb_run_plan.proofs.FociLemmas.{fold_range}
