-- Lemmas for the crates above: on loops that test in order, and that the code that a spelling gives is the one spelled.
pub use Rattle.bb_code.proofs.OpsLaws.{parts_below_and, parts_below_or, each_next, each_error, each_end, each_all}
pub use Rattle.bb_code.proofs.OpsLaws.{range-cons, range_next, range_error, range_end, range_at, fold_end, no_fault}
pub use Rattle.bb_code.proofs.Codes.{all_again}
