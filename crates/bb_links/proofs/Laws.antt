-- The lemmas on links that crates above use: what each change of them leaves fitting.
pub use Rattle.bb_links.proofs.ChangeLemmas.{forget_fits, set_fits}
pub use Rattle.bb_links.proofs.FitLemmas.{linked_fits, unlinked_fits}
