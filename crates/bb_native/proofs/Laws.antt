-- What the crates above use of natives: what an ask that is applied leaves of a blackboard, and when it is not applied.
pub use Rattle.bb_native.proofs.AskedLemmas.{Leads, applied_leads, applied_fits}
pub use Rattle.bb_native.proofs.AppliedLemmas.{applied_full, applied_no_memory}
