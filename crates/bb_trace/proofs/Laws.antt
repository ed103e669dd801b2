-- The lemmas that crates above use: on outputs, and on what natives leave.
pub use Rattle.bb_trace.proofs.OutLemmas.{appends_none, appends_then}
-- what an ask of a native leaves of a blackboard
pub use Rattle.bb_native.proofs.Laws.{Leads, applied_leads, applied_fits, applied_full, applied_no_memory}
