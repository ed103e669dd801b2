-- Relations used by proofs only: no public clause cites them.
-- how a text is cut into its sections
pub mod Cuts
