-- The lemmas on schemas that crates above use.
pub use Rattle.bb_schema.proofs.CoupleListLemmas.{couple_listed}
-- which classes descend from which, and are related
pub use Rattle.bb_schema.proofs.LineageLemmas.{goes_up, both_related}
-- the heirs of a class, and what a delete strikes
pub use Rattle.bb_schema.proofs.OwnershipLemmas.{strikes_up, heirs_itself, heirs_owned, strikes_by_heir}
