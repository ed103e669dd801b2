-- The lemmas on units that crates above use.
pub use Rattle.bb_units.proofs.FitsLemmas.{created_fit, deleted_fit, updated_fit}
pub use Rattle.bb_units.proofs.HasLemmas.{has_its_slots}
