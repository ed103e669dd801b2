-- What the crates above use of how sources are made.
pub use Rattle.bb_rules.proofs.LawLemmas.{source_made_of}
