-- The lemmas on what spaces know, and on what units have in them, that crates above use.
pub use Rattle.bb_query.proofs.WholeLemmas.{present_kinds}
