-- The lemmas that crates above use: a number is of 64 bits exactly where the test says so.
pub use Rattle.bb_schema_form.proofs.NumberLemmas.{fits_i64, i64_fits}
