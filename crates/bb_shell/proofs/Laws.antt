-- What the crates above use of the sources of an input.
pub use Rattle.bb_shell.proofs.FitLemmas.{fitted_same, fits_or_not}
