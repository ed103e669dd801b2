-- For callers: an input that is too long has no sections.
pub use Rattle.bb_main_input.proofs.InputLemmas.{is_long}
