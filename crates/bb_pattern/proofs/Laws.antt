-- The lemmas on patterns that crates above use.
pub use Rattle.bb_pattern.proofs.Parts.{parts_below_and, parts_below_or, no_room_after}
