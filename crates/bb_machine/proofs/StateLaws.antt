-- The lemmas on blackboards that crates above use.
pub use Rattle.bb_board.proofs.Laws.{same_named, then_named, create_named, set_named, link_named, unlink_named}
pub use Rattle.bb_board.proofs.Laws.{enter_named, leave_named, delete_named, say_named}
