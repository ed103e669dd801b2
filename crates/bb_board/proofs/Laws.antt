-- The lemmas on blackboards that crates above use: each change of a state that fits, under its conditions, leaves one.
pub use Rattle.bb_board.proofs.ClassLemmas.{same_class_of}
pub use Rattle.bb_board.proofs.KeepLemmas.{class_there, empty_fits, create_keeps, set_keeps}
pub use Rattle.bb_board.proofs.LinkLemmas.{MayLink, may_link_facts, link_keeps, unlink_keeps}
pub use Rattle.bb_board.proofs.SlotLemmas.{find_here, has_among}
pub use Rattle.bb_board.proofs.SpaceLemmas.{MayEnter, may_enter_facts, enter_keeps, leave_keeps}
pub use Rattle.bb_board.proofs.DeletionLemmas.{delete_keeps}
pub use Rattle.bb_board.proofs.StepLemmas.{delete_outlives, delete_named, parts_gone, others_stay}
pub use Rattle.bb_board.proofs.StruckLemmas.{part_is_struck}
pub use Rattle.bb_board.proofs.FewLemmas.{few_ends, few_pass}
pub use Rattle.bb_board.proofs.NoteLemmas.{noted_more}
pub use Rattle.bb_board.proofs.SideLemmas.{inverse_end}
pub use Rattle.bb_board.proofs.NamedLemmas.{same_named, then_named, create_named, set_named, link_named, unlink_named}
pub use Rattle.bb_board.proofs.NamedLemmas.{enter_named, leave_named, say_named}
