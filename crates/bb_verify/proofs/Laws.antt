-- What the crates above use of codes that are accepted, and of the frames of an op whose effect has no flaw.
pub use Rattle.bb_verify.proofs.CheckedLemmas.{checked_again, checked_facts}
pub use Rattle.bb_verify.proofs.EdgeLemmas.{edges_ok, on_edges}
pub use Rattle.bb_verify.proofs.FrameRule.{IsKept, OnEdge, effect_keeps}
pub use Rattle.bb_verify.proofs.nesting_lemmas.Laws.{check_order_ok, never_ok, before_ok, ahead_ok, nests_ok, LoopDue, loop_due_ok, PlaceDue, place_due_ok}
pub use Rattle.bb_verify_effect.proofs.Laws.{same_plain, due_ok, plain_slot_ok, link_slot_ok, Pushed, push_ok}
pub use Rattle.bb_verify_effect.proofs.Laws.{Loaded, load_ok, Stored, store_local_ok, Dropped, drop_one_ok, Turned, turn_ok, Combined, combine_ok, eq_label_ok, EqUnits, eq_unit_ok}
pub use Rattle.bb_verify_effect.proofs.Laws.{Got, get_ok, Followed, links_ok, Found, find_ok, size_ok}
pub use Rattle.bb_verify_effect.proofs.Laws.{Created, new_unit_ok, SetTo, set_slot_ok, Relinked, relink_ok, Entered, enter_ok, Left, leave_ok, Deleted, delete_ok, Said, say_ok}
pub use Rattle.bb_verify_effect.proofs.Laws.{on_ok, Branched, OneFollowed, one_ok, FoundAlive, alive_ok, FoundAs, as_class_ok, Tested, unless_ok, Taken, next_unit_ok, done_ok, decline_ok, Ended, rate_ok, answer_ok}
