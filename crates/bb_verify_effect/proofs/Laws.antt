-- What the crates above use: the lemmas of bb_code, and what is known of the frames of an op whose effect has no flaw.
pub use Rattle.bb_code.proofs.Laws.{each_next, each_error, each_end, each_all, range-cons, range_next, range_error, range_end, range_at, fold_end, no_fault}
pub use Rattle.bb_verify_effect.proofs.DueInversion.{test_ok, same_plain, due_ok, plain_slot_ok, link_slot_ok}
pub use Rattle.bb_verify_effect.proofs.FrameInversion.{Pushed, push_ok}
pub use Rattle.bb_verify_effect.proofs.EffectInversion.{Loaded, load_ok, Stored, store_local_ok, Dropped, drop_one_ok, Turned, turn_ok, Combined, combine_ok, eq_label_ok, EqUnits, eq_unit_ok}
pub use Rattle.bb_verify_effect.proofs.EffectInversion.{Got, get_ok, Followed, links_ok, Found, find_ok, size_ok}
pub use Rattle.bb_verify_effect.proofs.EffectInversion.{Created, new_unit_ok, SetTo, set_slot_ok, Relinked, relink_ok, Entered, enter_ok, Left, leave_ok, Deleted, delete_ok, Said, say_ok}
pub use Rattle.bb_verify_effect.proofs.EdgeInversion.{on_ok, Branched, OneFollowed, one_ok, FoundAlive, alive_ok, FoundAs, as_class_ok, Tested, unless_ok, Taken, next_unit_ok, done_ok, decline_ok, Ended, rate_ok, answer_ok}
