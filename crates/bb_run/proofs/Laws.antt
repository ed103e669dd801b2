-- What the crates above use of runs: what goes on holding from one part of a run to the next, and what is said of one
-- that was cut short.
pub use Rattle.bb_run.proofs.serving.ServeCycles.{chosen_suits}
pub use Rattle.bb_run.proofs.serving.SteadyLemmas.{may_serve, steady_again, steady_lasts, turn_steady, cycles_steady, post_steady, answer_steady, start_steady}
pub use Rattle.bb_run.proofs.natives.DueLemmas.{settled_not_due}
pub use Rattle.bb_run.proofs.natives.OutsideLemmas.{AsksInside, ComesTo, cycle_outside}
pub use Rattle.bb_run.proofs.emitting.WholeLemmas.{none_written, wrote_first, wrote_front}
pub use Rattle.bb_run.proofs.stretches.MeetLemmas.{IsOver, Meets, choices_after, cycles_again, cycles_meet, start_early}
pub use Rattle.bb_run.proofs.notes.OrderlyParts.{IsEarly, all_of_two}
pub use Rattle.bb_run.proofs.stretches.CountLemmas.{cycle_chooses, wait_silent}
pub use Rattle.bb_run.proofs.stretches.EarlyLemmas.{cycle_early, wait_early}
