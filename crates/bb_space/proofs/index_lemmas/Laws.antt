-- The lemmas on places, and on what is in a list, that crates above use.
pub use Rattle.bb_space.proofs.index_lemmas.PlaceLemmas.{equal, by_bool, by_number, of_unit, at_of, place_from, none_at}
pub use Rattle.bb_space.proofs.index_lemmas.NearLemmas.{AreOf}
pub use Rattle.bb_space.proofs.index_lemmas.CandidateLemmas.{passing}
pub use Rattle.bb_space.proofs.index_lemmas.StretchLemmas.{near_is}
pub use Rattle.bb_space.proofs.index_lemmas.MarkLemmas.{passes_near}
pub use Rattle.bb_space.proofs.index_lemmas.PairLemmas.{near_kept, near_all}
pub use Rattle.bb_space.proofs.index_lemmas.AmongLemmas.{meets_among}
pub use Rattle.bb_space.proofs.index_lemmas.CountLemmas.{count_is}
