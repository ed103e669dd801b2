-- The lemmas on foci and ratings that crates above use.
pub use Rattle.bb_basis.proofs.EntryLemmas.{values_are}
pub use Rattle.bb_agenda.proofs.focusing_lemmas.ShiftLemmas.{rating_by_weight}
pub use Rattle.bb_agenda.proofs.focusing_lemmas.WeightLemmas.{rating_is}
