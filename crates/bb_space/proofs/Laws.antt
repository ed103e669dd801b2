-- The lemmas on what rises, and on what is in a list, that crates above use.
pub use Rattle.bb_space.proofs.RisingLemmas.{keys_rise, same_numbers, any_filter}
pub use Rattle.bb_space.proofs.index_lemmas.Laws.{meets_among}
