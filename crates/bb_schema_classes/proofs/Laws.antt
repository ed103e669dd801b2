-- The lemmas on classes, their names and their values that crates above use, and those of bb_schema_form on numbers of
-- 64 bits.
pub use Rattle.bb_schema_form.proofs.Laws.{fits_i64, i64_fits}
pub use Rattle.bb_schema_classes.proofs.ClimbLemmas.{climbs_sound, descends_complete, any_decides}
pub use Rattle.bb_schema_classes.proofs.FitLemmas.{All-at}
pub use Rattle.bb_schema_classes.proofs.IndexLemmas.{any_spot}
pub use Rattle.bb_schema_classes.proofs.NamingLemmas.{not_false, distinct_nil, no_names, one_more_name}
pub use Rattle.bb_schema_classes.proofs.SameLemmas.{label_sets_decide, classes_decide, option_decides, link_decides, value_decides}
pub use Rattle.bb_schema_classes.proofs.SpanLemmas.{alone, none_above, descends_told}
