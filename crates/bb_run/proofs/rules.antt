-- Rules by induction: what holds of each note, ask, response and part of a run holds of all, one after another.
-- For all folders below but `coming`.
pub mod OrderLemmas
pub mod AskRule
pub mod ResponseRule
pub mod StateRule
