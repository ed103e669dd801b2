-- Ops that look at units, sequences and slots, and queries.
pub mod SlotLemmas
pub mod PartnerLemmas
pub mod FindLemmas
pub mod ReadSteps
pub mod SlotSteps
