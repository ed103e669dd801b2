-- One unit that is deleted, step by step and at once.
pub mod KeptLemmas
pub mod CoupleLemmas
pub mod PartingLemmas
pub mod PartnerLemmas
pub mod TurnLemmas
pub mod LeavingLemmas
pub mod AloneLemmas
