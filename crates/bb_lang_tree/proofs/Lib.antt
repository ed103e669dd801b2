pub mod ScanLemmas
pub mod ScopeLemmas
pub mod WordLemmas
pub mod LiteralLemmas
pub mod Limits
pub mod Numbers
