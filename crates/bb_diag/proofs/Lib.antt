-- where the bytes of a code show a fault
pub mod EarlyLemmas
