-- The names of a scope with what they hold, its locals, and what a step of the compiler leaves and makes of it.
-- For all folders below.
pub mod NameLemmas
pub mod LocalLemmas
pub mod ScopeLemmas
pub mod KindLemmas
pub mod HoldLemmas
pub mod MoveLemmas
pub mod KilledLemmas
