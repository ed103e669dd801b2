-- The kinds that the compiler and the verifier know: of slots, of values, and of all locals of a code.
-- For all folders below, and for `Laws`.

-- values and slots
pub mod UnderLemmas
pub mod HeldLemmas
pub mod SlotKinds
pub mod MadeLemmas
-- labels and locals
pub mod LabelLemmas
pub mod KnowLemmas
pub mod MergeLemmas
-- what expressions make, and what statements do to a scope
pub mod ValueLemmas
pub mod MoveLemmas
