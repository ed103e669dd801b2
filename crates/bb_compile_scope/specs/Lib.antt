-- the number of each fault
pub mod Faults
-- which values are units, and may be compared and assigned
pub mod Kinds
-- what the locals hold
pub mod LocalKinds
-- the names in scope
pub mod Scope
-- what the names of slots and dimensions mean
pub mod Slots
-- which statements always end
pub mod Ending
-- which names are live at a loop's start
pub mod Killed
-- re-exports for the crates that depend on this one
pub use Rattle.bb_verify_effect.specs.Part
pub use Rattle.bb_verify_effect.specs.Kinds as FrameKinds
pub use Rattle.bb_lang_tree.specs.declared.place.Place
-- definitions used only in measures and proofs
pub mod proving
