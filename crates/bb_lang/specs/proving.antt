-- Definitions used only in models and proofs.
-- what a loop of a repeated reader has read so far
pub mod Fronts
-- which readers call which
pub mod Ranks
-- injective encodings of trees, from bb_lang_tree
pub use Rattle.bb_lang_tree.specs.proving.Rose
pub use Rattle.bb_lang_tree.specs.proving.Codes
pub use Rattle.bb_lang_tree.specs.proving.BlockCodes
