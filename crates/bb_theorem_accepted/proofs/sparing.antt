-- What texts do to the names in scope, and which they spare: what is live at the head of a loop is so at its end.
-- For `loops`, `nests` and `whole`.

-- free locals, and names
pub mod FreeLemmas
pub mod ScopeLemmas
pub mod SpareLemmas
pub mod ShapeLemmas
-- what a body leaves
pub mod KilledLemmas
pub mod BodyLemmas
-- statements, and texts
pub mod PlainLemmas
pub mod ActLemmas
pub mod BranchActs
pub mod ForActs
pub mod TextActs
