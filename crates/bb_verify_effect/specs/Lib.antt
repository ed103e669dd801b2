-- checks on the operands of ops
pub mod Due
-- the frames after an op
pub mod Edges
-- the effect of an op on a frame
pub mod Effect
-- frames and parts
pub use Rattle.bb_verify_effect.specs.declared.frame.Frame as FrameType
pub use Rattle.bb_verify_effect.specs.declared.part.Part as PartType
-- what slots hold
pub use Rattle.bb_schema_classes.specs.declared.kind.Kind as SlotKind
pub use Rattle.bb_schema_classes.specs.declared.kind.Link as SlotLink
-- what the parts of a source may do
pub mod Part
-- the entries of a stack
pub mod Stack
-- the locals and the stack of a frame
pub mod Frame
-- which kinds are allowed where others are declared, and what is known of a kind after a deletion
pub mod Kinds
-- only for models
pub mod proving
-- codes and schemas
pub use Rattle.bb_code.specs.Answers
pub use Rattle.bb_code.specs.Code
pub use Rattle.bb_code.specs.Each
pub use Rattle.bb_code.specs.Flaws
pub use Rattle.bb_code.specs.declared.frame.Frame as DeclaredFrame
pub use Rattle.bb_code.specs.declared.flaw.Flaw
pub use Rattle.bb_code.specs.declared.frame.FrameEntry
pub use Rattle.bb_code.specs.declared.frame.Kind
pub use Rattle.bb_code.specs.declared.parts.TheConstants as Limits
pub use Rattle.bb_code.specs.declared.op.Op
pub use Rattle.bb_code.specs.declared.flaw.VerifyFault
pub use Rattle.bb_code.specs.Schema
pub use Rattle.bb_code.specs.Spaces
pub use Rattle.bb_code.specs.Fits
pub use Rattle.bb_code.specs.Query
pub use Rattle.bb_code.specs.OperandKind
