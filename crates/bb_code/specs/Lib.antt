-- the number of each fault
pub mod CodeFault
-- the bytes that spell a code
pub mod Spelling
-- one field at the start of bytes, and lists of fields
pub mod Fields
-- the pattern at the start of bytes
pub mod Patterns
-- the op at the start of bytes
pub mod Ops
-- the code that bytes spell, or their first fault
pub mod Reading
-- the declared types of a code
pub use Rattle.bb_code.specs.declared.op.Op
pub use Rattle.bb_code.specs.declared.op.Bound
pub use Rattle.bb_code.specs.declared.op.Calculation
pub use Rattle.bb_code.specs.declared.op.Comparison
pub use Rattle.bb_code.specs.declared.op.Division
pub use Rattle.bb_code.specs.declared.op.LinkChange
pub use Rattle.bb_code.specs.declared.op.Logic
pub use Rattle.bb_code.specs.declared.frame.Kind
pub use Rattle.bb_code.specs.declared.frame.Frame as DeclaredFrame
pub use Rattle.bb_code.specs.declared.frame.FrameEntry
pub use Rattle.bb_code.specs.declared.frame.Loop
pub use Rattle.bb_code.specs.declared.version.Version
pub use Rattle.bb_code.specs.declared.parts.CodeParts
pub use Rattle.bb_code.specs.declared.parts.TheConstants as Limits
pub use Rattle.bb_code.specs.declared.flaw.Flaw
pub use Rattle.bb_code.specs.declared.flaw.VerifyFault
-- results with other values
pub mod Answers
-- tests in order
pub mod Each
-- codes and their limits
pub mod Code
-- the flaws of a code
pub mod Flaws
-- definitions that only the model of a code uses
pub mod proving
-- definitions of lower crates
pub use Rattle.bb_schema.specs.Schema
pub use Rattle.bb_schema.specs.Spaces
pub use Rattle.bb_pattern.specs.Trees
pub use Rattle.bb_pattern.specs.View
pub use Rattle.bb_pattern.specs.Fits
pub use Rattle.bb_pattern.specs.declared.pattern.Relation
pub use Rattle.bb_pattern.specs.declared.query.Query
pub use Rattle.bb_pattern.specs.declared.value.OperandKind
pub use Rattle.bb_pattern.specs.declared.fits.TheConstants as PatternLimits
