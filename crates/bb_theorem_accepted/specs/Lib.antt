-- texts without `for`
pub mod Loopless
-- parts whose classes are in the schema
pub mod Classes
-- definitions of the compiler, for the crates that depend on this one
pub use Rattle.bb_compile_buffer.specs.declared.buffer.Buffer
pub use Rattle.bb_compile_buffer.specs.Buffers
pub use Rattle.bb_compile_buffer.specs.Operations
pub use Rattle.bb_compile_buffer.specs.Atoms
pub use Rattle.bb_compile_buffer.specs.Within
pub use Rattle.bb_compile_buffer.specs.Finish
pub use Rattle.bb_compile.specs.declared.asked.Asked
pub use Rattle.bb_compile.specs.declared.exits.Exits
pub use Rattle.bb_compile.specs.declared.part.TheConstants as PartLimits
pub use Rattle.bb_compile.specs.Queries
pub use Rattle.bb_compile.specs.Bindings
pub use Rattle.bb_compile.specs.Expressions
pub use Rattle.bb_compile.specs.Actions
pub use Rattle.bb_compile.specs.Statements
pub use Rattle.bb_compile.specs.Parts
