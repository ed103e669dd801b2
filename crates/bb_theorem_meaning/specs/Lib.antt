-- how a text ends, and its names
pub mod Meaning
-- operations on values
pub mod Values
-- units, as texts refer to them
pub mod Units
-- the values of expressions, sequences and patterns
pub mod Expressions
-- what statements do
pub mod Statements
-- the meaning of a part's text
pub mod Parts
-- texts without `for`
pub use Rattle.bb_theorem_accepted.specs.Loopless
-- parts whose classes are in the schema
pub use Rattle.bb_theorem_accepted.specs.Classes
-- how an execution must end, according to the text
pub mod Told
-- sources without `for`; what it means that codes are accepted, and mean their text
pub mod Sources
