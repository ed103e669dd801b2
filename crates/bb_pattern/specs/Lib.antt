-- values on dimensions, and kinds of operands
pub mod Values
-- a pattern as a tree
pub mod Trees
-- the trees of patterns
pub mod View
-- whether a unit satisfies a pattern
pub mod Holds
-- the numbers of faults
pub mod Faults
-- whether a pattern or a query fits a schema
pub mod Fits
-- definitions that only models use
pub mod proving
