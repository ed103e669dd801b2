-- the source of a tree, with its codes
pub mod Compiled
-- queries that are being emitted
pub mod Queries
-- expressions, sequences and patterns
pub mod Expressions
-- statements without blocks
pub mod Actions
-- tests of `with`
pub mod Bindings
-- statements and blocks
pub mod Statements
-- the code of a part
pub mod Parts
-- definitions used only in measures, private contracts and proofs
pub mod proving
