-- the tokens of a text
pub mod Tokens
-- names, numbers and text constants
pub mod Words
-- optional, repeated and listed items
pub mod Repeats
-- expressions, sequences and patterns
pub mod Expressions
-- statements without blocks
pub mod Actions
-- statements and blocks
pub mod Statements
-- clauses, parts and sources, and the sources of a text
pub mod Sources
-- the faults of a text, defined by its names and kinds only, and which parts are small enough for a code. Theorem on all texts: the compiler refuses a text for its first fault, and a text without a fault only if a part does not fit or memory runs out. No code calls this crate
pub mod judged
