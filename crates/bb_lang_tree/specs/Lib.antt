-- expressions and patterns as trees
pub mod Trees
-- the trees that values of `Expr` and `Pattern` stand for
pub mod View
-- statements and blocks as trees
pub mod Blocks
-- the trees that values of `Block` stand for
pub mod BlockView
-- definitions used only in models and proofs
pub mod proving
-- locations in a text
pub mod Places
-- the numbers of faults
pub mod Faults
-- how a text is divided into tokens
pub mod Tokens
-- the state of parsing
pub mod State
-- names and reserved words
pub mod Words
-- numbers and text constants
pub mod Literals
