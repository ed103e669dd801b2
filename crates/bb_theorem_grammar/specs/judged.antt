-- names, and what they hold
pub mod Names
-- the flaws of a statement
pub mod Flaws
-- expressions without parts
pub mod Atoms
-- operations
pub mod Operations
-- the counts of a query
pub mod Queries
-- expressions, sequences and patterns
pub mod Expressions
-- statements without blocks
pub mod Actions
-- which names are live at a loop's start
pub mod Killed
-- statements and blocks
pub mod Statements
-- parts
pub mod Judgement
-- sources
pub mod Sources
-- how much code a text needs
pub mod Sums
-- what a text can contain
pub mod Held
-- which parts are small enough for a code
pub mod Fitting
-- the parts of a source that was read, and which are small enough
pub mod Small
