-- What is laid out stays within the limits of codes, so a part that fits is refused for its first fault alone.
-- For `exact`, for `SourceLemmas`, and for the clause `parts` of the theorem.

-- what is there to be laid out, scopes and buffers
pub mod WithinLists
pub mod WithinSchema
pub mod FineScopes
pub mod FineLemmas
pub mod FineNames
-- expressions, and statements without blocks
pub mod FineExprs
pub mod FineQueries
pub mod FineActions
-- statements with blocks
pub mod FineHeads
pub mod FineLoops
pub mod FineBlocks
-- parts
pub mod FineParts
