-- What a text lays out at most: where its sums are those of a code, it is laid out whole, or refused for a fault.
-- For `within` and `exact`.

-- steps
pub mod LayLemmas
pub mod GiveLemmas
-- expressions, and statements without blocks
pub mod LayExprs
pub mod LayActions
-- statements with blocks
pub mod LayHeads
pub mod LayLoops
pub mod LayBlocks
-- parts
pub mod LayParts
