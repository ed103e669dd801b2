-- Where nothing is noted a text lays out just as much as its sums say, so a part that has a code fits.
-- For the clauses `fitting` and `exact` of the theorem.

-- steps
pub mod ExactLemmas
-- expressions, and statements without blocks
pub mod ExactExprs
pub mod ExactQueries
pub mod ExactActions
-- statements with blocks
pub mod ExactHeads
pub mod ExactLoops
pub mod ExactBlocks
-- parts and sources
pub mod ExactParts
pub mod ExactSources
