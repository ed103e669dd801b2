-- The compiler notes the flaws of the judgement, and no others; and refuses a part for its first fault.
-- For `laying`, `within` and `exact`.

-- expressions
pub mod AtomLemmas
pub mod QueryLemmas
pub mod ExprLemmas
-- statements without blocks
pub mod ActionLemmas
-- statements with blocks
pub mod AgreeLemmas
pub mod BindLemmas
pub mod BranchLemmas
pub mod LoopLemmas
pub mod BlockLemmas
-- parts
pub mod PartLemmas
