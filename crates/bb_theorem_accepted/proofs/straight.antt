-- Expressions, and statements without blocks, lead from frame to frame.
-- For all folders below, and for `Laws`.

-- expressions
pub mod AtomLemmas
pub mod OperationLemmas
pub mod QueryLemmas
pub mod PatternLemmas
pub mod ExprLemmas
-- statements without blocks
pub mod StoreLemmas
pub mod UnitLemmas
pub mod ActionLemmas
