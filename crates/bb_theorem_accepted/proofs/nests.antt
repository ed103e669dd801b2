-- The loops of a text are in order, and its ops stand between them as the verifier asks.
-- For `whole`, and by `Laws` for crates that execute the code.
pub mod NestLemmas
pub mod LoopOrder
pub mod NestPasses
pub mod NestBranches
pub mod NestFor
pub mod NestTexts
pub mod LoopRuns
pub mod LooplessLemmas
