-- names
pub mod Names
-- results of calls that may fail: `>>=`, `try_map`, `try_fold`, `Gives`
pub mod Results
-- the numbers that are reached from a number step by step
pub mod Closure
-- relations that only invariants and proofs use
pub mod proving
