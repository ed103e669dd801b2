-- loops over steps, patterns and statements
pub mod LoopLemmas
-- parts are smaller than their wholes
pub mod SizeLemmas
-- heads of statements with a flaw
pub mod HeadLemmas
-- what calls leave of an emitter
pub mod EmitterLemmas
-- the number of the limit
pub mod Limits
