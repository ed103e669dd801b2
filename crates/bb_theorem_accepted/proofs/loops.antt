-- A `for` leads the verifier from what stands before it to what stands after its loop.
-- For `whole`.
pub mod LoopVisits
pub mod LoopSounds
pub mod ForSounds
pub mod ForEnds
pub mod ForHeads
pub mod ForGoes
