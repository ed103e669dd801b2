-- Only for proofs.
-- pops and pushes on a state that suits a frame
pub mod Moves
-- the maximum number of further steps
pub mod StepsLeft
-- the number of units left in sequences
pub mod Sequences
