-- where ops may jump
pub mod Jumps
-- the loops
pub mod Loops
-- only for proofs and private contracts
pub mod proving
