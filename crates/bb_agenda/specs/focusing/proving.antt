-- What only the invariants of models, the contracts of private functions and proofs use.
-- the total weight of the foci that match a source
pub mod Weights
-- a focus with its area looked up
pub mod Aims
-- the foci in the entries that the code keeps
pub mod Entries
-- how foci and what they are matched with are encoded
pub mod Codes
