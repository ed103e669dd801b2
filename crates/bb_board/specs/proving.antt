-- What only invariants of models, contracts of private functions and proofs cite.
-- how a blackboard is stored as data that can be told apart
pub mod Codes
-- the loader's walk so far, as definitions see it
pub mod Reading
-- units by name, as the code keeps them
pub mod Naming
-- units that are deleted one after another, computed from the state before
pub mod Deleted
-- units that are found one after another
pub mod Found
