-- tests that never hold
pub mod Tests
-- searches that find nothing
pub mod Finds
-- queries that no op names
pub mod Unused
-- the warnings of a code, in order
pub mod Warnings
-- sources whose activations are never chosen
pub mod Ratings
-- sources that are triggered without end, or never
pub mod Triggered
-- what only proofs mention
pub mod proving
