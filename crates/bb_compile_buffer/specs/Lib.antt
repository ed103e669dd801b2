-- the code of a part as far as it is emitted
pub mod Buffers
-- operations
pub mod Operations
-- expressions without parts
pub mod Atoms
-- which codes are within the limits of codes
pub mod Within
-- an empty buffer, and the code of a buffer once everything is emitted
pub mod Finish
