-- worked codes
mod Rows
-- kinds, and what is laid out one after another
pub mod kinds
pub mod buffers
pub mod straight
-- what is laid out with blocks, and which names it spares
pub mod blocks
pub mod sparing
-- the verifier goes through it
pub mod walks
pub mod branches
pub mod loops
-- and takes its loops
pub mod nests
-- whole parts
pub mod whole
-- what crates above use
pub mod Laws
