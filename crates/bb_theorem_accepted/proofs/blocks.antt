-- What statements with blocks, and whole texts, lay out, by the answer of the compiler alone.
-- For all folders below, and for `Laws`.

-- an `if` and a `with`
pub mod AimLemmas
pub mod BranchLemmas
pub mod HeadLemmas
pub mod GuardLemmas
pub mod BlockLemmas
-- a `for`
pub mod LoopLaid
pub mod ForLays
-- texts
pub mod CalmLemmas
pub mod TextLays
pub mod BeforeLemmas
