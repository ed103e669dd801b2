-- Definitions used only in models and proofs.
-- trees with a label at each node
pub mod Rose
-- an injective encoding of expressions and patterns
pub mod Codes
-- an expression or a pattern has more nodes than any of its parts
pub mod Depths
-- an injective encoding of blocks
pub mod BlockCodes
-- a block has more nodes than any block in it
pub mod BlockDepths
-- the invariant of the names in scope
pub mod Scopes
-- the invariant of places
pub mod Placed
