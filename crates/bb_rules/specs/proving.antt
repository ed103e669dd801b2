-- how the code finds the clauses that name an event
pub mod Index
-- the steps by which the code makes a source
pub mod Steps
-- an injective encoding of sources
pub mod Codes
