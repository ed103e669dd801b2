-- numbers of 64 bits
pub mod Numbers
-- the form of JSON, piece by piece
pub mod Shapes
-- where in a document a fault is
pub mod Places
-- faults with their places
pub mod Faults
-- what a schema's document declares
pub mod Document
-- which JSON has the form of a schema's document, and what it declares
pub mod Form
-- defaults of 64 bits and in order, as the form requires
pub mod Defaults
-- what the document of initial units declares, and which JSON has its form
pub mod UnitsDocument
-- the definitions for the fast reader of initial units
pub mod Quick
