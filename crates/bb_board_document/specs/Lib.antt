-- the numbers that units have after their document is loaded
pub mod Renumbered
-- a value as JSON
pub mod Values
-- the document of initial units for the contents of a blackboard
pub mod Document
-- the blackboard that loads a text
pub mod Loading
