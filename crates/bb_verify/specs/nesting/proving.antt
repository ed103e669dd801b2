-- tables of the loops of a code
pub mod LoopTables
-- the loops that hold a place
pub mod OpenLoops
