-- moves that are made in two, and runs that are made of moves
pub mod ApartLemmas
-- where a move leaves a run
pub mod HeldLemmas
-- one move of many cycles, and turns
pub mod TurnLemmas
-- a native that is due, and the answer for it
pub mod OutsideLemmas
