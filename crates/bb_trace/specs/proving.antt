-- how a blackboard is encoded
pub use Rattle.bb_board.specs.proving.Codes as BoardCodes
-- how an end of a run is encoded, and which ends the code has
pub mod Ends
-- an end of the code is recovered from its end in the definitions
pub mod Kinds
