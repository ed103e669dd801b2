-- the present values of a unit on the dimensions of a space
pub mod PresentValues
-- a unit has a value on every dimension of a space that admits it
pub mod Whole
-- the answers of queries
pub mod Answer
-- the values that spaces are given when a slot is set
pub mod Moves
-- what spaces know of units
pub mod Knows
-- definitions that only the contracts of private functions use
pub mod proving
