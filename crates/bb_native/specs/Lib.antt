-- the view that a native has of a blackboard
pub mod Sight
-- the meaning of a native
pub mod Native
-- the meaning of a roster of natives, and its calls and closings
pub mod Roster
-- why an ask is not applied
pub mod Refusals
-- the blackboard after an ask
pub mod Applied
-- definitions that only models use
pub mod proving
