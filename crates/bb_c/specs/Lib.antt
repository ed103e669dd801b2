-- what a call returns
pub mod Served
-- what a handle owns
pub mod Owned
-- what was taken out of a handle
pub mod Taken
-- what a call does to a held run
pub mod Called
-- what a call that looks up something on its blackboard returns
pub mod Looked
-- what a call for the history of a run returns
pub mod Past
