-- what becomes of an input's sources that are text
pub mod Texts
-- what a run executes of them
pub mod Executions
