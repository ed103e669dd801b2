-- Ops that go to a place, and those that end an execution.
pub mod JumpSteps
pub mod NextSteps
