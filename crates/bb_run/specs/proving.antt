-- of bb_trace: how sources, a plan and a blackboard are encoded
pub use Rattle.bb_run_plan.specs.proving.Codes
pub use Rattle.bb_trace.specs.proving.BoardCodes
-- which pending activations a reaction is asked about
pub mod Own
-- the responses of the sources at some places to an event
pub mod Responding
