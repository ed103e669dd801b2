-- of bb_trace: how a plan is encoded
pub use Rattle.bb_run.specs.proving.Codes
