-- executions of a code, as lines
pub mod machines
