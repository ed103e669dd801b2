-- the outcome of an input's sources, one by one
pub mod Gathering
