-- how sources and a plan are encoded
pub mod Codes
-- how a plan finds the sources that an event concerns
pub mod Concerned
