-- what a native of the tests asks for
pub mod Asked
