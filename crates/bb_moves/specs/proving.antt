-- what the code has read so far
pub mod Reading
