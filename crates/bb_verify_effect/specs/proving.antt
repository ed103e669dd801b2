-- how frames and parts are encoded as data that can be compared
pub mod Codes
-- how frames are stored one after another
pub mod Packed
