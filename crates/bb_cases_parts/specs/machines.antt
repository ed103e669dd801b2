-- units that fit a part
pub mod Entries
