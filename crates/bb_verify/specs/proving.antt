-- how accepted codes are encoded as data that can be compared
pub mod Codes
-- declared frames by their numbers
pub mod Numbered
-- the places of a code by depth
pub mod Depths
-- the pass over the places as a walk
pub mod Passes
