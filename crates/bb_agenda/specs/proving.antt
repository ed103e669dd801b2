-- how the code keeps an agenda
pub mod Kept
-- sets of numbers as bits
pub mod Numbers
-- the order in which the activations of a source are executed
pub mod Ranks
-- how the code finds pending activations
pub mod Filed
-- ordered sets of numbers, by source, and by unit and source
pub mod Lists
-- where a number is in such a set
pub mod Places
-- the best pending activation
pub mod Best
-- how an agenda is encoded
pub mod Codes
