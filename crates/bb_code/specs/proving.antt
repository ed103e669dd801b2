-- Definitions that only the model of a code uses.
-- how codes are encoded as data that can be compared
pub mod Codes
