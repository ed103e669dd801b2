-- What only the contracts of private functions mention.
-- the lists of the classes that spaces admit
pub mod Admitted
