-- what moves of hosts mean, and the run that they make from its start
pub mod Meant
-- the number of each flaw, and its line
pub mod Faults
-- the words of a line
pub mod Words
-- the value that a word spells
pub mod Values
-- what a line is, by its first word
pub mod Keywords
-- the asks of a post
pub mod Asks
-- the moves that a text spells
pub mod MovesText
-- how moves are written
pub mod Written
-- of bb_shell: natives handed in
pub use Rattle.bb_shell.specs.Roster
-- for private contracts only
pub mod proving
