-- where a text is cut
pub mod WordLemmas
-- lines, one after another
pub mod LineLemmas
-- moves, one after another
pub mod PlayLemmas
-- what is written as JSON, read again
pub mod ReadBackLemmas
-- the bytes of what is written
pub mod GraphicLemmas
-- where a text is cut into lines
pub mod CutLemmas
-- histories, one after another
pub mod JoinLemmas
-- labels by their names
pub mod LabelLemmas
-- values, read again
pub mod SpeltLemmas
-- asks, read again
pub mod AskLemmas
-- moves, read again
pub mod AgainLemmas
-- what is read can be written again
pub mod TellLemmas
-- worked rows
pub mod Rows
