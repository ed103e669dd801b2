-- the numbers of faults
pub mod Faults
-- the words of the command line, and the options they choose
pub mod CommandLine
-- what is returned for words
pub mod Answers
