-- one more item of what comes of a range
pub mod ListLemmas
-- tables of the queries that ops name
pub mod NamedLemmas
