-- the clauses of a source
pub mod ClauseLemmas
-- what the sources of an input are made of
pub mod GivenLemmas
-- which sources the verifier refuses
pub mod RefusedLemmas
-- what their executions do
pub mod ToldLemmas
-- what a call that compiles a text returns
pub mod CompiledLemmas
