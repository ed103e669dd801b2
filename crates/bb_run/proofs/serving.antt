-- No run is stuck, and each code is executed for units that fit its part.
-- For the law of runs and the answers of functions that require it, for `Corollaries`, and for `Laws`.

-- what executions begin with
pub mod EntryLemmas
-- what answers to an event is not stuck, nor is a run
pub mod UnstuckParts
pub mod UnstuckStates
pub mod UnstuckRuns
-- the state goes on serving
pub mod ServeLemmas
pub mod ServeCycles
-- what lasts of a run between its parts
pub mod MadeLemmas
pub mod SteadyLemmas
