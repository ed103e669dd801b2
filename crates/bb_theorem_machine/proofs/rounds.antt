-- sums, element by element
pub mod SumLemmas
-- how often a place can still come, where an execution goes ahead, and back
pub mod AheadRounds
pub mod BackRounds
-- the loops of an accepted code at an op of it
pub mod NestLemmas
pub mod HeadLemmas
-- each step leaves fewer
pub mod FallLemmas
-- at first they are no more than the budget
pub mod BudgetLemmas
-- what ops make of locals and of sequences
pub mod KeptSteps
pub mod MovedSteps
pub mod LeftLemmas
pub mod StepLemmas
-- an execution makes no more
pub mod SpentLemmas
