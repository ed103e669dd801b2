-- worked texts
mod Rows
-- the first ops of a code, one after another
pub mod ComeLemmas
-- ops on values
pub mod OpLemmas
-- names and their locals
pub mod NameLemmas
-- parts of expressions, one after another
pub mod MeansLemmas
-- slots by their names
pub mod SlotLemmas
-- expressions without parts
pub mod AtomLemmas
-- operations
pub mod OperationLemmas
-- units that are linked, and how many there are
pub mod SequenceLemmas
-- queries
pub mod FindLemmas
-- all expressions
pub mod ExprLemmas
-- names that are declared, or get another value
pub mod SceneLemmas
-- what statements share
pub mod ActLemmas
-- ops that change the blackboard, or end an execution
pub mod LeafLemmas
-- statements that declare a name, or give one another value
pub mod BindLemmas
-- statements that change a unit
pub mod UnitLemmas
-- all statements without blocks
pub mod ActionLemmas
-- what statements keep of a scope
pub mod KeepLemmas
-- blocks that end
pub mod EndLemmas
-- an `if`
pub mod BranchLemmas
-- tests before a first block
pub mod TestLemmas
-- classes of units
pub mod ClassLemmas
-- ops of a test of a `with`
pub mod TriedLemmas
-- the test of a `with`
pub mod HeadLemmas
-- blocks
pub mod BlockLemmas
-- how many steps a code can make
pub mod BudgetLemmas
-- the loop of a `for`
pub mod LoopLemmas
-- a `for`
pub mod ForLemmas
-- whole texts
pub mod TextLemmas
-- whole parts
pub mod PartLemmas
-- codes within their limits
pub mod CodeLemmas
-- what a source is compiled from
pub mod MadeLemmas
-- the codes of a source
pub mod SourceLemmas
