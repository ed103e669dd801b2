-- what an input means, after each step
pub mod MeaningLemmas
-- a source whose classes are looked up, and whose codes are accepted
pub mod AcceptLemmas
-- the sources of an input, one after another
pub mod GatherLemmas
-- the sources of an input are made of codes that were accepted
pub mod MadeLemmas
-- what an input means is well made
pub mod UnstuckLemmas
-- sources that fit together
pub mod FitLemmas
-- for crates above
pub mod Laws
pub mod UnitsMeaningLemmas
