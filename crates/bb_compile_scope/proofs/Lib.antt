-- loops that change each local
pub mod PairLemmas
-- chains with steps
pub mod ChainLemmas
-- locals that are set, and how many are free
pub mod LocalLemmas
-- the label sets and classes that slots name
pub mod SlotLemmas
-- for crates above
pub mod Laws
pub mod Numbers
