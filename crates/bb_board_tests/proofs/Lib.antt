pub mod KnowsLemmas
