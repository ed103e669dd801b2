-- What follows from the law of runs, and so is no clause of it.
-- For `Corollaries`.
pub mod TallyLemmas
pub mod UponLemmas
pub mod FollowLemmas
