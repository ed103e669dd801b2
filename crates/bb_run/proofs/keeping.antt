-- What the parts of a run keep: the blackboard where it is only asked, its foci, and how many may be pending.
-- For `natives`, `coming` and `serving`, for the law of runs, and for the answers of functions that ask and choose.
pub mod ReadLemmas
pub mod WeighLemmas
pub mod KnowLemmas
pub mod FewLemmas
