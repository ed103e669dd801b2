-- How long runs are: what a longer limit adds, how many cycles each part makes, and two stretches as one.
-- For `phases` and `coming`, for the law of runs and the answer of `make_cycles`, and for `Laws`.
pub mod LimitLemmas
pub mod CountLemmas
pub mod CycleCounts
pub mod EarlyLemmas
pub mod MeetLemmas
