pub mod PairLemmas
pub mod CutLemmas
pub mod FitLemmas
pub mod StampLemmas
pub mod ListedLemmas
pub mod RowLemmas
pub mod FollowLemmas
pub mod ClearLemmas
pub mod ChangeLemmas
pub mod StandingLemmas
pub mod LayoutLemmas
mod Rows
pub mod TakenLemmas
pub mod Laws
