-- what all kinds of ops need
pub mod KindLemmas
pub mod MoveLemmas
pub mod LiveLemmas
pub mod WeakerLemmas
pub mod UnitLemmas
pub mod EdgeLemmas
pub mod HeldLemmas
pub mod ManyLemmas
-- each kind of op is safe
pub mod plain
pub mod reading
pub mod changing
pub mod jumping
-- the steps of an accepted code, and its execution
pub mod FrameLocals
pub mod AheadLemmas
pub mod SafeSteps
pub mod StandLemmas
pub mod RunLemmas
pub mod EntryLemmas
pub mod AnswerLemmas
-- how many steps can still be made
pub mod rounds
pub mod NeverWrong
pub mod LeftBehind
-- which codes only read, and what crates above use
pub mod WriteLemmas
pub mod Laws
-- what a unit is goes by the unit alone
pub mod UnitSame
