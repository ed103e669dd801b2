pub mod OperandLemmas
pub mod EffectLemmas
-- what an effect without a flaw says of the frames of an op
pub mod DueInversion
pub mod FrameInversion
pub mod EffectInversion
pub mod EdgeInversion
-- what crates above use
pub mod Laws
pub mod StackLemmas
pub mod KindLemmas
pub mod PackedLemmas
