-- tables, and the operands that index them
pub mod Tables
-- the frames of all places
pub mod Places
-- the step budget
pub mod Budget
-- which codes are accepted
pub mod Accepted
-- what holds at every place of an accepted code
pub mod Facts
-- only for models
pub mod proving
-- where ops may jump
pub use Rattle.bb_verify.specs.nesting.Jumps
pub use Rattle.bb_verify.specs.nesting.Loops
pub use Rattle.bb_verify.specs.declared.nesting.loops.TheConstants as LoopLimits
-- the effects of ops on frames
pub use Rattle.bb_verify_effect.specs.Due
pub use Rattle.bb_verify_effect.specs.Edges
pub use Rattle.bb_verify_effect.specs.Effect
-- frames and parts
pub use Rattle.bb_verify_effect.specs.Part
pub use Rattle.bb_verify_effect.specs.Stack
pub use Rattle.bb_verify_effect.specs.Frame
pub use Rattle.bb_verify_effect.specs.Kinds
pub use Rattle.bb_verify_effect.specs.declared.frame.Frame as FrameType
pub use Rattle.bb_verify_effect.specs.declared.part.Part as PartType
-- checks in sequence, and the faults of a code
pub use Rattle.bb_verify_effect.specs.Each
pub use Rattle.bb_verify_effect.specs.Flaws
pub use Rattle.bb_verify_effect.specs.Flaw
pub use Rattle.bb_verify_effect.specs.VerifyFault
-- where the ops of a code may jump: ahead, and back to the head of a loop, with loops nested
pub mod nesting
