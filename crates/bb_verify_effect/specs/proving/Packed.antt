-- How the frames of places are stored.
use Rattle.std.specs.Prelude.{◌≡◌, ◌≤◌, ◌-◌, ◌++◌, ℕ, List, take, drop, reverse}
use Rattle.bb_code.specs.declared.frame.Kind.{Kind}
use Rattle.bb_verify_effect.specs.declared.frame.Frame.{Frame}
use Rattle.bb_verify_effect.specs.declared.packed_frames.Span.{Span}
use Rattle.bb_verify_effect.specs.declared.packed_frames.Stretch.{Stretch}

-- the kinds stored in a stretch
abbrev pub stretch_in : List Kind → Stretch → List Kind
stretch_in kinds s = take (s.end - s.start) (drop s.start kinds)

-- the frame stored in a span
abbrev pub frame_in : List Kind → Span → Frame
frame_in kinds s = record { locals = stretch_in kinds s.locals; stack = reverse (stretch_in kinds s.stack) }

-- a stretch of at most `most` of `count` kinds
pub record IsStretch (count most : ℕ) (s : Stretch) : Type 0 where
  pub rising : s.start ≤ s.end
  pub few : s.end - s.start ≤ most
  pub inside : s.end ≤ count

-- a frame can be stored in a span of `count` kinds
pub record Lies (count : ℕ) (s : Span) : Type 0 where
  pub locals : IsStretch count 32 s.locals
  pub stack : IsStretch count 64 s.stack

-- kinds are only added after those that are stored
abbrev pub Grows : (old new : List Kind) → Type 0
Grows old new = (added : List Kind) × (new ≡ old ++ added)
