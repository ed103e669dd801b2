-- For each place, the number of the frame that is declared there.
use Rattle.std.specs.Prelude.{ℕ, List, map, slice_get, Option, None, Some, option_map}
use Rattle.bb_verify.specs.declared.places.Framed.{Framed}
use Rattle.bb_code.specs.declared.frame.FrameEntry.{FrameEntry}
use Rattle.bb_verify_effect.specs.declared.frame.Frame.{Frame}
use Rattle.bb_verify_effect.specs.Frame.{frame_of}

-- the declared frame of this number, if there is one
abbrev pub numbered_frame : List FrameEntry → Option ℕ → Option Frame
numbered_frame frames None = None
numbered_frame frames (Some number) = option_map (λ e. frame_of e.frame) (slice_get frames number)

-- the declared frames of all places
abbrev pub numbered_frames : List FrameEntry → List (Option ℕ) → List (Option Frame)
numbered_frames frames numbers = map (numbered_frame frames) numbers

-- the declared frame of each place, given their numbers
abbrev pub frames_by : Framed → List (Option Frame)
frames_by framed = numbered_frames framed.code.now.frames framed.declared.now
