-- An empty buffer, and the code of a buffer once everything is emitted.
use Rattle.std.specs.Prelude.{ℕ, map, List, [], ◌∷◌, ◌++◌, length, Option, Some, None, Result, Ok, Err, if◌then◌else◌}
use Rattle.std.specs.List.{range_with_len}
use Rattle.bb_code.specs.Code.{Code}
use Rattle.bb_code.specs.declared.frame.FrameEntry.{FrameEntry}
use Rattle.bb_code.specs.declared.version.Version.{Version}
use Rattle.bb_verify_effect.specs.declared.part.Part.{Part}
use Rattle.bb_verify_effect.specs.Part.{units_of}
use Rattle.bb_compile_scope.specs.Place.{Place}
use Rattle.bb_compile_scope.specs.declared.fault.TextFlaw.TheVariants.{Limit}
use Rattle.bb_compile_scope.specs.declared.fault.CompileFault.{CompileFault}
use Rattle.bb_compile_scope.specs.declared.fault.CompileFault.TheVariants.{At}
use Rattle.bb_compile_scope.specs.LocalKinds.{kind_at}
use Rattle.bb_compile_scope.specs.Scope.{begin_with}
use Rattle.bb_compile_buffer.specs.declared.label.Label.{Label}
use Rattle.bb_compile_buffer.specs.declared.buffer.Buffer.{Buffer}
use Rattle.bb_compile_buffer.specs.Within.{is_within}

-- nothing is emitted yet
abbrev pub empty_buffer : Part → Place → Buffer
empty_buffer part start = record {
  start = start;
  ops = [];
  texts = [];
  queries = [];
  loops = [];
  labels = [];
  last = None;
  scope = begin_with part;
  locals = length (units_of part);
  flaw = None;
}

-- ---- the code of a buffer

-- the frame of a label, for `locals` locals: the stack is empty
abbrev pub frame_of : (locals : ℕ) → Label → FrameEntry
frame_of locals label = record {
  place = label.place;
  frame = record { locals = map (kind_at label.kinds) (range_with_len 0 locals); stack = [] };
}

abbrev pub last_frame : (locals : ℕ) → Option Label → List FrameEntry
last_frame locals None = []
last_frame locals (Some label) = frame_of locals label ∷ []

abbrev pub frames_of : (locals : ℕ) → List Label → Option Label → List FrameEntry
frames_of locals labels last = map (frame_of locals) labels ++ last_frame locals last

-- the code of a buffer, in a version of the format
abbrev pub code_of : Version → Buffer → Code
code_of version s = record {
  version = version;
  locals = s.locals;
  texts = s.texts;
  queries = s.queries;
  frames = frames_of s.locals s.labels s.last;
  loops = s.loops;
  ops = s.ops;
}

-- a code that exceeds another limit is refused at its part
unfoldable pub if_within : Place → Code → Result Code CompileFault
if_within start code = if is_within code then Ok code else Err (At Limit start)
