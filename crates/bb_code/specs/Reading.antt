-- Reading a code from its start, with the first fault.
use Rattle.std.specs.Prelude.{ℕ, List, [], ◌∷◌, length, Result, Ok, Err, ◌==◌, if◌then◌else◌}
use Rattle.bb_basis.specs.Results.{◌>>=◌}
use Rattle.bb_code.specs.declared.parts.TheConstants.{LOCAL_LIMIT, TEXT_COUNT_LIMIT, QUERY_LIMIT, FRAME_LIMIT}
use Rattle.bb_code.specs.declared.parts.TheConstants.{LOOP_LIMIT, OP_LIMIT}
use Rattle.bb_code.specs.declared.fault.CodeFault.{CodeFault}
use Rattle.bb_code.specs.declared.fault.CodeFault.TheVariants as faults
use Rattle.bb_code.specs.declared.fault.CodeFault.TheVariants.{Magic, Short, Trailing}
use Rattle.bb_code.specs.declared.version.Version.{Version}
use Rattle.bb_code.specs.declared.version.Version.TheVariants.{One, Two}
use Rattle.bb_code.specs.Code.{Code}
use Rattle.bb_code.specs.Fields.{Field, byte_at, list_at, short_count_at, text_at, frame_at, loop_at}
use Rattle.bb_code.specs.Patterns.{query_at}
use Rattle.bb_code.specs.Ops.{op_at}

-- a byte that is the same in every code
abbrev pub expected_at : ℕ → CodeFault → List ℕ → Result (List ℕ) CodeFault
expected_at wanted fault [] = Err Short
expected_at wanted fault (b ∷ rest) = if b == wanted then Ok rest else Err fault

-- a version: 1 or 2
unfoldable pub version_at : Field Version
version_at bytes = do
  b ← byte_at bytes
  if b.0 == 1 then Ok (One, b.1) else (if b.0 == 2 then Ok (Two, b.1) else Err faults.Version)

-- the letters BBC, and the version
unfoldable pub head_at : Field Version
head_at bytes = do
  first ← expected_at 66 Magic bytes
  second ← expected_at 66 Magic first
  third ← expected_at 67 Magic second
  version_at third

-- a code, and the bytes after it
unfoldable pub code_at : Field Code
code_at bytes = do
  version ← head_at bytes
  locals ← short_count_at 1 LOCAL_LIMIT version.1
  texts ← list_at 0 TEXT_COUNT_LIMIT text_at locals.1
  queries ← list_at 0 QUERY_LIMIT query_at texts.1
  frames ← list_at 0 FRAME_LIMIT (frame_at locals.0) queries.1
  loops ← list_at 0 LOOP_LIMIT loop_at frames.1
  ops ← list_at 1 OP_LIMIT op_at loops.1
  Ok (
    record {
      version = version.0;
      locals = locals.0;
      texts = texts.0;
      queries = queries.0;
      frames = frames.0;
      loops = loops.0;
      ops = ops.0;
    },
    ops.1,
  )

-- a code that uses up all of the bytes
unfoldable pub code_of : List ℕ → Result Code CodeFault
code_of bytes = do
  code ← code_at bytes
  if length code.1 == 0 then Ok code.0 else Err Trailing
