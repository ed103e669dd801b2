-- The code of a part.
use Rattle.std.specs.Prelude.{Bool, ◌&&◌, not, is_ok, Result, Ok, Err, if◌then◌else◌}
use Rattle.bb_basis.specs.Results.{◌>>=◌}
use Rattle.bb_code.specs.Code.{Code}
use Rattle.bb_schema.specs.Ownership.{owns_any}
use Rattle.bb_code.specs.declared.version.Version.{Version}
use Rattle.bb_code.specs.declared.version.Version.TheVariants.{One, Two}
use Rattle.bb_verify_effect.specs.declared.part.Part.{Part}
use Rattle.bb_verify_effect.specs.Part.{ends_done}
use Rattle.bb_code.specs.declared.op.Op.TheVariants.{Done}
use Rattle.bb_schema.specs.Schema.{Schema}
use Rattle.bb_lang.specs.Blocks.{BlockTree}
use Rattle.bb_compile_scope.specs.Place.{Place}
use Rattle.bb_compile_scope.specs.declared.fault.TextFlaw.TheVariants.{NoEnd}
use Rattle.bb_compile_scope.specs.declared.fault.CompileFault.{CompileFault}
use Rattle.bb_compile_scope.specs.declared.fault.CompileFault.TheVariants.{At}
use Rattle.bb_compile_scope.specs.Ending.{block_ends}
use Rattle.bb_compile_buffer.specs.Buffers.{Change, put}
use Rattle.bb_compile_buffer.specs.Finish.{empty_buffer, code_of, if_within}
use Rattle.bb_compile.specs.declared.part.TheConstants.{LOOP_NESTING}
use Rattle.bb_compile.specs.Statements.{block_code}

-- whether the part must end by a statement, but can run past its end
abbrev pub has_no_end : Part → BlockTree → Bool
has_no_end part b = not (is_ok (ends_done part)) && not (block_ends b)

-- a `do` ends after its last statement
abbrev pub done : Part → Change
done part s = if is_ok (ends_done part) then put Done s else Ok s

-- the version of codes for a schema: 2 if a slot owns units, else 1
abbrev pub version_for : Schema → Version
version_for schema = if owns_any schema then Two else One

-- the code of a part that begins at a place
unfoldable pub part_code : Schema → Part → Place → BlockTree → Result Code CompileFault
part_code schema part start b =
    if has_no_end part b then Err (At NoEnd start)
    else (do
      (ended, t) ← block_code schema part LOOP_NESTING b (empty_buffer part start)
      u ← done part t
      if_within u.start (code_of (version_for schema) u))
