-- The warnings of a code: first those of its ops, in order, then those of its queries.
use Rattle.std.specs.Prelude.{ℕ, List, ◌++◌, map, length, slice_get, Option, Some, None, option_and_then, if◌then◌else◌}
use Rattle.std.specs.List.{filter, filter_map, range_with_len}
use Rattle.bb_schema.specs.Schema.{Schema}
use Rattle.bb_code.specs.Code.{Code}
use Rattle.bb_code.specs.declared.op.Op.{Op}
use Rattle.bb_verify.specs.Accepted.{Checked}
use Rattle.bb_lint.specs.declared.warning.Warning.{Warning}
use Rattle.bb_lint.specs.declared.warning.Warning.TheVariants as warnings
use Rattle.bb_lint.specs.Tests.{is_vain_at}
use Rattle.bb_lint.specs.Finds.{finds_nothing}
use Rattle.bb_lint.specs.Unused.{is_unused}

-- the warning of an op at an index, if there is one
abbrev pub warning_of : Schema → Checked → ℕ → Op → Option Warning
warning_of s c place op =
    if is_vain_at s c place op then Some (warnings.Test place) else
    if finds_nothing s c.code op then Some (warnings.Find place) else None

-- the warning at an index
abbrev pub warning_at : Schema → Checked → ℕ → Option Warning
warning_at s c place = option_and_then (warning_of s c place) (slice_get c.code.ops place)

abbrev pub op_warnings : Schema → Checked → List Warning
op_warnings s c = filter_map (warning_at s c) (range_with_len 0 (length c.code.ops))

abbrev pub query_warnings : Code → List Warning
query_warnings code = map warnings.Unused (filter (is_unused code) (range_with_len 0 (length code.queries)))

abbrev pub code_warnings : Schema → Checked → List Warning
code_warnings s c = op_warnings s c ++ query_warnings c.code
