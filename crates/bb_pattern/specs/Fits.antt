-- Whether a pattern or a query fits a schema, or the first fault.
use Rattle.std.specs.Prelude.{ℕ, ◌-◌, ◌||◌, ◌==◌, nat_le, nat_lt, List, length, Option, Some, None, is_some, option_and_then, slice_get, Result, Ok, Err, if◌then◌else◌}
use Rattle.bb_basis.specs.Results.{◌>>=◌, ok_or}
use Rattle.bb_schema.specs.declared.space.Dim.{Dim}
use Rattle.bb_schema.specs.Schema.{Schema, dims_of}
use Rattle.bb_pattern.specs.declared.fault.PatternFault.{PatternFault}
use Rattle.bb_pattern.specs.declared.fault.PatternFault.TheVariants.{Dimension, Operand, Space, Limit}
use Rattle.bb_pattern.specs.declared.fits.TheConstants.{NODE_LIMIT, OPERAND_LIMIT}
use Rattle.bb_pattern.specs.declared.query.Query.{Query}
use Rattle.bb_pattern.specs.declared.value.OperandKind.{OperandKind}
use Rattle.bb_pattern.specs.declared.value.OperandKind.TheVariants.{Interval, Label}
use Rattle.bb_pattern.specs.Trees.{Tree, Trees, all, and_of, or_of, not_of, ordered, is_label, no_more, more, node_count, nodes_count}

-- the dimension exists and is ordered: it has no label set
abbrev pub ordered_due : Option Dim → Result (Unit {0}) PatternFault
ordered_due None = Err Dimension
ordered_due (Some d) = if is_some d.set then Err Dimension else Ok tt

-- the operand exists and is an interval
abbrev pub interval_due : Option OperandKind → Result (Unit {0}) PatternFault
interval_due (Some Interval) = Ok tt
interval_due _ = Err Operand

-- the operand exists and is a label of the set
abbrev pub label_due : ℕ → Option OperandKind → Result (Unit {0}) PatternFault
label_due set (Some (Label of)) = if of == set then Ok tt else Err Operand
label_due set _ = Err Operand

-- a test of an ordered dimension
unfoldable pub ordered_fits : List Dim → List OperandKind → ℕ → ℕ → Result (Unit {0}) PatternFault
ordered_fits dims kinds dim operand = ordered_due (slice_get dims dim) >>= λ _. interval_due (slice_get kinds operand)

-- a test of an enumerated dimension
unfoldable pub is_fits : List Dim → List OperandKind → ℕ → ℕ → Result (Unit {0}) PatternFault
is_fits dims kinds dim operand =
    ok_or (option_and_then (λ d. d.set) (slice_get dims dim)) Dimension >>= λ set.
    label_due set (slice_get kinds operand)

-- all tests of a pattern, in order, for a space with these dimensions and a query with these operands
unfoldable mutual
  pub tests_fit : List Dim → List OperandKind → Tree → Result (Unit {0}) PatternFault
  tests_fit dims kinds all = Ok tt
  tests_fit dims kinds (and_of ps) = all_tests_fit dims kinds ps
  tests_fit dims kinds (or_of ps) = all_tests_fit dims kinds ps
  tests_fit dims kinds (not_of p) = tests_fit dims kinds p
  tests_fit dims kinds (ordered relation dim operand) = ordered_fits dims kinds dim operand
  tests_fit dims kinds (is_label dim operand) = is_fits dims kinds dim operand

  pub all_tests_fit : List Dim → List OperandKind → Trees → Result (Unit {0}) PatternFault
  all_tests_fit dims kinds no_more = Ok tt
  all_tests_fit dims kinds (more p ps) = tests_fit dims kinds p >>= λ _. all_tests_fit dims kinds ps

-- the number less a count, or none if the count is larger
abbrev pub left_of : ℕ → ℕ → Option ℕ
left_of room count = if nat_le count room then Some (room - count) else None

-- the number less the nodes of a pattern
abbrev pub room_after : ℕ → Tree → Option ℕ
room_after room p = left_of room (node_count p)

abbrev pub rooms_after : ℕ → Trees → Option ℕ
rooms_after room ps = left_of room (nodes_count ps)

-- whether a pattern fits a query for a class in a space, with operands of these kinds, or the first fault
unfoldable pub pattern_fits : Schema → ℕ → ℕ → List OperandKind → Tree → Result (Unit {0}) PatternFault
pattern_fits s class space kinds p =
    if nat_le (length s.spaces) space || nat_le (length s.classes) class then Err Space
    else if nat_lt NODE_LIMIT (node_count p) || nat_lt OPERAND_LIMIT (length kinds) then Err Limit
    else tests_fit (dims_of s space) kinds p

-- whether a query fits
abbrev pub query_fits : Schema → Query → Result (Unit {0}) PatternFault
query_fits s q = pattern_fits s q.class q.space q.kinds q.pattern
