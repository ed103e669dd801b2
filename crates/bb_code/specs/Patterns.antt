-- Reading a query and its pattern at the start of bytes.
use Rattle.std.specs.Prelude.{ℕ, zero, suc, List, Result, Ok, Err, ◌==◌, if◌then◌else◌, slice_get}
use Rattle.bb_basis.specs.Results.{◌>>=◌, ok_or}
use Rattle.bb_pattern.specs.declared.fits.TheConstants.{NODE_LIMIT, OPERAND_LIMIT}
use Rattle.bb_pattern.specs.declared.query.Query.{Query}
use Rattle.bb_pattern.specs.declared.value.OperandKind.{OperandKind}
use Rattle.bb_pattern.specs.declared.value.OperandKind.TheVariants.{Interval, Label}
use Rattle.bb_pattern.specs.Trees.{Tree, all, and_of, or_of, not_of, ordered, is_label}
use Rattle.bb_pattern.specs.View.{trees_of}
use Rattle.bb_code.specs.declared.fault.CodeFault.{CodeFault}
use Rattle.bb_code.specs.declared.fault.CodeFault.TheVariants.{Operand, Limit}
use Rattle.bb_code.specs.declared.table.NodeForm.{NodeForm}
use Rattle.bb_code.specs.declared.table.NodeForm.TheVariants as forms
use Rattle.bb_code.specs.declared.table.TheConstants.{NODES}
use Rattle.bb_code.specs.Fields.{Field, byte_at, number_at, repeated, short_list_at}

-- a label of a set
abbrev pub label_at : Field OperandKind
label_at bytes = do
  set ← number_at bytes
  Ok (Label set.0, set.1)

-- the kind that an operand must have
unfoldable pub operand_kind_at : Field OperandKind
operand_kind_at bytes = do
  tag ← byte_at bytes
  if tag.0 == 0 then Ok (Interval, tag.1) else
      (if tag.0 == 1 then label_at tag.1 else Err Operand)

-- the number of nodes that a pattern may still have, and the bytes that are left
abbrev pub Ahead : Type 0
Ahead = ℕ × List ℕ

-- a reader of one pattern
abbrev pub Reader : Type 0
Reader = Ahead → Result (Tree × Ahead) CodeFault

-- the parts of a node: their number, and then that number of patterns
unfoldable pub parts_at : Reader → Ahead → Result (List Tree × Ahead) CodeFault
parts_at part at = do
  count ← byte_at at.1
  repeated part count.0 (at.0, count.1)

-- a dimension and an operand
unfoldable pub test_at : (ℕ → ℕ → Tree) → Reader
test_at test at = do
  dim ← byte_at at.1
  operand ← byte_at dim.1
  Ok (test dim.0 operand.0, (at.0, operand.1))

-- what follows the byte of a node, if `part` reads its parts
unfoldable pub node_after : Reader → NodeForm → Reader
node_after part forms.All at = Ok (all, at)
node_after part forms.And at = do
  parts ← parts_at part at
  Ok (and_of (trees_of parts.0), parts.1)
node_after part forms.Or at = do
  parts ← parts_at part at
  Ok (or_of (trees_of parts.0), parts.1)
node_after part forms.Not at = do
  one ← part at
  Ok (not_of one.0, one.1)
node_after part (forms.Ordered relation) at = test_at (ordered relation) at
node_after part forms.Is at = test_at is_label at

-- a node: its byte, then what follows it
unfoldable pub node_at : Reader → Reader
node_at part at = do
  tag ← byte_at at.1
  form ← ok_or (slice_get NODES tag.0) Operand
  node_after part form (at.0, tag.1)

-- a pattern of at most as many levels as the first number
unfoldable pub pattern_at : ℕ → Reader
pattern_at zero at = Err Limit
pattern_at (suc depth) (zero, bytes) = Err Limit
pattern_at (suc depth) (suc room, bytes) = node_at (pattern_at depth) (room, bytes)

-- a query: class, space, operands and pattern; no pattern has more levels than nodes
unfoldable pub query_at : Field Query
query_at bytes = do
  class ← number_at bytes
  space ← number_at class.1
  kinds ← short_list_at OPERAND_LIMIT operand_kind_at space.1
  pattern ← pattern_at NODE_LIMIT (NODE_LIMIT, kinds.1)
  Ok (record { class = class.0; space = space.0; kinds = kinds.0; pattern = pattern.0 }, pattern.1.1)
