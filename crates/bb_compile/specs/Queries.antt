-- Queries that are being emitted: their operands so far, and how many more nodes their patterns may have.
use Rattle.std.specs.Prelude.{ℕ, ◌==◌, ◌-◌, nat_le, List, [], ◌∷◌, ◌++◌, length, Option, Some, None, Result, Ok, Err, if◌then◌else◌}
use Rattle.bb_basis.specs.Results.{◌>>=◌}
use Rattle.bb_pattern.specs.declared.fits.TheConstants.{NODE_LIMIT, OPERAND_LIMIT}
use Rattle.bb_pattern.specs.declared.value.OperandKind.{OperandKind}
use Rattle.bb_pattern.specs.declared.value.OperandKind.TheVariants as operands
use Rattle.bb_pattern.specs.declared.pattern.Relation.TheVariants as holding
use Rattle.bb_pattern.specs.Trees.{Tree, all, ordered, is_label}
use Rattle.bb_code.specs.declared.frame.Kind.{Kind}
use Rattle.bb_code.specs.declared.frame.Kind.TheVariants as kinds
use Rattle.bb_code.specs.declared.op.Op.TheVariants.{Find, Links}
use Rattle.bb_schema.specs.Schema.{Schema, class_named, space_named}
use Rattle.bb_lang.specs.Relation.{Relation}
use Rattle.bb_lang.specs.Relation.TheVariants as relations
use Rattle.bb_lang.specs.Variable.{Variable}
use Rattle.bb_schema_classes.specs.declared.kind.Link.{Link}
use Rattle.bb_compile_scope.specs.declared.fault.TextFlaw.{TextFlaw}
use Rattle.bb_compile_scope.specs.declared.fault.TextFlaw.TheVariants.{Unknown, Limit}
use Rattle.bb_compile_scope.specs.Slots.{link_slot, dimension}
use Rattle.bb_compile.specs.declared.asked.Asked.{Asked}
use Rattle.bb_compile_buffer.specs.declared.buffer.Buffer.{Buffer}
use Rattle.bb_compile_buffer.specs.Buffers.{Step, noted, due, put, put_value, asked_query}
use Rattle.bb_compile_buffer.specs.Operations.{Made}
use Rattle.bb_compile_buffer.specs.Atoms.{unit_code}

-- a query without operands
abbrev pub no_operand : Asked
no_operand = record { kinds = []; nodes = NODE_LIMIT }

-- counts a node; one too many is a flaw
abbrev pub node_counted : Asked → Asked
node_counted asked = record { kinds = asked.kinds; nodes = asked.nodes - 1 }

abbrev pub node_noted : Asked → Buffer → Buffer
node_noted asked s = if asked.nodes == 0 then noted Limit s else s

-- the operand kind for a kind
abbrev pub operand_kind : Kind → OperandKind
operand_kind (kinds.Label set) = operands.Label set
operand_kind _ = operands.Interval

-- adds an operand of a kind, if it fits
abbrev pub with_operand : Kind → Asked → Asked
with_operand kind asked = if nat_le OPERAND_LIMIT (length asked.kinds) then asked else record { kinds = asked.kinds ++ operand_kind kind ∷ []; nodes = asked.nodes }

-- the number of an added operand, if it fits; one that does not is a flaw
abbrev pub operand_number : Asked → ℕ
operand_number asked = if nat_le OPERAND_LIMIT (length asked.kinds) then 0 else length asked.kinds

abbrev pub operand_noted : Asked → Buffer → Buffer
operand_noted asked s = if nat_le OPERAND_LIMIT (length asked.kinds) then noted Limit s else s

-- a test of a dimension by an operand
abbrev pub test_tree : Relation → (dim operand : ℕ) → Tree
test_tree relations.Within = ordered holding.Within
test_tree relations.Covers = ordered holding.Covers
test_tree relations.Overlaps = ordered holding.Overlaps
test_tree relations.Less = ordered holding.Less
test_tree relations.More = ordered holding.More
test_tree relations.Is = is_label

-- a pattern, the query after it, and the buffer
abbrev pub Patterned : Type 0 → Type 0
Patterned X = X × Asked × Buffer

abbrev pub test_at : Relation → Option (ℕ × Kind) → Made → Asked → Buffer → Patterned Tree
test_at relation None operand asked s = (all, asked, noted Unknown s)
test_at relation (Some dim) operand asked s =
    (test_tree relation dim.0 (operand_number asked), with_operand dim.1 asked, operand_noted asked (due operand dim.1 s))

-- a test, after its operand
unfoldable pub test_code : Schema → (space : Option ℕ) → (dim : List ℕ) → Relation → Made → Asked → Buffer → Patterned Tree
test_code schema None dim relation operand asked s = (all, asked, s)
test_code schema (Some space) dim relation operand asked s = test_at relation (dimension schema space dim relation) operand asked s

-- a query, after its operands
unfoldable pub query_code : (class space : Option ℕ) → Asked → Tree → (room : ℕ) → Step (Option ℕ)
query_code (Some class) (Some space) asked pattern room s = do
  (index, t) ← asked_query (record { class = class; space = space; kinds = asked.kinds; pattern = pattern }) s
  u ← put_value (Find index) room t
  Ok (Some class, u)
query_code class space asked pattern room s = Ok (class, s)

abbrev pub linked_by : Result (ℕ × Link) TextFlaw → Step (Option ℕ)
linked_by (Err flaw) s = Ok (None, noted flaw s)
linked_by (Ok slot) s = do
  t ← put (Links slot.0) s
  Ok (Some slot.1.to, t)

abbrev pub linked_from : Schema → (slot : List ℕ) → Option ℕ → Step (Option ℕ)
linked_from schema slot None s = Ok (None, s)
linked_from schema slot (Some class) s = linked_by (link_slot schema class slot) s

-- the units that a unit is linked to
unfoldable pub links_code : Schema → Variable → (slot : List ℕ) → (room : ℕ) → Step (Option ℕ)
links_code schema unit slot room s = do
  (class, t) ← unit_code unit room s
  linked_from schema slot class t
