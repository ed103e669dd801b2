-- Checks on the operands of ops: their kinds, and what the schema requires (of this project).
use Rattle.std.specs.Prelude.{ℕ, false, List, ◌∷◌, Option, Some, None, Result, Ok, Err, nat_lt, length}
use Rattle.std.specs.Prelude.{if◌then◌else◌}
use Rattle.std.specs.Option.{option_map_or}
use Rattle.bb_basis.specs.Results.{◌>>=◌, ok_or}
use Rattle.bb_schema_classes.specs.declared.kind.Kind.{Kind as SlotKind}
use Rattle.bb_schema_classes.specs.declared.kind.Kind.TheVariants as slots
use Rattle.bb_schema_classes.specs.declared.kind.Link.{Link}
use Rattle.bb_schema.specs.Schema.{Schema, descends, owner_of, kind_of_slot}
use Rattle.bb_schema.specs.Spaces.{allowed}
use Rattle.bb_code.specs.Fits.{query_fits}
use Rattle.bb_code.specs.Query.{Query}
use Rattle.bb_code.specs.OperandKind.{OperandKind}
use Rattle.bb_code.specs.OperandKind.TheVariants as operands
use Rattle.bb_code.specs.declared.frame.Kind.{Kind}
use Rattle.bb_code.specs.declared.frame.Kind.TheVariants.{Any, Int, Text, Bool as Truth, Label, Interval, Ref, Old, Seq}
use Rattle.bb_code.specs.declared.flaw.Flaw.{Flaw}
use Rattle.bb_code.specs.declared.flaw.Flaw.TheVariants as flaws
use Rattle.bb_verify_effect.specs.Kinds.{is_same_plain}

-- ---- the kinds of operands

-- the operand has this kind, which is not the kind of a unit or a sequence
abbrev pub due : Kind → Kind → Result (Unit {0}) Flaw
due k operand = if is_same_plain k operand then Ok tt else Err flaws.Kind

-- the set of a label
abbrev pub label_of : Kind → Result ℕ Flaw
label_of (Label set) = Ok set
label_of _ = Err flaws.Kind

-- the class of a unit, live or old
abbrev pub class_of : Kind → Result ℕ Flaw
class_of (Ref class) = Ok class
class_of (Old class) = Ok class
class_of _ = Err flaws.Kind

-- a unit is live; other kinds pass
abbrev pub live : Kind → Result (Unit {0}) Flaw
live (Old class) = Err flaws.Dead
live _ = Ok tt

-- the class of the units of a sequence
abbrev pub sequence_of : Kind → Result ℕ Flaw
sequence_of (Seq class) = Ok class
sequence_of _ = Err flaws.Kind

-- the kind, if a value of it can be copied: it is known and not a sequence
abbrev pub copy_of : Kind → Result Kind Flaw
copy_of Any = Err flaws.Kind
copy_of (Seq class) = Err flaws.Kind
copy_of k = Ok k

-- the kind is not a sequence
abbrev pub sayable : Kind → Result (Unit {0}) Flaw
sayable (Seq class) = Err flaws.Kind
sayable k = Ok tt

-- an operand of a query
abbrev pub operand_due : OperandKind → Kind → Result (Unit {0}) Flaw
operand_due operands.Interval k = due Interval k
operand_due (operands.Label set) k = due (Label set) k

-- the operands of a query, one for each kind
unfoldable pub operands_due : List OperandKind → List Kind → Result (Unit {0}) Flaw
operands_due (o ∷ os) (k ∷ ks) = operand_due o k >>= λ _. operands_due os ks
operands_due _ _ = Ok tt

-- ---- what the schema requires

-- what a slot holds, if the class has the slot
unfoldable pub held_in : Schema → (class slot : ℕ) → Option SlotKind
held_in s class slot =
    if option_map_or (descends s class) (owner_of s slot) false then kind_of_slot s slot else None

-- the kind of the values of an ordinary slot
abbrev pub plain_kind : SlotKind → Option Kind
plain_kind slots.Int = Some Int
plain_kind slots.Text = Some Text
plain_kind slots.Bool = Some Truth
plain_kind (slots.Label set) = Some (Label set)
plain_kind slots.Interval = Some Interval
plain_kind (slots.Link l) = None

abbrev pub link_kind : SlotKind → Option Link
link_kind (slots.Link l) = Some l
link_kind _ = None

-- the kind of the values of an ordinary slot of a class
unfoldable pub plain_slot : Schema → (class slot : ℕ) → Result Kind Flaw
plain_slot s class slot = do
  held ← ok_or (held_in s class slot) flaws.Slot
  ok_or (plain_kind held) flaws.Slot

-- the link of a link slot of a class
unfoldable pub link_slot : Schema → (class slot : ℕ) → Result Link Flaw
link_slot s class slot = do
  held ← ok_or (held_in s class slot) flaws.Slot
  ok_or (link_kind held) flaws.Slot

-- the link of a singular link slot of a class
unfoldable pub single_slot : Schema → (class slot : ℕ) → Result Link Flaw
single_slot s class slot = do
  link ← link_slot s class slot
  if link.many then Err flaws.Slot else Ok link

-- the kind of a value for an ordinary slot; if `plain_slot` finds a flaw, any kind passes
unfoldable pub value_due : Schema → (class slot : ℕ) → Kind → Result (Unit {0}) Flaw
value_due s class slot k = elim (plain_slot s class slot) [ Ok held ↦ due held k | Err _ ↦ Ok tt ]

-- units of the class can be partners by a link to class `to`
unfoldable pub partner_due : Schema → (class to : ℕ) → Result (Unit {0}) Flaw
partner_due s class to = if descends s class to then Ok tt else Err flaws.LinkClass

-- units of the class may enter the space
unfoldable pub space_due : Schema → (space class : ℕ) → Result (Unit {0}) Flaw
space_due s space class = if allowed s space class then Ok tt else Err flaws.Space

-- the space exists
unfoldable pub known_space : Schema → ℕ → Result (Unit {0}) Flaw
known_space s space = if nat_lt space (length s.spaces) then Ok tt else Err flaws.Space

-- the query fits the schema
unfoldable pub query_due : Schema → Query → Result (Unit {0}) Flaw
query_due s q = elim (query_fits s q) [ Ok _ ↦ Ok tt | Err _ ↦ Err flaws.Query ]
