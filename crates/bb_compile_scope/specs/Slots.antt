-- What the names of slots and dimensions mean.
use Rattle.std.specs.Prelude.{ℕ, Bool, nat_lt, List, map, position, slice_get, Option, Some, None, option_and_then, option_map, Result, Ok, Err, if◌then◌else◌}
use Rattle.std.specs.Str.{bytes_eq}
use Rattle.bb_basis.specs.Results.{◌>>=◌, ok_or}
use Rattle.bb_schema_classes.specs.declared.kind.Kind.{Kind as SlotKind}
use Rattle.bb_schema_classes.specs.declared.kind.Kind.TheVariants as held
use Rattle.bb_schema_classes.specs.declared.kind.Link.{Link}
use Rattle.bb_schema.specs.declared.space.Dim.{Dim}
use Rattle.bb_schema.specs.Schema.{Schema, slot_named, kind_of_slot, dims_of}
use Rattle.bb_code.specs.declared.frame.Kind.{Kind}
use Rattle.bb_code.specs.declared.frame.Kind.TheVariants as kinds
use Rattle.bb_lang_tree.specs.declared.atom.Relation.{Relation}
use Rattle.bb_lang_tree.specs.declared.atom.Relation.TheVariants.{Is}
use Rattle.bb_compile_scope.specs.declared.fault.TextFlaw.{TextFlaw}
use Rattle.bb_compile_scope.specs.declared.fault.TextFlaw.TheVariants.{Unknown, Kind as WrongKind}

-- a slot, with what it can hold
abbrev pub with_kind : Schema → ℕ → Option (ℕ × SlotKind)
with_kind s slot = option_map (λ kind. (slot, kind)) (kind_of_slot s slot)

-- the slot with a name in a class, with what it can hold
unfoldable pub slot_of : Schema → (class : ℕ) → (name : List ℕ) → Result (ℕ × SlotKind) TextFlaw
slot_of s class name = ok_or (slot_named s class name) Unknown >>= λ slot. ok_or (with_kind s slot) Unknown

-- an ordinary slot, with the kind of its values
abbrev pub value_in : ℕ → SlotKind → Result (ℕ × Kind) TextFlaw
value_in slot held.Int = Ok (slot, kinds.Int)
value_in slot held.Text = Ok (slot, kinds.Text)
value_in slot held.Bool = Ok (slot, kinds.Bool)
value_in slot (held.Label set) = Ok (slot, kinds.Label set)
value_in slot held.Interval = Ok (slot, kinds.Interval)
value_in slot (held.Link link) = Err WrongKind

-- a link slot, with its link
abbrev pub link_in : ℕ → SlotKind → Result (ℕ × Link) TextFlaw
link_in slot (held.Link link) = Ok (slot, link)
link_in slot _ = Err WrongKind

-- a link slot that holds one unit at most, with the unit's class
abbrev pub partner_in : ℕ → Link → Result (ℕ × ℕ) TextFlaw
partner_in slot link = if link.many then Err WrongKind else Ok (slot, link.to)

-- the ordinary slot with a name
unfoldable pub value_slot : Schema → (class : ℕ) → (name : List ℕ) → Result (ℕ × Kind) TextFlaw
value_slot s class name = slot_of s class name >>= λ p. value_in p.0 p.1

-- the link slot with a name
unfoldable pub link_slot : Schema → (class : ℕ) → (name : List ℕ) → Result (ℕ × Link) TextFlaw
link_slot s class name = slot_of s class name >>= λ p. link_in p.0 p.1

-- the singular link slot with a name
unfoldable pub partner_slot : Schema → (class : ℕ) → (name : List ℕ) → Result (ℕ × ℕ) TextFlaw
partner_slot s class name = link_slot s class name >>= λ p. partner_in p.0 p.1

-- ---- dimensions

-- the index of the dimension with a name
abbrev pub index_of : List Dim → (name : List ℕ) → Option ℕ
index_of dims name = position (λ d. bytes_eq d.name name) dims

-- a number, if it fits in one byte
abbrev pub in_byte : ℕ → Option ℕ
in_byte n = if nat_lt n 256 then Some n else None

-- the kind that the operand of a relation must have, on a dimension with this label set, or with none
abbrev pub operand_due : Relation → (set : Option ℕ) → Option Kind
operand_due Is (Some set) = Some (kinds.Label set)
operand_due Is None = None
operand_due _ (Some set) = None
operand_due _ None = Some kinds.Interval

-- the dimension at an index, with the kind that the operand must have
abbrev pub dimension_at : List Dim → Relation → ℕ → Option (ℕ × Kind)
dimension_at dims relation index =
    option_and_then (λ d. option_and_then (λ due. option_map (λ n. (n, due)) (in_byte index)) (operand_due relation d.set))
    (slice_get dims index)

-- the dimension with a name in a space, with the kind that the operand must have
unfoldable pub dimension : Schema → (space : ℕ) → (name : List ℕ) → Relation → Option (ℕ × Kind)
dimension s space name relation =
    option_and_then (dimension_at (dims_of s space) relation) (index_of (dims_of s space) name)
