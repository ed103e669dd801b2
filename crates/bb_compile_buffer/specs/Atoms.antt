-- Expressions without parts.
use Rattle.std.specs.Prelude.{ℕ, Bool, nat_le, List, length, Option, Some, None, Result, Ok, Err, if◌then◌else◌}
use Rattle.bb_basis.specs.Results.{◌>>=◌}
use Rattle.bb_code.specs.declared.parts.TheConstants.{TEXT_BYTES_LIMIT}
use Rattle.bb_code.specs.declared.frame.Kind.{Kind}
use Rattle.bb_code.specs.declared.frame.Kind.TheVariants as kinds
use Rattle.bb_code.specs.declared.op.Op.{Op}
use Rattle.bb_code.specs.declared.op.Op.TheVariants as ops
use Rattle.bb_verify_effect.specs.Schema.{Schema, label_set_named, label_named}
use Rattle.bb_lang.specs.Atom.{Atom}
use Rattle.bb_lang.specs.Atom.TheVariants as atoms
use Rattle.bb_lang.specs.Variable.{Variable}
use Rattle.bb_compile_scope.specs.declared.fault.TextFlaw.{TextFlaw}
use Rattle.bb_compile_scope.specs.declared.fault.TextFlaw.TheVariants.{Unknown, Kind as WrongKind, DeadName, Limit}
use Rattle.bb_compile_scope.specs.Kinds.{class_of, is_live}
use Rattle.bb_compile_scope.specs.LocalKinds.{kind_at}
use Rattle.bb_compile_scope.specs.Scope.{name_of, local_of}
use Rattle.bb_compile_scope.specs.Slots.{value_slot}
use Rattle.bb_compile_buffer.specs.declared.buffer.Buffer.{Buffer}
use Rattle.bb_compile_buffer.specs.Buffers.{Step, Change, noted, put, put_value, text_index}
use Rattle.bb_compile_buffer.specs.Operations.{Made}

-- an op that pushes a value of a kind
unfoldable pub pushed : Op → (gives : Kind) → (room : ℕ) → Step Made
pushed op gives room s = do
  t ← put_value op room s
  Ok (Some gives, t)

abbrev pub loaded : Option ℕ → (room : ℕ) → Step Made
loaded None room s = Ok (None, noted Unknown s)
loaded (Some local) room s = do
  t ← put_value (ops.Load local) room s
  Ok (Some (kind_at t.scope.kinds local), t)

-- what a name holds
unfoldable pub variable_code : Variable → (room : ℕ) → Step Made
variable_code v room s = loaded (local_of s.scope (name_of v)) room s

abbrev pub live_unit : Option ℕ → (live : Bool) → Step (Option ℕ)
live_unit None live s = Ok (None, noted WrongKind s)
live_unit (Some class) live s = Ok (Some class, if live then s else noted DeadName s)

-- the class of a unit, which must be live
abbrev pub unit_of : Made → Step (Option ℕ)
unit_of None s = Ok (None, s)
unit_of (Some kind) s = live_unit (class_of kind) (is_live kind) s

-- the unit of a name, which must be live
unfoldable pub unit_code : Variable → (room : ℕ) → Step (Option ℕ)
unit_code v room s = do
  (kind, t) ← variable_code v room s
  unit_of kind t

abbrev pub gotten : Result (ℕ × Kind) TextFlaw → Step Made
gotten (Err flaw) s = Ok (None, noted flaw s)
gotten (Ok slot) s = do
  t ← put (ops.Get slot.0) s
  Ok (Some slot.1, t)

abbrev pub got_from : Schema → (slot : List ℕ) → Option ℕ → Step Made
got_from schema slot None s = Ok (None, s)
got_from schema slot (Some class) s = gotten (value_slot schema class slot) s

-- the value that a unit has in a slot
unfoldable pub slot_code : Schema → Variable → (slot : List ℕ) → (room : ℕ) → Step Made
slot_code schema unit slot room s = do
  (class, t) ← unit_code unit room s
  got_from schema slot class t

-- a text that is too long is a flaw
abbrev pub text_noted : (text : List ℕ) → Buffer → Buffer
text_noted text s = if nat_le (length text) TEXT_BYTES_LIMIT then s else noted Limit s

-- a text
unfoldable pub text_code : (text : List ℕ) → (room : ℕ) → Step Made
text_code text room s = do
  (index, t) ← text_index text (text_noted text s)
  pushed (ops.PushText index) kinds.Text room t

abbrev pub label_of : (set : ℕ) → Option ℕ → (room : ℕ) → Step Made
label_of set None room s = Ok (Some (kinds.Label set), noted Unknown s)
label_of set (Some label) room s = pushed (ops.PushLabel set label) (kinds.Label set) room s

abbrev pub label_in : Schema → (label : List ℕ) → Option ℕ → (room : ℕ) → Step Made
label_in schema label None room s = Ok (None, noted Unknown s)
label_in schema label (Some set) room s = label_of set (label_named schema set label) room s

-- a label of a set
unfoldable pub label_code : Schema → (set label : List ℕ) → (room : ℕ) → Step Made
label_code schema set label room s = label_in schema label (label_set_named schema set) room s

-- an expression without parts, with room for `room` values on the stack
unfoldable pub atom_code : Schema → (room : ℕ) → Atom → Step Made
atom_code schema room (atoms.Int n) s = pushed (ops.PushInt n) kinds.Int room s
atom_code schema room (atoms.Text text) s = text_code text room s
atom_code schema room (atoms.Bool b) s = pushed (ops.PushBool b) kinds.Bool room s
atom_code schema room (atoms.Label set label) s = label_code schema set label room s
atom_code schema room (atoms.Variable v) s = variable_code v room s
atom_code schema room (atoms.Slot unit slot) s = slot_code schema unit slot room s
