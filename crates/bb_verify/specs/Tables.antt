-- The tables of a code, and the operands that index them (of this project).
use Rattle.std.specs.Prelude.{ℕ, ◌+◌, nat_le, nat_lt, ◌||◌, List, [], ◌∷◌, length, slice_get, Some, None, Result}
use Rattle.std.specs.Prelude.{Ok, Err, if◌then◌else◌}
use Rattle.bb_basis.specs.Results.{◌>>=◌, map_err}
use Rattle.bb_schema.specs.Ownership.{owns_any}
use Rattle.bb_code.specs.declared.version.Version.{Version}
use Rattle.bb_code.specs.declared.version.Version.TheVariants.{One, Two}
use Rattle.bb_schema.specs.Schema.{Schema, name_of_label}
use Rattle.bb_code.specs.Code.{Code, places}
use Rattle.bb_code.specs.declared.frame.FrameEntry.{FrameEntry}
use Rattle.bb_code.specs.declared.frame.Kind.{Kind}
use Rattle.bb_code.specs.declared.frame.Kind.TheVariants.{Any, Label, Ref, Old, Seq}
use Rattle.bb_code.specs.declared.op.Op.{Op}
use Rattle.bb_code.specs.declared.op.Op.TheVariants as ops
use Rattle.bb_code.specs.declared.flaw.Flaw.{Flaw}
use Rattle.bb_code.specs.declared.flaw.Flaw.TheVariants.{Table}
use Rattle.bb_code.specs.declared.flaw.VerifyFault.{VerifyFault}
use Rattle.bb_verify_effect.specs.declared.part.Part.{Part}
use Rattle.bb_code.specs.Each.{each}
use Rattle.bb_code.specs.Flaws.{fault_at}
use Rattle.bb_verify_effect.specs.Part.{units_of}

-- a table of `count` entries has one of this number
abbrev pub entry : (count number : ℕ) → Result (Unit {0}) Flaw
entry count number = if nat_lt number count then Ok tt else Err Table

-- the schema has the class or label set of a kind
abbrev pub known_kind : Schema → Kind → Result (Unit {0}) Flaw
known_kind s (Label set) = entry (length s.label_sets) set
known_kind s (Ref class) = entry (length s.classes) class
known_kind s (Old class) = entry (length s.classes) class
known_kind s (Seq class) = entry (length s.classes) class
known_kind s k = Ok tt

-- the kind of an entry of the stack is not `Any`, and the schema has its class or label set
abbrev pub known_entry : Schema → Kind → Result (Unit {0}) Flaw
known_entry s Any = Err Table
known_entry s k = known_kind s k

-- the kinds of a declared frame
unfoldable pub known_frame : Schema → FrameEntry → Result (Unit {0}) Flaw
known_frame s e = do
  _ ← each (known_kind s) e.frame.locals
  each (known_entry s) e.frame.stack

-- the places of declared frames ascend from a floor, and are inside the code
unfoldable pub places_rise : (floor count : ℕ) → List FrameEntry → Result (Unit {0}) Flaw
places_rise floor count [] = Ok tt
places_rise floor count (e ∷ es) =
    if nat_lt e.place floor || nat_le count e.place then Err Table else places_rise (e.place + 1) count es

-- there is a local for each unit that the part starts with
unfoldable pub enough_locals : Part → Code → Result (Unit {0}) Flaw
enough_locals part code = if nat_lt code.locals (length (units_of part)) then Err Table else Ok tt

-- the declared frames, and the number of locals
unfoldable pub frames_in_order : Schema → Part → Code → Result (Unit {0}) Flaw
frames_in_order s part code = do
  _ ← places_rise 0 (length code.ops) code.frames
  _ ← each (known_frame s) code.frames
  enough_locals part code

-- the schema has the label
abbrev pub known_label : Schema → (set label : ℕ) → Result (Unit {0}) Flaw
known_label s set label = elim (name_of_label s set label) [ None ↦ Err Table | Some name ↦ Ok tt ]

-- the operands of an op name entries of their tables
unfoldable pub in_tables : Schema → Code → Op → Result (Unit {0}) Flaw
in_tables s code (ops.PushText text) = entry (length code.texts) text
in_tables s code (ops.PushLabel set label) = known_label s set label
in_tables s code (ops.Load l) = entry code.locals l
in_tables s code (ops.Store l) = entry code.locals l
in_tables s code (ops.Next l place) = entry code.locals l
in_tables s code (ops.Find query) = entry (length code.queries) query
in_tables s code (ops.As class place) = entry (length s.classes) class
in_tables s code (ops.New class) = entry (length s.classes) class
in_tables s code op = Ok tt

-- the operands of the op at a place, if there is one, name entries of their tables
unfoldable pub table_at : Schema → Code → ℕ → Result (Unit {0}) VerifyFault
table_at s code place =
    elim (slice_get code.ops place) [ None ↦ Ok tt | Some op ↦ map_err (fault_at place) (in_tables s code op) ]

-- a schema with owning slots accepts only codes of version 2
unfoldable pub fit_version : Schema → Version → Result (Unit {0}) Flaw
fit_version s One = if owns_any s then Err Table else Ok tt
fit_version s Two = Ok tt

-- the version of a code, its tables, and then the operands of all its ops
unfoldable pub tables : Schema → Part → Code → Result (Unit {0}) VerifyFault
tables s part code = do
  _ ← map_err (fault_at 0) (fit_version s code.version)
  _ ← map_err (fault_at 0) (frames_in_order s part code)
  each (table_at s code) (places code)
