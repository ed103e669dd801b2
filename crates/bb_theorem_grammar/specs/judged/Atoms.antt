-- Expressions without parts: their kind, if it is known, and their flaws, with room for `room` values on the stack.
use Rattle.std.specs.Prelude.{ℕ, Bool, nat_le, List, [], ◌∷◌, ◌++◌, length, Option, Some, None, option_map}
use Rattle.bb_code.specs.declared.parts.TheConstants.{TEXT_BYTES_LIMIT}
use Rattle.bb_code.specs.declared.frame.Kind.{Kind}
use Rattle.bb_code.specs.declared.frame.Kind.TheVariants as kinds
use Rattle.bb_schema.specs.Schema.{Schema, label_set_named, label_named}
use Rattle.bb_lang.specs.Atom.{Atom}
use Rattle.bb_lang.specs.Atom.TheVariants as atoms
use Rattle.bb_lang.specs.Variable.{Variable}
use Rattle.bb_compile_scope.specs.declared.fault.TextFlaw.{TextFlaw}
use Rattle.bb_compile_scope.specs.declared.fault.TextFlaw.TheVariants.{Kind as WrongKind, DeadName, Limit}
use Rattle.bb_compile_scope.specs.Killed.{unless_fault}
use Rattle.bb_compile_scope.specs.Kinds.{class_of, is_live}
use Rattle.bb_compile_scope.specs.Slots.{value_slot}
use Rattle.bb_theorem_grammar.specs.judged.Flaws.{unless, if_unknown, flaw_of, if_full, if_not_pushed}
use Rattle.bb_theorem_grammar.specs.judged.Names.{Names, kind_of, unit_class}

-- a name
abbrev pub variable_flaws : Names → (room : ℕ) → Variable → List TextFlaw
variable_flaws names room v = if_not_pushed (kind_of names v) room

-- a value that must be a live unit
abbrev pub if_no_unit : (class : Option ℕ) → (live : Bool) → List TextFlaw
if_no_unit None live = WrongKind ∷ []
if_no_unit (Some class) live = unless live DeadName

abbrev pub if_not_live : Option Kind → List TextFlaw
if_not_live None = []
if_not_live (Some kind) = if_no_unit (class_of kind) (is_live kind)

-- the name of a unit, which must be live
abbrev pub unit_flaws : Names → (room : ℕ) → Variable → List TextFlaw
unit_flaws names room v = variable_flaws names room v ++ if_not_live (kind_of names v)

-- a slot in a class, if the class is known
abbrev pub slot_kind : Schema → (class : Option ℕ) → (slot : List ℕ) → Option Kind
slot_kind schema None slot = None
slot_kind schema (Some class) slot = option_map (λ p. p.1) (unless_fault (value_slot schema class slot))

abbrev pub slot_flaws : Schema → (class : Option ℕ) → (slot : List ℕ) → List TextFlaw
slot_flaws schema None slot = []
slot_flaws schema (Some class) slot = flaw_of (value_slot schema class slot)

-- a text
abbrev pub text_flaws : (text : List ℕ) → (room : ℕ) → List TextFlaw
text_flaws text room = unless (nat_le (length text) TEXT_BYTES_LIMIT) Limit ++ if_full room

-- a label of a set
abbrev pub label_flaws : Schema → (set : Option ℕ) → (label : List ℕ) → (room : ℕ) → List TextFlaw
label_flaws schema None label room = if_unknown (let none : Option ℕ = None in none)
label_flaws schema (Some set) label room = if_not_pushed (label_named schema set label) room

-- ---- all of them

abbrev pub atom_kind : Schema → Names → Atom → Option Kind
atom_kind schema names (atoms.Int n) = Some kinds.Int
atom_kind schema names (atoms.Text text) = Some kinds.Text
atom_kind schema names (atoms.Bool b) = Some kinds.Bool
atom_kind schema names (atoms.Label set label) = option_map kinds.Label (label_set_named schema set)
atom_kind schema names (atoms.Variable v) = kind_of names v
atom_kind schema names (atoms.Slot unit slot) = slot_kind schema (unit_class names unit) slot

abbrev pub atom_flaws : Schema → Names → (room : ℕ) → Atom → List TextFlaw
atom_flaws schema names room (atoms.Int n) = if_full room
atom_flaws schema names room (atoms.Text text) = text_flaws text room
atom_flaws schema names room (atoms.Bool b) = if_full room
atom_flaws schema names room (atoms.Label set label) = label_flaws schema (label_set_named schema set) label room
atom_flaws schema names room (atoms.Variable v) = variable_flaws names room v
atom_flaws schema names room (atoms.Slot unit slot) =
    unit_flaws names room unit ++ slot_flaws schema (unit_class names unit) slot
