-- Which names are live at a loop's start: a name is not live there if the body assigns to it, or may delete a unit of
-- its class.
use Rattle.std.specs.Prelude.{ℕ, List, map, set, position, Option, Some, None, option_map, option_and_then, Result, Ok, Err}
use Rattle.std.specs.Option.{option_map_or}
use Rattle.bb_schema.specs.Schema.{Schema, class_named}
use Rattle.bb_code.specs.declared.frame.Kind.{Kind}
use Rattle.bb_code.specs.declared.frame.Kind.TheVariants as kinds
use Rattle.bb_verify_effect.specs.Kinds.{struck}
use Rattle.bb_lang_tree.specs.declared.atom.Atom.TheVariants as atoms
use Rattle.bb_lang_tree.specs.declared.atom.Variable.{Variable}
use Rattle.bb_lang_tree.specs.declared.tree.Sequence.{Sequence}
use Rattle.bb_lang_tree.specs.declared.tree.Sequence.TheVariants.{Find, Links}
use Rattle.bb_lang_tree.specs.declared.block.Action.{Action}
use Rattle.bb_lang_tree.specs.declared.block.Action.TheVariants.{Let, New, Assign, Delete}
use Rattle.bb_lang_tree.specs.declared.block.Binding.{Binding}
use Rattle.bb_lang_tree.specs.declared.block.Binding.TheVariants.{As, Linked}
use Rattle.bb_lang_tree.specs.Trees.{ExprTree, atom, chain, no_step}
use Rattle.bb_lang_tree.specs.Blocks.{BlockTree, StatementTree, OtherwiseTree, no_statement, before_others, action, if_of, with_of, for_of, absent, otherwise}
use Rattle.bb_compile_scope.specs.declared.scope.Scope.{Scope}
use Rattle.bb_compile_scope.specs.Kinds.{class_of}
use Rattle.bb_compile_scope.specs.LocalKinds.{is_free, kind_at}
use Rattle.bb_compile_scope.specs.Scope.{name_of, local_of, kind_of, with_name, mark_of, back_to}
use Rattle.bb_compile_scope.specs.Slots.{link_slot, partner_slot}

-- the result of a call, if it had no fault
abbrev pub unless_fault : {X E : Type 0} → Result X E → Option X
unless_fault (Ok x) = Some x
unless_fault (Err e) = None

-- the kind that a name is declared with: a live unit's, if its class is known
abbrev pub unit_kind : Option ℕ → Kind
unit_kind None = kinds.Int
unit_kind (Some class) = kinds.Ref class

-- after the declaration of a name for the lowest free local, if there is one
unfoldable pub declared : (name : List ℕ) → (class : Option ℕ) → Scope → Scope
declared name class scope =
    option_map_or (λ local. with_name name local (unit_kind class) scope) (position is_free scope.kinds) scope

-- the class of the unit that a name stands for
unfoldable pub unit_class : Scope → Variable → Option ℕ
unit_class scope unit = option_and_then class_of (kind_of scope (name_of unit))

-- the class of the unit that is an expression's value; a chain without steps is its first operand
abbrev pub value_class : Scope → ExprTree → Option ℕ
value_class scope (atom (atoms.Variable unit)) = unit_class scope unit
value_class scope (chain first no_step) = value_class scope first
value_class scope _ = None

-- the class of the units of a sequence
abbrev pub sequence_class : Schema → Scope → Sequence → Option ℕ
sequence_class s scope (Find class space pattern) = class_named s class
sequence_class s scope (Links unit slot) =
    option_and_then (λ class. option_map (λ p. p.1.to) (unless_fault (link_slot s class slot))) (unit_class scope unit)

-- the name that a `with` declares, and the class of its unit
abbrev pub bound_name : Binding → List ℕ
bound_name (As name unit class) = name
bound_name (Linked name unit slot) = name

abbrev pub bound_class : Schema → Scope → Binding → Option ℕ
bound_class s scope (As name unit class) = class_named s class
bound_class s scope (Linked name unit slot) =
    option_and_then (λ class. option_map (λ p. p.1) (unless_fault (partner_slot s class slot))) (unit_class scope unit)

-- the unit of a local, if it holds one, is marked: it may be deleted
abbrev pub with_old : (local : ℕ) → Option ℕ → Scope → Scope
with_old local None scope = scope
with_old local (Some class) scope = record scope { kinds = set scope.kinds local (kinds.Old class) }

-- after an assignment to a name: another unit may be assigned to it
unfoldable pub killed_name : (name : List ℕ) → Scope → Scope
killed_name name scope =
    option_map_or (λ local. with_old local (class_of (kind_at scope.kinds local)) scope) (local_of scope name) scope

-- after a delete of a unit, if its class is known: all units that may go with it are marked
abbrev pub struck_units : Schema → Option ℕ → Scope → Scope
struck_units s None scope = scope
struck_units s (Some class) scope = record scope { kinds = map (struck s class) scope.kinds }

-- after a statement without blocks
unfoldable pub killed_action : Schema → Scope → Action → Scope
killed_action s scope (Let name value) = declared name (value_class scope value) scope
killed_action s scope (New name class) = declared name (class_named s class) scope
killed_action s scope (Assign name value) = killed_name name scope
killed_action s scope (Delete unit) = struck_units s (unit_class scope unit) scope
killed_action s scope _ = scope

-- after a block whose statements leave `after`
abbrev pub after_block : (before after : Scope) → Scope
after_block before after = back_to (mark_of before) after

-- after statements: each is walked once, as if all paths were taken
unfoldable mutual
  pub killed_statement : Schema → Scope → StatementTree → Scope
  killed_statement s scope (action a) = killed_action s scope a
  killed_statement s scope (if_of test then other) = killed_otherwise s (after_block scope (killed_statements s scope then)) other
  killed_statement s scope (with_of binding then other) =
      let inner = declared (bound_name binding) (bound_class s scope binding) scope in
      killed_otherwise s (after_block scope (after_block inner (killed_statements s inner then))) other
  killed_statement s scope (for_of name sequence body) =
      let inner = declared name (sequence_class s scope sequence) scope in
      after_block scope (after_block inner (killed_statements s inner body))

  pub killed_otherwise : Schema → Scope → OtherwiseTree → Scope
  killed_otherwise s scope absent = scope
  killed_otherwise s scope (otherwise b) = after_block scope (killed_statements s scope b)

  pub killed_statements : Schema → Scope → BlockTree → Scope
  killed_statements s scope no_statement = scope
  killed_statements s scope (before_others place statement others) = killed_statements s (killed_statement s scope statement) others

-- a block
abbrev pub killed_block : Schema → Scope → BlockTree → Scope
killed_block s scope b = after_block scope (killed_statements s scope b)

-- after a block that begins with the declaration of a name for a unit
abbrev pub killed_under : Schema → Scope → (name : List ℕ) → (class : Option ℕ) → BlockTree → Scope
killed_under s scope name class b = after_block scope (killed_block s (declared name class scope) b)
