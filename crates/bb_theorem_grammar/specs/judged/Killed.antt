-- Which names are live at a loop's start: a name is not live there if the body assigns to it, or may delete a unit of
-- its class. The body is walked once, as if all paths were taken.
use Rattle.std.specs.Prelude.{ℕ, ◌==◌, List, Option, Some, None, option_map, option_and_then, if◌then◌else◌}
use Rattle.bb_code.specs.declared.frame.Kind.TheVariants.{Old}
use Rattle.bb_schema.specs.Schema.{Schema, class_named}
use Rattle.bb_lang.specs.Atom.TheVariants as atoms
use Rattle.bb_lang.specs.Action.{Action}
use Rattle.bb_lang.specs.Action.TheVariants.{Let, New, Assign, Delete}
use Rattle.bb_lang.specs.Binding.{Binding}
use Rattle.bb_lang.specs.Binding.TheVariants.{As, Linked}
use Rattle.bb_lang.specs.Blocks.{BlockTree, StatementTree, OtherwiseTree, no_statement, before_others, action, if_of, with_of, for_of, absent, otherwise}
use Rattle.bb_lang.specs.Trees.{ExprTree, atom, chain, no_step}
use Rattle.bb_lang.specs.View.{sequence_of}
use Rattle.bb_compile_scope.specs.Killed.{unless_fault, unit_kind, bound_name}
use Rattle.bb_compile_scope.specs.Kinds.{class_of}
use Rattle.bb_compile_scope.specs.Slots.{partner_slot}
use Rattle.bb_theorem_grammar.specs.judged.Actions.{after_delete}
use Rattle.bb_theorem_grammar.specs.judged.Expressions.{sequence_class}
use Rattle.bb_theorem_grammar.specs.judged.Names.{Names, kind_named, unit_class, with_named, with_kind, back_to}

-- the names and another one, if there is room for it
abbrev pub declared : (name : List ℕ) → (class : Option ℕ) → Names → Names
declared name class names = if names.room == 0 then names else with_named name (unit_kind class) names

-- the class of the unit that is an expression's value
abbrev pub value_class : Names → ExprTree → Option ℕ
value_class names (atom (atoms.Variable unit)) = unit_class names unit
value_class names (chain first no_step) = value_class names first
value_class names _ = None

-- the class of the unit of the name that a `with` declares
abbrev pub bound_class : Schema → Names → Binding → Option ℕ
bound_class s names (As name unit class) = class_named s class
bound_class s names (Linked name unit slot) =
    option_and_then (λ class. option_map (λ p. p.1) (unless_fault (partner_slot s class slot))) (unit_class names unit)

-- after an assignment to a name: another unit may be assigned to it
abbrev pub killed_as : (name : List ℕ) → (class : Option ℕ) → Names → Names
killed_as name None names = names
killed_as name (Some class) names = with_kind name (Old class) names

abbrev pub killed_name : (name : List ℕ) → Names → Names
killed_name name names = killed_as name (option_and_then class_of (kind_named names name)) names

-- after a statement without blocks
abbrev pub killed_action : Schema → Names → Action → Names
killed_action s names (Let name value) = declared name (value_class names value) names
killed_action s names (New name class) = declared name (class_named s class) names
killed_action s names (Assign name value) = killed_name name names
killed_action s names (Delete unit) = after_delete s (unit_class names unit) names
killed_action s names _ = names

-- after statements
unfoldable mutual
  pub killed_statement : Schema → Names → StatementTree → Names
  killed_statement s names (action a) = killed_action s names a
  killed_statement s names (if_of test first other) =
      killed_otherwise s (back_to names (killed_statements s names first)) other
  killed_statement s names (with_of binding first other) =
      let inner = declared (bound_name binding) (bound_class s names binding) names in
      killed_otherwise s (back_to names (killed_statements s inner first)) other
  killed_statement s names (for_of name sequence body) =
      let inner = declared name (sequence_class s names (sequence_of sequence)) names in
      back_to names (killed_statements s inner body)

  pub killed_otherwise : Schema → Names → OtherwiseTree → Names
  killed_otherwise s names absent = names
  killed_otherwise s names (otherwise b) = back_to names (killed_statements s names b)

  pub killed_statements : Schema → Names → BlockTree → Names
  killed_statements s names no_statement = names
  killed_statements s names (before_others place statement others) =
      killed_statements s (killed_statement s names statement) others

-- the names at the start of a loop with a name for units of a class
abbrev pub at_start : Schema → (name : List ℕ) → (class : Option ℕ) → BlockTree → Names → Names
at_start s name class body names = back_to names (killed_statements s (declared name class names) body)
