-- Statements and blocks: the names after them, and their faults in the order of the text, each at the place of its
-- statement.
use Rattle.std.specs.Prelude.{ℕ, ◌-◌, ◌==◌, ◌&&◌, ◌||◌, Bool, false, not, List, [], ◌++◌, Option, Some, None}
use Rattle.bb_code.specs.declared.parts.TheConstants.{STACK_LIMIT}
use Rattle.bb_code.specs.declared.frame.Kind.{Kind}
use Rattle.bb_code.specs.declared.frame.Kind.TheVariants.{Bool as Truth}
use Rattle.bb_schema.specs.Schema.{Schema, class_named, descends}
use Rattle.bb_verify_effect.specs.declared.part.Part.{Part}
use Rattle.bb_lang.specs.Binding.{Binding}
use Rattle.bb_lang.specs.Binding.TheVariants.{As, Linked}
use Rattle.bb_lang.specs.Blocks.{BlockTree, StatementTree, OtherwiseTree, no_statement, before_others, action, if_of, with_of, for_of, absent, otherwise}
use Rattle.bb_lang.specs.Sequence.{Sequence}
use Rattle.bb_lang.specs.View.{sequence_of}
use Rattle.bb_compile_scope.specs.Ending.{always_ends, block_ends}
use Rattle.bb_compile_scope.specs.Killed.{bound_name}
use Rattle.bb_compile_scope.specs.Kinds.{class_of, is_live}
use Rattle.bb_compile_scope.specs.Place.{Place}
use Rattle.bb_compile_scope.specs.Slots.{partner_slot}
use Rattle.bb_compile_scope.specs.declared.fault.CompileFault.{CompileFault}
use Rattle.bb_compile_scope.specs.declared.fault.TextFlaw.{TextFlaw}
use Rattle.bb_compile_scope.specs.declared.fault.TextFlaw.TheVariants.{Kind as WrongKind, NoEnd, Limit}
use Rattle.bb_theorem_grammar.specs.judged.Actions.{value_flaws, action_flaws, after_action}
use Rattle.bb_theorem_grammar.specs.judged.Atoms.{variable_flaws, unit_flaws}
use Rattle.bb_theorem_grammar.specs.judged.Expressions.{sequence_class, sequence_flaws}
use Rattle.bb_theorem_grammar.specs.judged.Flaws.{unless, if_so, if_unknown, flaw_of, fault_at}
use Rattle.bb_theorem_grammar.specs.judged.Killed.{bound_class, at_start}
use Rattle.bb_theorem_grammar.specs.judged.Names.{Names, kind_of, unit_class, with_unit, holding, back_to, joined}

-- ---- what a `with` tests

-- a unit of class `own` may be tested to be of another: it must be `own` or descend from it, and differ if the unit is
-- live
abbrev pub tells : Schema → (live : Bool) → (own : Option ℕ) → (class : ℕ) → Bool
tells schema live None class = false
tells schema live (Some own) class = descends schema class own && not (live && (class == own))

abbrev pub as_flaws : Schema → (held : Option Kind) → (class : Option ℕ) → List TextFlaw
as_flaws schema (Some held) (Some class) = unless (tells schema (is_live held) (class_of held) class) WrongKind
as_flaws schema _ _ = []

abbrev pub partner_flaws : Schema → (class : Option ℕ) → (slot : List ℕ) → List TextFlaw
partner_flaws schema None slot = []
partner_flaws schema (Some class) slot = flaw_of (partner_slot schema class slot)

abbrev pub binding_flaws : Schema → Names → Binding → List TextFlaw
binding_flaws schema names (As name unit class) =
    variable_flaws names STACK_LIMIT unit ++ (if_unknown (class_named schema class)
    ++ as_flaws schema (kind_of names unit) (class_named schema class))
binding_flaws schema names (Linked name unit slot) =
    unit_flaws names STACK_LIMIT unit ++ partner_flaws schema (unit_class names unit) slot

-- ---- names

-- the names in the block of a `with`
abbrev pub bound : Schema → Names → Binding → Names
bound schema names binding = with_unit (bound_name binding) (bound_class schema names binding) names

-- the names at the start of a `for`, and in its body
abbrev pub looped : Schema → Names → (name : List ℕ) → Sequence → BlockTree → Names
looped schema names name sequence body =
    at_start schema name (sequence_class schema names (sequence_of sequence)) body (holding names)

abbrev pub in_loop : Schema → Names → (name : List ℕ) → Sequence → BlockTree → Names
in_loop schema names name sequence body =
    with_unit name (sequence_class schema names (sequence_of sequence)) (looped schema names name sequence body)

-- the names after statements
unfoldable mutual
  pub after_statement : Schema → Names → StatementTree → Names
  after_statement schema names (action a) = after_action schema names a
  after_statement schema names (if_of test first other) =
      after_branches schema names (block_ends first) (back_to names (after_statements schema names first)) other
  after_statement schema names (with_of binding first other) =
      after_branches schema names (block_ends first)
      (back_to names (after_statements schema (bound schema names binding) first)) other
  after_statement schema names (for_of name sequence body) = back_to names (looped schema names name sequence body)

  -- after both blocks; the first leaves the names `one`
  pub after_branches : Schema → (before : Names) → (ended : Bool) → (one : Names) → OtherwiseTree → Names
  after_branches schema before ended one absent = joined ended before false one
  after_branches schema before ended one (otherwise b) =
      joined (block_ends b) one ended (back_to before (after_statements schema before b))

  pub after_statements : Schema → Names → BlockTree → Names
  after_statements schema names no_statement = names
  after_statements schema names (before_others place statement others) =
      after_statements schema (after_statement schema names statement) others

-- ---- faults: `loops` loops may be nested, and no statement may follow one that has ended

unfoldable mutual
  pub statement_faults : Schema → Part → (loops : ℕ) → (ended : Bool) → Names → Place → StatementTree
      → List CompileFault
  statement_faults schema part loops ended names place (action a) =
      fault_at place (if_so ended NoEnd ++ action_flaws schema part names a)
  statement_faults schema part loops ended names place (if_of test first other) =
      fault_at place (if_so ended NoEnd ++ value_flaws schema names test Truth)
      ++ (statements_faults schema part loops false names first ++ otherwise_faults schema part loops names other)
  statement_faults schema part loops ended names place (with_of binding first other) =
      fault_at place (if_so ended NoEnd ++ binding_flaws schema names binding)
      ++ (statements_faults schema part loops false (bound schema names binding) first
      ++ otherwise_faults schema part loops names other)
  statement_faults schema part loops ended names place (for_of name sequence body) =
      fault_at place (if_so ended NoEnd ++ (sequence_flaws schema names STACK_LIMIT (sequence_of sequence)
      ++ if_so (loops == 0) Limit))
      ++ statements_faults schema part (loops - 1) false (in_loop schema names name sequence body) body

  pub otherwise_faults : Schema → Part → (loops : ℕ) → Names → OtherwiseTree → List CompileFault
  otherwise_faults schema part loops names absent = []
  otherwise_faults schema part loops names (otherwise b) = statements_faults schema part loops false names b

  pub statements_faults : Schema → Part → (loops : ℕ) → (ended : Bool) → Names → BlockTree → List CompileFault
  statements_faults schema part loops ended names no_statement = []
  statements_faults schema part loops ended names (before_others place statement others) =
      let ends = ended || always_ends statement in
      statement_faults schema part loops ended names place statement
      ++ statements_faults schema part loops ends (after_statement schema names statement) others
