-- Statements without blocks: their flaws, in order, and the names after them.
use Rattle.std.specs.Prelude.{ℕ, ◌-◌, Bool, nat_lt, List, [], ◌∷◌, ◌++◌, length, Option, Some, None, is_ok, is_some, option_and_then, Result, Ok, Err}
use Rattle.bb_code.specs.declared.parts.TheConstants.{STACK_LIMIT, SAID_LIMIT}
use Rattle.bb_schema_classes.specs.declared.kind.Link.{Link}
use Rattle.bb_code.specs.declared.frame.Kind.{Kind}
use Rattle.bb_code.specs.declared.frame.Kind.TheVariants as kinds
use Rattle.bb_verify_effect.specs.Part.{writes, ends_rated, ends_answered}
use Rattle.bb_schema.specs.Schema.{Schema, class_named, space_named, descends}
use Rattle.bb_schema.specs.Spaces.{allowed}
use Rattle.bb_verify_effect.specs.declared.part.Part.{Part}
use Rattle.bb_lang.specs.Action.{Action}
use Rattle.bb_lang.specs.Action.TheVariants as actions
use Rattle.bb_lang.specs.Trees.{ExprTree}
use Rattle.bb_compile_scope.specs.declared.fault.TextFlaw.{TextFlaw}
use Rattle.bb_compile_scope.specs.declared.fault.TextFlaw.TheVariants.{Unknown, Kind as WrongKind, LinkClass, Space, Effect, NoEnd, Limit}
use Rattle.bb_compile_scope.specs.Kinds.{assigned}
use Rattle.bb_compile_scope.specs.Slots.{value_slot, link_slot}
use Rattle.bb_theorem_grammar.specs.judged.Atoms.{unit_flaws}
use Rattle.bb_theorem_grammar.specs.judged.Expressions.{expr_kind, expr_flaws}
use Rattle.bb_theorem_grammar.specs.judged.Flaws.{unless, if_so, if_unknown, if_other}
use Rattle.bb_theorem_grammar.specs.judged.Names.{Names, kind_named, unit_class, with_named, with_unit, with_kind, struck_names}

-- a change in a part that may make none, and an end that the part does not have
abbrev pub effect_flaws : Part → List TextFlaw
effect_flaws part = unless (is_ok (writes part)) Effect

abbrev pub end_flaws : (right : Bool) → List TextFlaw
end_flaws right = unless right NoEnd

-- an assignment of a value to what a name holds
abbrev pub assigned_flaws : Schema → (held value : Option Kind) → List TextFlaw
assigned_flaws schema None value = Unknown ∷ []
assigned_flaws schema (Some held) None = []
assigned_flaws schema (Some held) (Some value) = unless (is_some (assigned schema held value)) WrongKind

-- a value for a slot of a class, if the class is known
abbrev pub set_by_flaws : Result (ℕ × Kind) TextFlaw → (value : Option Kind) → List TextFlaw
set_by_flaws (Err flaw) value = flaw ∷ []
set_by_flaws (Ok slot) value = if_other value slot.1

abbrev pub set_flaws : Schema → (class : Option ℕ) → (slot : List ℕ) → (value : Option Kind) → List TextFlaw
set_flaws schema None slot value = []
set_flaws schema (Some class) slot value = set_by_flaws (value_slot schema class slot) value

-- a link by a slot of a class, if that class is known, to a unit of another class
abbrev pub other_flaws : Schema → (to : ℕ) → (other : Option ℕ) → List TextFlaw
other_flaws schema to None = []
other_flaws schema to (Some class) = unless (descends schema class to) LinkClass

abbrev pub relink_by_flaws : Schema → Result (ℕ × Link) TextFlaw → (other : Option ℕ) → List TextFlaw
relink_by_flaws schema (Err flaw) other = flaw ∷ []
relink_by_flaws schema (Ok slot) other = other_flaws schema slot.1.to other

abbrev pub relink_flaws : Schema → (class : Option ℕ) → (slot : List ℕ) → (other : Option ℕ) → List TextFlaw
relink_flaws schema None slot other = []
relink_flaws schema (Some class) slot other = relink_by_flaws schema (link_slot schema class slot) other

-- a space that does not admit a unit of a class, if both are known
abbrev pub enter_flaws : Schema → (class space : Option ℕ) → List TextFlaw
enter_flaws schema (Some class) (Some space) = unless (allowed schema space class) Space
enter_flaws schema _ _ = []

-- the values of a `say`, each above the ones before it on the stack
abbrev pub values_flaws : Schema → Names → (room : ℕ) → List ExprTree → List TextFlaw
values_flaws schema names room [] = []
values_flaws schema names room (e ∷ es) = expr_flaws schema names room e ++ values_flaws schema names (room - 1) es

-- a value of a kind
abbrev pub value_flaws : Schema → Names → ExprTree → (wanted : Kind) → List TextFlaw
value_flaws schema names value wanted =
    expr_flaws schema names STACK_LIMIT value ++ if_other (expr_kind schema names value) wanted

-- a change of a unit, or a `say`
abbrev pub change_flaws : Schema → Names → Action → List TextFlaw
change_flaws schema names (actions.New name class) = if_unknown (class_named schema class)
change_flaws schema names (actions.Set unit slot value) =
    unit_flaws names STACK_LIMIT unit ++ (expr_flaws schema names (STACK_LIMIT - 1) value
    ++ set_flaws schema (unit_class names unit) slot (expr_kind schema names value))
change_flaws schema names (actions.Link unit slot other) =
    unit_flaws names STACK_LIMIT unit ++ (unit_flaws names (STACK_LIMIT - 1) other
    ++ relink_flaws schema (unit_class names unit) slot (unit_class names other))
change_flaws schema names (actions.Unlink unit slot other) =
    unit_flaws names STACK_LIMIT unit ++ (unit_flaws names (STACK_LIMIT - 1) other
    ++ relink_flaws schema (unit_class names unit) slot (unit_class names other))
change_flaws schema names (actions.Enter unit space) =
    unit_flaws names STACK_LIMIT unit ++ (if_unknown (space_named schema space)
    ++ enter_flaws schema (unit_class names unit) (space_named schema space))
change_flaws schema names (actions.Leave unit space) =
    unit_flaws names STACK_LIMIT unit ++ if_unknown (space_named schema space)
change_flaws schema names (actions.Delete unit) = unit_flaws names STACK_LIMIT unit
change_flaws schema names (actions.Say values) =
    values_flaws schema names STACK_LIMIT values ++ if_so (nat_lt SAID_LIMIT (length values)) Limit
change_flaws schema names _ = []

-- a statement without blocks
unfoldable pub action_flaws : Schema → Part → Names → Action → List TextFlaw
action_flaws schema part names (actions.Let name value) = expr_flaws schema names STACK_LIMIT value
action_flaws schema part names (actions.Assign name value) =
    expr_flaws schema names STACK_LIMIT value
    ++ assigned_flaws schema (kind_named names name) (expr_kind schema names value)
action_flaws schema part names (actions.Rate value) =
    end_flaws (is_ok (ends_rated part)) ++ value_flaws schema names value kinds.Int
action_flaws schema part names actions.Decline = end_flaws (is_ok (ends_rated part))
action_flaws schema part names (actions.Answer value) =
    end_flaws (is_ok (ends_answered part)) ++ value_flaws schema names value kinds.Bool
action_flaws schema part names action = effect_flaws part ++ change_flaws schema names action

-- ---- the names after it

abbrev pub after_let : (name : List ℕ) → Option Kind → Names → Names
after_let name None names = names
after_let name (Some kind) names = with_named name kind names

-- what a name holds after a value is assigned to it, if it may be
abbrev pub assigned_kind : Schema → (held value : Option Kind) → Option Kind
assigned_kind schema held value = option_and_then (λ h. option_and_then (λ v. assigned schema h v) value) held

abbrev pub after_assign : (name : List ℕ) → Option Kind → Names → Names
after_assign name None names = names
after_assign name (Some kind) names = with_kind name kind names

abbrev pub after_delete : Schema → (class : Option ℕ) → Names → Names
after_delete schema None names = names
after_delete schema (Some class) names = struck_names schema class names

unfoldable pub after_action : Schema → Names → Action → Names
after_action schema names (actions.Let name value) = after_let name (expr_kind schema names value) names
after_action schema names (actions.Assign name value) =
    after_assign name (assigned_kind schema (kind_named names name) (expr_kind schema names value)) names
after_action schema names (actions.New name class) = with_unit name (class_named schema class) names
after_action schema names (actions.Delete unit) = after_delete schema (unit_class names unit) names
after_action schema names _ = names
