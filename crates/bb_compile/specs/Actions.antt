-- Statements without blocks.
use Rattle.std.specs.Prelude.{ℕ, Bool, nat_lt, ◌-◌, map, set, List, [], ◌∷◌, length, Option, Some, None, is_ok, Result, Ok, Err, if◌then◌else◌}
use Rattle.bb_basis.specs.Results.{◌>>=◌}
use Rattle.bb_code.specs.declared.parts.TheConstants.{STACK_LIMIT, SAID_LIMIT}
use Rattle.bb_code.specs.declared.op.LinkChange.{LinkChange}
use Rattle.bb_code.specs.declared.op.LinkChange.TheVariants as changes
use Rattle.bb_verify_effect.specs.declared.part.Part.{Part}
use Rattle.bb_verify_effect.specs.Part.{writes, ends_rated, ends_answered}
use Rattle.bb_verify_effect.specs.Kinds.{struck}
use Rattle.bb_code.specs.declared.frame.Kind.{Kind}
use Rattle.bb_code.specs.declared.frame.Kind.TheVariants as kinds
use Rattle.bb_code.specs.declared.op.Op.{Op}
use Rattle.bb_code.specs.declared.op.Op.TheVariants as ops
use Rattle.bb_schema.specs.Schema.{Schema, class_named, space_named, descends}
use Rattle.bb_schema.specs.Spaces.{allowed}
use Rattle.bb_schema_classes.specs.declared.kind.Link.{Link}
use Rattle.bb_lang.specs.Variable.{Variable}
use Rattle.bb_lang.specs.Action.{Action}
use Rattle.bb_lang.specs.Action.TheVariants as actions
use Rattle.bb_lang.specs.Trees.{ExprTree}
use Rattle.bb_compile_scope.specs.declared.fault.TextFlaw.{TextFlaw}
use Rattle.bb_compile_scope.specs.declared.fault.TextFlaw.TheVariants.{Unknown, Kind as WrongKind, LinkClass, Space, Effect, NoEnd, Limit}
use Rattle.bb_compile_scope.specs.Kinds.{assigned}
use Rattle.bb_compile_scope.specs.LocalKinds.{kind_at}
use Rattle.bb_compile_scope.specs.Scope.{local_of}
use Rattle.bb_compile_scope.specs.Slots.{value_slot, link_slot}
use Rattle.bb_compile_buffer.specs.declared.buffer.Buffer.{Buffer}
use Rattle.bb_compile_buffer.specs.Buffers.{Change, noted, due, known, put, with_kinds, declare}
use Rattle.bb_compile_buffer.specs.Operations.{Made}
use Rattle.bb_compile_buffer.specs.Atoms.{unit_code}
use Rattle.bb_compile.specs.Expressions.{expr_code}

-- a change in a part that may make none is a flaw
abbrev pub effect_noted : Part → Buffer → Buffer
effect_noted part s = if is_ok (writes part) then s else noted Effect s

-- an end that the part does not have is a flaw
abbrev pub end_noted : (right : Bool) → Buffer → Buffer
end_noted right s = if right then s else noted NoEnd s

abbrev pub let_as : (name : List ℕ) → Made → Change
let_as name None s = Ok s
let_as name (Some kind) s = declare name kind s

-- let
unfoldable pub let_code : Schema → (name : List ℕ) → ExprTree → Change
let_code schema name value s = do
  (kind, t) ← expr_code schema STACK_LIMIT value s
  let_as name kind t

abbrev pub assign_as : (local : ℕ) → Option Kind → Change
assign_as local None s = Ok (noted WrongKind s)
assign_as local (Some kind) s = put (ops.Store local) (with_kinds (set s.scope.kinds local kind) s)

abbrev pub assign_to : Schema → (local : Option ℕ) → Made → Change
assign_to schema None kind s = Ok (noted Unknown s)
assign_to schema (Some local) None s = Ok s
assign_to schema (Some local) (Some kind) s = assign_as local (assigned schema (kind_at s.scope.kinds local) kind) s

-- an assignment
unfoldable pub assign_code : Schema → (name : List ℕ) → ExprTree → Change
assign_code schema name value s = do
  (kind, t) ← expr_code schema STACK_LIMIT value s
  assign_to schema (local_of t.scope name) kind t

abbrev pub new_of : (name : List ℕ) → (class : Option ℕ) → Change
new_of name None s = Ok (noted Unknown s)
new_of name (Some class) s = do
  t ← put (ops.New class) s
  declare name (kinds.Ref class) t

-- new
unfoldable pub new_code : Schema → (name class : List ℕ) → Change
new_code schema name class s = new_of name (class_named schema class) s

abbrev pub set_by : Result (ℕ × Kind) TextFlaw → Made → Change
set_by (Err flaw) kind s = Ok (noted flaw s)
set_by (Ok slot) kind s = put (ops.Set slot.0) (due kind slot.1 s)

abbrev pub set_in : Schema → (class : Option ℕ) → (slot : List ℕ) → Made → Change
set_in schema None slot kind s = Ok s
set_in schema (Some class) slot kind s = set_by (value_slot schema class slot) kind s

-- set
unfoldable pub set_code : Schema → Variable → (slot : List ℕ) → ExprTree → Change
set_code schema unit slot value s = do
  (class, t) ← unit_code unit STACK_LIMIT s
  (kind, u) ← expr_code schema (STACK_LIMIT - 1) value t
  set_in schema class slot kind u

-- a unit of a class that the link does not point to is a flaw
abbrev pub link_noted : Schema → (to : ℕ) → (other : Option ℕ) → Buffer → Buffer
link_noted schema to None s = s
link_noted schema to (Some class) s = if descends schema class to then s else noted LinkClass s

abbrev pub relinked_by : Schema → LinkChange → Result (ℕ × Link) TextFlaw → (other : Option ℕ) → Change
relinked_by schema change (Err flaw) other s = Ok (noted flaw s)
relinked_by schema change (Ok slot) other s = put (ops.Relink change slot.0) (link_noted schema slot.1.to other s)

abbrev pub relinked_in : Schema → LinkChange → (class : Option ℕ) → (slot : List ℕ) → (other : Option ℕ) → Change
relinked_in schema change None slot other s = Ok s
relinked_in schema change (Some class) slot other s = relinked_by schema change (link_slot schema class slot) other s

-- link, unlink
unfoldable pub relink_code : Schema → LinkChange → Variable → (slot : List ℕ) → Variable → Change
relink_code schema change unit slot other s = do
  (class, t) ← unit_code unit STACK_LIMIT s
  (of, u) ← unit_code other (STACK_LIMIT - 1) t
  relinked_in schema change class slot of u

-- a space that does not admit the unit is a flaw
abbrev pub space_noted : Schema → (space class : ℕ) → Buffer → Buffer
space_noted schema space class s = if allowed schema space class then s else noted Space s

abbrev pub entered : Schema → (class space : Option ℕ) → Change
entered schema (Some class) (Some space) s = put (ops.Enter space) (space_noted schema space class s)
entered schema _ _ s = Ok s

-- enter
unfoldable pub enter_code : Schema → Variable → (space : List ℕ) → Change
enter_code schema unit space s = do
  (class, t) ← unit_code unit STACK_LIMIT s
  entered schema class (space_named schema space) (known (space_named schema space) t)

abbrev pub left_space : (space : Option ℕ) → Change
left_space None s = Ok (noted Unknown s)
left_space (Some space) s = put (ops.Leave space) s

-- leave
unfoldable pub leave_code : Schema → Variable → (space : List ℕ) → Change
leave_code schema unit space s = do
  (class, t) ← unit_code unit STACK_LIMIT s
  left_space (space_named schema space) t

abbrev pub deleted : Schema → (class : Option ℕ) → Change
deleted schema None s = Ok s
deleted schema (Some class) s = do
  t ← put ops.Delete s
  Ok (with_kinds (map (struck schema class) t.scope.kinds) t)

-- delete
unfoldable pub delete_code : Schema → Variable → Change
delete_code schema unit s = do
  (class, t) ← unit_code unit STACK_LIMIT s
  deleted schema class t

-- expressions, in order
unfoldable pub values_code : Schema → (room : ℕ) → List ExprTree → Change
values_code schema room [] s = Ok s
values_code schema room (e ∷ es) s = do
  (kind, t) ← expr_code schema room e s
  values_code schema (room - 1) es t

-- say
unfoldable pub say_code : Schema → List ExprTree → Change
say_code schema values s = do
  t ← values_code schema STACK_LIMIT values s
  if nat_lt SAID_LIMIT (length values) then Ok (noted Limit t) else put (ops.Say (length values)) t

-- an end with a value of a kind
unfoldable pub end_code : Schema → ExprTree → (wanted : Kind) → Op → Change
end_code schema value wanted op s = do
  (kind, t) ← expr_code schema STACK_LIMIT value s
  put op (due kind wanted t)

-- a change of a unit, or a `say`
abbrev pub change_code : Schema → Action → Change
change_code schema (actions.New name class) s = new_code schema name class s
change_code schema (actions.Set unit slot value) s = set_code schema unit slot value s
change_code schema (actions.Link unit slot other) s = relink_code schema changes.Link unit slot other s
change_code schema (actions.Unlink unit slot other) s = relink_code schema changes.Unlink unit slot other s
change_code schema (actions.Enter unit space) s = enter_code schema unit space s
change_code schema (actions.Leave unit space) s = leave_code schema unit space s
change_code schema (actions.Delete unit) s = delete_code schema unit s
change_code schema (actions.Say values) s = say_code schema values s
change_code schema _ s = Ok s

-- a statement without blocks
unfoldable pub action_code : Schema → Part → Action → Change
action_code schema part (actions.Let name value) s = let_code schema name value s
action_code schema part (actions.Assign name value) s = assign_code schema name value s
action_code schema part (actions.Rate value) s = end_code schema value kinds.Int ops.Rate (end_noted (is_ok (ends_rated part)) s)
action_code schema part actions.Decline s = put ops.Decline (end_noted (is_ok (ends_rated part)) s)
action_code schema part (actions.Answer value) s =
    end_code schema value kinds.Bool ops.Answer (end_noted (is_ok (ends_answered part)) s)
action_code schema part action s = change_code schema action (effect_noted part s)
