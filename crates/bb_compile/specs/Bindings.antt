-- What a `with` tests and declares.
use Rattle.std.specs.Prelude.{ℕ, Bool, false, ◌==◌, ◌&&◌, not, List, length, Option, Some, None, Result, Ok, Err, if◌then◌else◌}
use Rattle.bb_basis.specs.Results.{◌>>=◌}
use Rattle.bb_code.specs.declared.parts.TheConstants.{STACK_LIMIT}
use Rattle.bb_code.specs.declared.frame.Kind.{Kind}
use Rattle.bb_code.specs.declared.frame.Kind.TheVariants.{Ref}
use Rattle.bb_code.specs.declared.op.Op.TheVariants.{Alive, As, One}
use Rattle.bb_schema.specs.Schema.{Schema, class_named, descends}
use Rattle.bb_lang.specs.Variable.{Variable}
use Rattle.bb_lang.specs.Binding.{Binding}
use Rattle.bb_lang.specs.Binding.TheVariants as bindings
use Rattle.bb_compile_scope.specs.declared.fault.TextFlaw.{TextFlaw}
use Rattle.bb_compile_scope.specs.declared.fault.TextFlaw.TheVariants.{Unknown, Kind as WrongKind}
use Rattle.bb_compile_scope.specs.Kinds.{class_of, is_live}
use Rattle.bb_compile_scope.specs.Slots.{partner_slot}
use Rattle.bb_compile.specs.declared.exits.Exits.{Exits}
use Rattle.bb_compile_buffer.specs.declared.buffer.Buffer.{Buffer}
use Rattle.bb_compile_buffer.specs.Buffers.{Step, Change, noted, known, put, aim, declare}
use Rattle.bb_compile_buffer.specs.Operations.{Made}
use Rattle.bb_compile_buffer.specs.Atoms.{variable_code, unit_code}

-- the exits of a test with one op that jumps if the test fails
abbrev pub one_exit : (first : ℕ) → Exits
one_exit first = record { first = first; second = None }

abbrev pub second_aimed : Option ℕ → Buffer → Buffer
second_aimed None s = s
second_aimed (Some at) s = aim at s

-- the exits of a test get the place of the next op as their target
abbrev pub exits_aimed : Exits → Buffer → Buffer
exits_aimed exits s = second_aimed exits.second (aim exits.first s)

-- a unit of class `own` may be tested to be of another: it must be `own` or descend from it, and differ if the unit is
-- live
abbrev pub tells_more : Schema → (live : Bool) → (own class : ℕ) → Bool
tells_more schema live own class = descends schema class own && not (live && (class == own))

abbrev pub is_test_of : Schema → (live : Bool) → (own : Option ℕ) → (class : ℕ) → Bool
is_test_of schema live None class = false
is_test_of schema live (Some own) class = tells_more schema live own class

abbrev pub is_test : Schema → (held : Kind) → (class : ℕ) → Bool
is_test schema held class = is_test_of schema (is_live held) (class_of held) class

abbrev pub is_class : Option ℕ → (class : ℕ) → Bool
is_class None class = false
is_class (Some own) class = own == class

-- the test that a live unit is of a class
unfoldable pub as_code : (class : ℕ) → Step Exits
as_code class s = do
  t ← put (As class 0) s
  Ok (one_exit (length s.ops), t)

abbrev pub alive_and_as : (first class : ℕ) → Step Exits
alive_and_as first class s = do
  t ← put (As class 0) s
  Ok (record { first = first; second = Some (length s.ops) }, t)

-- the test that a unit, which may be deleted, is live, and of a class
unfoldable pub alive_code : (same : Bool) → (class : ℕ) → Step Exits
alive_code same class s = do
  t ← put (Alive 0) s
  if same then Ok (one_exit (length s.ops), t) else alive_and_as (length s.ops) class t

-- the test that a unit is live and of a class
abbrev pub test_code : (held : Kind) → (class : ℕ) → Step Exits
test_code held class s =
    if is_live held then as_code class s else alive_code (is_class (class_of held) class) class s

-- a name for a unit that passes the test for a class
abbrev pub bound_as : Schema → (name : List ℕ) → (held : Kind) → (class : ℕ) → Step (Option Exits)
bound_as schema name held class s =
    if is_test schema held class
    then (do
      (exits, t) ← test_code held class s
      u ← declare name (Ref class) t
      Ok (Some exits, u))
    else Ok (None, noted WrongKind s)

abbrev pub as_named : Schema → (name : List ℕ) → Made → (class : Option ℕ) → Step (Option Exits)
as_named schema name (Some held) (Some class) s = bound_as schema name held class s
as_named schema name _ _ s = Ok (None, s)

-- name = unit as class
unfoldable pub with_as : Schema → (name : List ℕ) → Variable → (class : List ℕ) → Step (Option Exits)
with_as schema name unit class s = do
  (held, t) ← variable_code unit STACK_LIMIT s
  as_named schema name held (class_named schema class) (known (class_named schema class) t)

abbrev pub partner_by : (name : List ℕ) → Result (ℕ × ℕ) TextFlaw → Step (Option Exits)
partner_by name (Err flaw) s = Ok (None, noted flaw s)
partner_by name (Ok slot) s = do
  t ← put (One slot.0 0) s
  u ← declare name (Ref slot.1) t
  Ok (Some (one_exit (length s.ops)), u)

abbrev pub partner_in : Schema → (name slot : List ℕ) → (class : Option ℕ) → Step (Option Exits)
partner_in schema name slot None s = Ok (None, s)
partner_in schema name slot (Some class) s = partner_by name (partner_slot schema class slot) s

-- name = unit.slot
unfoldable pub with_partner : Schema → (name : List ℕ) → Variable → (slot : List ℕ) → Step (Option Exits)
with_partner schema name unit slot s = do
  (class, t) ← unit_code unit STACK_LIMIT s
  partner_in schema name slot class t

abbrev pub binding_code : Schema → Binding → Step (Option Exits)
binding_code schema (bindings.As name unit class) = with_as schema name unit class
binding_code schema (bindings.Linked name unit slot) = with_partner schema name unit slot
