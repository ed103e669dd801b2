-- The names in scope at a place of a text, with what each of them holds.
use Rattle.std.specs.Prelude.{ℕ, ◌-◌, Bool, List, [], ◌∷◌, ◌++◌, length, take, map, find, Option, Some, None, option_map, option_and_then, codes, if◌then◌else◌}
use Rattle.std.specs.Str.{bytes_eq}
use Rattle.bb_code.specs.declared.parts.TheConstants.{LOCAL_LIMIT}
use Rattle.bb_code.specs.declared.frame.Kind.{Kind}
use Rattle.bb_code.specs.declared.frame.Kind.TheVariants.{Ref, Old}
use Rattle.bb_verify_effect.specs.Kinds.{struck}
use Rattle.bb_schema.specs.Schema.{Schema}
use Rattle.bb_verify_effect.specs.declared.part.Part.{Part}
use Rattle.bb_verify_effect.specs.declared.part.Part.TheVariants.{Require, Obviate, Retrigger, Revalidate, Do}
use Rattle.bb_lang.specs.Variable.{Variable}
use Rattle.bb_compile_scope.specs.Kinds.{class_of}
use Rattle.bb_compile_scope.specs.LocalKinds.{met_kind}
use Rattle.bb_compile_scope.specs.Scope.{name_of}

-- a name, and what it holds
pub record Named : Type 0 where
  pub name : List ℕ
  pub kind : Kind

-- the names, the oldest first, and for how many more there is room
pub record Names : Type 0 where
  pub held : List Named
  pub room : ℕ

-- what a name holds: of two equal names, the older one is meant
abbrev pub kind_named : Names → (name : List ℕ) → Option Kind
kind_named names name = option_map (λ n. n.kind) (find (λ n. bytes_eq n.name name) names.held)

-- what the name of a unit or of a value holds, and the class of its unit
abbrev pub kind_of : Names → Variable → Option Kind
kind_of names v = kind_named names (name_of v)

abbrev pub unit_class : Names → Variable → Option ℕ
unit_class names v = option_and_then class_of (kind_of names v)

-- ---- more names

-- the names and another one, which holds a value of a kind
abbrev pub with_named : (name : List ℕ) → Kind → Names → Names
with_named name kind names = record {
  held = names.held ++ record { name = name; kind = kind } ∷ [];
  room = names.room - 1;
}

-- the names and another one for a live unit, if its class is known
abbrev pub with_unit : (name : List ℕ) → Option ℕ → Names → Names
with_unit name None names = names
with_unit name (Some class) names = with_named name (Ref class) names

-- a loop holds its sequence, so there is room for one name less
abbrev pub holding : Names → Names
holding names = record { held = names.held; room = names.room - 1 }

-- the names that a part begins with: the activation's unit, and the event's
abbrev pub no_name : Names
no_name = record { held = []; room = LOCAL_LIMIT }

abbrev pub of_unit : (class : ℕ) → Names
of_unit class = with_named (codes "it") (Old class) no_name

abbrev pub of_event : (class of : ℕ) → Names
of_event class of = with_named (codes "ev") (Old of) (of_unit class)

abbrev pub begin_with : Part → Names
begin_with (Require class) = of_unit class
begin_with (Obviate class of) = of_event class of
begin_with (Retrigger class of) = of_event class of
begin_with (Revalidate class) = of_unit class
begin_with (Do class) = of_unit class

-- ---- what names hold from now on

-- the oldest name with this text holds a value of this kind
abbrev pub held_with : (name : List ℕ) → Kind → List Named → List Named
held_with name kind [] = []
held_with name kind (n ∷ ns) =
    if bytes_eq n.name name then record { name = n.name; kind = kind } ∷ ns else n ∷ held_with name kind ns

abbrev pub with_kind : (name : List ℕ) → Kind → Names → Names
with_kind name kind names = record { held = held_with name kind names.held; room = names.room }

-- a unit of a class is deleted
abbrev pub struck_name : Schema → (class : ℕ) → Named → Named
struck_name s class n = record { name = n.name; kind = struck s class n.kind }

abbrev pub struck_names : Schema → (class : ℕ) → Names → Names
struck_names s class names = record { held = map (struck_name s class) names.held; room = names.room }

-- ---- blocks

-- the names after a block: those declared in it are removed
abbrev pub back_to : (before after : Names) → Names
back_to before after = record { held = take (length before.held) after.held; room = before.room }

-- where two branches meet, a unit is live if it is live after both
abbrev pub held_met : (other one : List Named) → List Named
held_met (m ∷ ms) (n ∷ ns) = record { name = n.name; kind = met_kind m.kind n.kind } ∷ held_met ms ns
held_met _ _ = []

abbrev pub names_met : (other one : Names) → Names
names_met other one = record { held = held_met other.held one.held; room = one.room }

-- what is known after one branch and another; a branch that has ended does not count
abbrev pub joined : (ended : Bool) → (other : Names) → (other_ended : Bool) → (one : Names) → Names
joined ended other other_ended one =
    if ended then other else if other_ended then one else names_met other one
