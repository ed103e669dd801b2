-- What follows from the kinds of values (this project's own).
use Rattle.std.specs.Prelude.{ℕ, Bool, true, false, ◌&&◌, Option, Some, None, is_some, option_and_then, if◌then◌else◌}
use Rattle.bb_schema.specs.Schema.{Schema, descends}
use Rattle.bb_code.specs.declared.frame.Kind.{Kind}
use Rattle.bb_code.specs.declared.frame.Kind.TheVariants.{Int, Text, Label, Ref, Old}
use Rattle.bb_verify_effect.specs.Kinds.{is_same_plain}
use Rattle.bb_code.specs.declared.op.Op.{Op}
use Rattle.bb_code.specs.declared.op.Op.TheVariants.{Compare, EqText, EqLabel, EqUnit}
use Rattle.bb_code.specs.declared.op.Comparison.TheVariants.{EqInt}

-- the class of a unit, if the kind is a unit's
abbrev pub class_of : Kind → Option ℕ
class_of (Ref class) = Some class
class_of (Old class) = Some class
class_of _ = None

-- the kind is a live unit's
abbrev pub is_live : Kind → Bool
is_live (Ref class) = true
is_live _ = false

-- a unit of a class: live, or perhaps deleted
abbrev pub unit_of : (live : Bool) → (class : ℕ) → Kind
unit_of live class = if live then Ref class else Old class

-- the op that compares two values of one kind that are not units
abbrev pub plain_equality : Kind → Option Op
plain_equality Int = Some (Compare EqInt)
plain_equality Text = Some EqText
plain_equality (Label set) = Some EqLabel
plain_equality _ = None

-- the op that tests whether two values are equal: numbers, texts, labels of one set, or units
unfoldable pub equality : Kind → Kind → Option Op
equality left right =
    if is_some (class_of left) && is_some (class_of right) then Some EqUnit
    else if is_same_plain left right then plain_equality left
    else None

-- what a name of a class holds after a unit of another class is assigned to it
unfoldable pub assigned_unit : Schema → (class other : ℕ) → (live : Bool) → Option Kind
assigned_unit s class other live = if descends s other class then Some (unit_of live class) else None

-- what a name holds after a value is assigned to it, if it may be: both are of one kind, or are units and the value's
-- class descends from the name's
unfoldable pub assigned : Schema → (held value : Kind) → Option Kind
assigned s held value =
    if is_same_plain held value then Some held
    else option_and_then (λ class. option_and_then (λ other. assigned_unit s class other (is_live value)) (class_of value))
    (class_of held)
