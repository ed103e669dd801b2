-- Tests for a class that never hold.
use Rattle.std.specs.Prelude.{ℕ, Bool, false, not, ◌||◌, Option, Some, None, slice_get, Result, Ok, Err}
use Rattle.std.specs.Option.{option_map_or}
use Rattle.bb_schema.specs.Schema.{Schema, descends}
use Rattle.bb_code.specs.declared.frame.Kind.{Kind}
use Rattle.bb_code.specs.declared.frame.Kind.TheVariants as kinds
use Rattle.bb_code.specs.declared.op.Op.{Op}
use Rattle.bb_code.specs.declared.op.Op.TheVariants as ops
use Rattle.bb_code.specs.declared.flaw.Flaw.{Flaw}
use Rattle.bb_verify.specs.FrameType.{Frame}
use Rattle.bb_verify.specs.Frame.{pop}
use Rattle.bb_verify.specs.Accepted.{Checked}

-- one of the classes descends from the other
abbrev pub related : Schema → ℕ → ℕ → Bool
related s c d = descends s c d || descends s d c

-- the class of an entry that is a unit
abbrev pub unit_class : Kind → Option ℕ
unit_class (kinds.Ref class) = Some class
unit_class (kinds.Old class) = Some class
unit_class _ = None

-- the class of what was popped, if it is a unit
abbrev pub class_popped : Result (Kind × Frame) Flaw → Option ℕ
class_popped (Ok popped) = unit_class popped.0
class_popped (Err flaw) = None

-- the class of the newest entry, if it is a unit
abbrev pub held_class : Frame → Option ℕ
held_class f = class_popped (pop f)

-- the op tests a unit for a class that is not related to the unit's own
abbrev pub is_vain_test : Schema → Frame → Op → Bool
is_vain_test s f (ops.As class target) = option_map_or (λ held. not (related s held class)) (held_class f) false
is_vain_test s f _ = false

-- the op at an index tests a unit for a class that is not related to its own, by the frame there
abbrev pub is_vain_at : Schema → Checked → ℕ → Op → Bool
is_vain_at s c place (ops.As class target) =
    option_map_or (λ f. is_vain_test s f (ops.As class target)) (slice_get c.frames place) false
is_vain_at s c place _ = false
