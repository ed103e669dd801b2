-- Which kinds and frames are allowed where others are declared, and what is known of a kind after a deletion (of this
-- project).
use Rattle.std.specs.Prelude.{ℕ, Bool, true, false, ◌==◌, ◌&&◌, if◌then◌else◌}
use Rattle.std.specs.Cmp.Lexicographic.{pointwise}
use Rattle.bb_schema.specs.Ownership.{strikes}
use Rattle.bb_schema.specs.Schema.{Schema, descends}
use Rattle.bb_code.specs.declared.frame.Kind.{Kind}
use Rattle.bb_code.specs.declared.frame.Kind.TheVariants.{Any, Int, Text, Bool as Truth, Label, Interval, Ref, Old, Seq}
use Rattle.bb_verify_effect.specs.declared.frame.Frame.{Frame}

-- two kinds are equal and neither units nor sequences
abbrev pub is_same_plain : Kind → Kind → Bool
is_same_plain Int Int = true
is_same_plain Text Text = true
is_same_plain Truth Truth = true
is_same_plain (Label set) (Label other) = set == other
is_same_plain Interval Interval = true
is_same_plain _ _ = false

-- an entry of the stack of the first kind is allowed where the second kind is declared
unfoldable pub weakens : Schema → Kind → Kind → Bool
weakens s (Ref class) (Ref ancestor) = descends s class ancestor
weakens s (Ref class) (Old ancestor) = descends s class ancestor
weakens s (Old class) (Old ancestor) = descends s class ancestor
weakens s (Seq class) (Seq ancestor) = descends s class ancestor
weakens s k declared = is_same_plain k declared

-- a local of the first kind is allowed where the second kind is declared, which may be `Any`
unfoldable pub weakens_local : Schema → Kind → Kind → Bool
weakens_local s k Any = true
weakens_local s k declared = weakens s k declared

-- a frame is allowed where another is declared: all its locals and all entries of its stack are
unfoldable pub frame_weakens : Schema → Frame → Frame → Bool
frame_weakens s f declared =
    pointwise (weakens_local s) f.locals declared.locals && pointwise (weakens s) f.stack declared.stack

-- ---- after a deletion

-- what is known of a local or an entry of the stack after a unit of class `deleted` was deleted
unfoldable pub struck : Schema → ℕ → Kind → Kind
struck s deleted (Ref class) = if strikes s deleted class then Old class else Ref class
struck s deleted k = k
