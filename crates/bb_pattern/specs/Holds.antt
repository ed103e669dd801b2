-- Whether a unit satisfies a pattern.
use Rattle.std.specs.Prelude.{ℤ, Bool, true, false, not, ◌&&◌, ◌||◌, ◌==◌, int_le, int_lt, List, Option, Some, slice_get}
use Rattle.bb_pattern.specs.declared.pattern.Relation.{Relation}
use Rattle.bb_pattern.specs.declared.pattern.Relation.TheVariants.{Within, Covers, Overlaps, Less, More}
use Rattle.bb_pattern.specs.declared.value.DimValue.{DimValue}
use Rattle.bb_pattern.specs.declared.value.DimValue.TheVariants.{Interval, Label}
use Rattle.bb_pattern.specs.Trees.{Tree, Trees, all, and_of, or_of, not_of, ordered, is_label, no_more, more}

-- whether a unit's [low, high] is in the relation to an operand's [first, last]
abbrev pub relates : Relation → ℤ → ℤ → ℤ → ℤ → Bool
relates Within low high first last = int_le first low && int_le high last
relates Covers low high first last = int_le low first && int_le last high
relates Overlaps low high first last = int_le low last && int_le first high
relates Less low high first last = int_lt high first
relates More low high first last = int_lt last low

-- whether the value of a unit on a dimension is in the relation to an operand; both must exist and be intervals
abbrev pub ordered_holds : Relation → Option DimValue → Option DimValue → Bool
ordered_holds relation (Some (Interval low high)) (Some (Interval first last)) = relates relation low high first last
ordered_holds relation _ _ = false

-- whether the value of a unit on a dimension equals an operand; both must exist and be labels
abbrev pub is_holds : Option DimValue → Option DimValue → Bool
is_holds (Some (Label set label)) (Some (Label of other)) = (set == of) && (label == other)
is_holds _ _ = false

-- whether a pattern with these operands holds of a unit with these values, one for each dimension in order
unfoldable mutual
  pub holds : List DimValue → List DimValue → Tree → Bool
  holds operands values all = true
  holds operands values (and_of ps) = holds_each operands values ps
  holds operands values (or_of ps) = holds_some operands values ps
  holds operands values (not_of p) = not (holds operands values p)
  holds operands values (ordered relation dim operand) =
      ordered_holds relation (slice_get values dim) (slice_get operands operand)
  holds operands values (is_label dim operand) = is_holds (slice_get values dim) (slice_get operands operand)

  pub holds_each : List DimValue → List DimValue → Trees → Bool
  holds_each operands values no_more = true
  holds_each operands values (more p ps) = holds operands values p && holds_each operands values ps

  pub holds_some : List DimValue → List DimValue → Trees → Bool
  holds_some operands values no_more = false
  holds_some operands values (more p ps) = holds operands values p || holds_some operands values ps
