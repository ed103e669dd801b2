-- Worked rows, computed on the definitions: a unit's interval and an operand's that touch, lie inside each other or apart.
use Rattle.std.specs.Prelude.{pos, negsuc}
use Rattle.std.proofs.Common.{◌≡◌, true, false, refl}
use Rattle.bb_pattern.specs.declared.pattern.Relation.TheVariants.{Within, Covers, Overlaps, Less, More}
use Rattle.bb_pattern.specs.Holds.{relates}

-- a unit at [1, 3]
ends_touch : relates Overlaps (pos 1) (pos 3) (pos 3) (pos 3) ≡ true
ends_touch = refl

starts_touch : relates Overlaps (pos 1) (pos 3) (pos 0) (pos 1) ≡ true
starts_touch = refl

apart : relates Overlaps (pos 1) (pos 3) (pos 4) (pos 9) ≡ false
apart = refl

within_itself : relates Within (pos 1) (pos 3) (pos 1) (pos 3) ≡ true
within_itself = refl

not_within_a_part : relates Within (pos 1) (pos 3) (pos 2) (pos 3) ≡ false
not_within_a_part = refl

covers_its_end : relates Covers (pos 1) (pos 3) (pos 2) (pos 3) ≡ true
covers_its_end = refl

covers_no_more : relates Covers (pos 1) (pos 3) (pos 2) (pos 4) ≡ false
covers_no_more = refl

less : relates Less (pos 1) (pos 3) (pos 4) (pos 4) ≡ true
less = refl

not_less_where_ends_touch : relates Less (pos 1) (pos 3) (pos 3) (pos 9) ≡ false
not_less_where_ends_touch = refl

more : relates More (pos 1) (pos 3) (pos 0) (pos 0) ≡ true
more = refl

not_more_where_ends_touch : relates More (pos 1) (pos 3) (pos 0) (pos 1) ≡ false
not_more_where_ends_touch = refl

-- a unit at the whole range of an integer
whole_range : relates Within (negsuc 9223372036854775807) (pos 9223372036854775807) (negsuc 9223372036854775807)
    (pos 9223372036854775807) ≡ true
whole_range = refl

none_below : relates More (negsuc 9223372036854775807) (pos 9223372036854775807) (negsuc 9223372036854775807)
    (negsuc 9223372036854775807) ≡ false
none_below = refl
