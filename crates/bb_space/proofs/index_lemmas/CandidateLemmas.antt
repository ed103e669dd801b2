-- What passes a test is among the values that can.
use Rattle.std.proofs.Common.{◌≡◌, ℤ, Bool, true, false, cond, int_le, int_lt, List, Option, Some, None, refl, arith, slice_get}
use Rattle.std.specs.Option.{option_map_or}
use Rattle.std.proofs.lemmas.Bool.{and_parts, and_from}
use Rattle.std.proofs.lemmas.Int.{ints}
use Rattle.bb_pattern.specs.declared.pattern.Relation.{Relation}
use Rattle.bb_pattern.specs.declared.pattern.Relation.TheVariants.{Within, Covers, Overlaps, Less, More}
use Rattle.bb_pattern.specs.declared.value.DimValue.{DimValue}
use Rattle.bb_pattern.specs.declared.value.DimValue.TheVariants.{Interval, Label}
use Rattle.bb_pattern.specs.Holds.{relates}
use Rattle.bb_space.specs.declared.index.leaf.Leaf.{Leaf}
use Rattle.bb_space.specs.declared.index.leaf.Leaf.TheVariants.{Ordered, Is}
use Rattle.bb_space.specs.index.Leaf.{related, labelled, fits_leaf}
use Rattle.bb_space.specs.index.Candidates.{reaches, may_pass, dim_of}

reach : (r : Relation) (from to low high : ℤ) → int_le from to ≡ true → relates r from to low high ≡ true → reaches r from low high ≡ true
reach Within from to low high le h =
    let parts = and_parts (int_le low from) (int_le to high) h in
    let last : int_le from high ≡ true = up_to from to high le parts.1 in
    and_from (int_le low from) (int_le from high) parts.0 last
  where
    up_to : (a b c : ℤ) → int_le a b ≡ true → int_le b c ≡ true → int_le a c ≡ true
    up_to a b c one other = grind (arith, ints)
reach Covers from to low high le h = (and_parts (int_le from low) (int_le high to) h).0
reach Overlaps from to low high le h = (and_parts (int_le from high) (int_le low to) h).0
reach Less from to low high le h = below from to low le h
  where
    below : (a b c : ℤ) → int_le a b ≡ true → int_lt b c ≡ true → int_lt a c ≡ true
    below a b c one other = grind (arith, ints)
reach More from to low high le h = h

pub passing : (leaf : Leaf) (values : List DimValue) → fits_leaf leaf values ≡ true → option_map_or (may_pass leaf) (slice_get values (dim_of leaf)) false ≡ true
unfolding fits_leaf
passing (Ordered relation dim low high) values fits = at (slice_get values dim) fits
  where
    by : (from to : ℤ) (b : Bool) → int_le from to ≡ b → related relation low high (Some (Interval from to)) ≡ true → cond b (reaches relation from low high) true ≡ true
    by from to true le h = reach relation from to low high le h
    by from to false le h = refl

    at : (o : Option DimValue) → related relation low high o ≡ true → option_map_or (may_pass (Ordered relation dim low high)) o false ≡ true
    at None h = absurd cc
    at (Some (Interval from to)) h = by from to (int_le from to) refl h
    at (Some (Label set label)) h = absurd cc
passing (Is dim set label) values fits = at (slice_get values dim) fits
  where
    at : (o : Option DimValue) → labelled set label o ≡ true → option_map_or (may_pass (Is dim set label)) o false ≡ true
    at None h = absurd cc
    at (Some (Interval from to)) h = absurd cc
    at (Some (Label of other)) h = h
