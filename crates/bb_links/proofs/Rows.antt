-- Worked rows, computed on the definitions.
use Rattle.std.proofs.Common.{◌≡◌, ℕ, true, false, List, [], ◌∷◌, Some, None, refl}
use Rattle.bb_schema.specs.declared.couple.Side.TheVariants.{A, B}
use Rattle.bb_links.specs.declared.couple.Singular.{Singular}
use Rattle.bb_links.specs.Pairs.{has_pair, without_pair, without_unit, taken_among, with_link}
use Rattle.bb_links.specs.Links.{partners}

one_to_one : Singular
one_to_one = record { a = true; b = true }

many_to_one : Singular
many_to_one = record { a = false; b = true }

many_to_many : Singular
many_to_many = record { a = false; b = false }

two : List (ℕ × ℕ)
two = (1, 2) ∷ (3, 4) ∷ []

-- the old pairs of both units go
link_displaces_both : with_link one_to_one 1 4 two ≡ (1, 4) ∷ []
unfolding one_to_one two
link_displaces_both = refl

link_displaces_both-taken : taken_among one_to_one 1 4 two ≡ record { first = Some (1, 2); second = Some (3, 4); added = true }
unfolding one_to_one two
link_displaces_both-taken = refl

-- a pair that is there, and one that is not
links_that_change_nothing : with_link one_to_one 1 4 ((1, 4) ∷ []) ≡ (1, 4) ∷ []
unfolding one_to_one
links_that_change_nothing = refl

links_that_change_nothing-taken : taken_among one_to_one 1 4 ((1, 4) ∷ []) ≡ record { first = None; second = None; added = false }
unfolding one_to_one
links_that_change_nothing-taken = refl

links_that_change_nothing-without : without_pair (2, 3) ((1, 4) ∷ []) ≡ (1, 4) ∷ []
links_that_change_nothing-without = refl

links_that_change_nothing-was : has_pair (2, 3) ((1, 4) ∷ []) ≡ false
links_that_change_nothing-was = refl

-- a unit is linked to itself, where both sides are singular, one is, and neither
itself_one_to_one : with_link one_to_one 1 1 ((1, 2) ∷ (3, 1) ∷ []) ≡ (1, 1) ∷ []
unfolding one_to_one
itself_one_to_one = refl

itself_many_to_one : with_link many_to_one 1 1 ((1, 2) ∷ (3, 1) ∷ []) ≡ (1, 2) ∷ (1, 1) ∷ []
unfolding many_to_one
itself_many_to_one = refl

itself_many_to_many : with_link many_to_many 1 1 ((1, 2) ∷ (3, 1) ∷ []) ≡ (1, 2) ∷ (3, 1) ∷ (1, 1) ∷ []
unfolding many_to_many
itself_many_to_many = refl

-- the links of a unit from either side
links_from_a : partners A 1 ((1, 2) ∷ (3, 1) ∷ (1, 1) ∷ []) ≡ 2 ∷ 1 ∷ []
links_from_a = refl

links_from_b : partners B 1 ((1, 2) ∷ (3, 1) ∷ (1, 1) ∷ []) ≡ 3 ∷ 1 ∷ []
links_from_b = refl

-- a unit that is linked to itself and to others is forgotten
forgotten_at_both_sides : without_unit 1 ((1, 2) ∷ (3, 1) ∷ (3, 2) ∷ (1, 1) ∷ []) ≡ (3, 2) ∷ []
forgotten_at_both_sides = refl
