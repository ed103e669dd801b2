-- The pairs of one couple of link slots, in order of addition, and every change of them (GBBopen Reference Manual, link
-- slots).
use Rattle.std.specs.Prelude.{ℕ, Bool, true, false, ◌==◌, ◌&&◌, ◌||◌, not, List, ◌∷◌, [], ◌++◌, filter, find, Option, Some, None, if◌then◌else◌}
use Rattle.std.specs.List.{list_any}
use Rattle.bb_schema.specs.declared.couple.Side.{Side}
use Rattle.bb_schema.specs.declared.couple.Side.TheVariants.{A, B}
use Rattle.bb_links.specs.declared.taken.Taken.{Taken}
use Rattle.bb_links.specs.declared.couple.Singular.{Singular}

-- the unit of a pair at a side
abbrev pub near : Side → ℕ × ℕ → ℕ
near A p = p.0
near B p = p.1

-- the partner of the unit of a pair at a side
abbrev pub far : Side → ℕ × ℕ → ℕ
far A p = p.1
far B p = p.0

-- whether two pairs are the same
abbrev pub same_pair : ℕ × ℕ → ℕ × ℕ → Bool
same_pair p q = q.0 == p.0 && q.1 == p.1

-- whether the pair exists
abbrev pub has_pair : ℕ × ℕ → List (ℕ × ℕ) → Bool
has_pair p pairs = list_any (same_pair p) pairs

-- the pairs without one
abbrev pub without_pair : ℕ × ℕ → List (ℕ × ℕ) → List (ℕ × ℕ)
without_pair p pairs = filter (λ q. not (same_pair p q)) pairs

-- the pairs without the pairs of a unit
abbrev pub without_unit : ℕ → List (ℕ × ℕ) → List (ℕ × ℕ)
without_unit n pairs = filter (λ p. not (p.0 == n || p.1 == n)) pairs

-- whether a unit has at most one partner at a side
abbrev pub is_singular : Singular → Side → Bool
is_singular s A = s.a
is_singular s B = s.b

-- the pair of a unit at a side, if the side is singular
abbrev pub old_pair : Singular → Side → ℕ → List (ℕ × ℕ) → Option (ℕ × ℕ)
old_pair s side n pairs = if is_singular s side then find (λ p. near side p == n) pairs else None

-- the pairs without an old one, if there is one
abbrev pub without_old : Option (ℕ × ℕ) → List (ℕ × ℕ) → List (ℕ × ℕ)
without_old None pairs = pairs
without_old (Some p) pairs = without_pair p pairs

-- what a link of two units removes, and whether it adds their pair
abbrev pub taken_among : Singular → ℕ → ℕ → List (ℕ × ℕ) → Taken
taken_among s a b pairs =
    if has_pair (a, b) pairs then record { first = None; second = None; added = false }
    else record { first = old_pair s A a pairs; second = old_pair s B b pairs; added = true }

-- the pairs after a link: unchanged if the pair exists; else without the units' old pairs, and with the new one last
abbrev pub with_link : Singular → ℕ → ℕ → List (ℕ × ℕ) → List (ℕ × ℕ)
with_link s a b pairs =
    if has_pair (a, b) pairs then pairs
    else without_old (old_pair s B b pairs) (without_old (old_pair s A a pairs) pairs) ++ (a, b) ∷ []
