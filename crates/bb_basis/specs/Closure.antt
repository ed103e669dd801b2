-- The numbers that are reached from a number step by step, by a relation that leads from numbers to others.
use Rattle.std.specs.Prelude.{ℕ, Bool, ◌==◌, ◌||◌, List, length, filter}
use Rattle.std.specs.List.{list_any}
use Rattle.std.specs.Fn.{iterate}

-- whether a number was found, or a found number leads to it
abbrev pub is_reached : (leads : ℕ → ℕ → Bool) → (found : List ℕ) → ℕ → Bool
is_reached leads found n = list_any (λ m. m == n || leads m n) found

-- of all these numbers, those found and those that a found number leads to
abbrev pub grown : (leads : ℕ → ℕ → Bool) → (all found : List ℕ) → List ℕ
grown leads all found = filter (is_reached leads found) all

-- of all these numbers, the least set that has the first and, for each of its members, all that the member leads to;
-- n steps find all of n numbers
unfoldable pub closure : (leads : ℕ → ℕ → Bool) → (all : List ℕ) → (first : ℕ) → List ℕ
closure leads all first = iterate (grown leads all) (length all) (filter (λ n. n == first) all)
