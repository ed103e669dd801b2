-- Units in a list.
use Rattle.std.specs.Prelude.{ℕ, Bool, ◌==◌, List}
use Rattle.std.specs.List.{list_any}

-- whether the unit is in a list
abbrev pub is_among : ℕ → List ℕ → Bool
is_among n list = list_any (λ m. m == n) list
