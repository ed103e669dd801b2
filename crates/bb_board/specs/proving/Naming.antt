-- Units by name, as the code keeps them.
use Rattle.std.specs.Prelude.{ℕ, List, map, string_bytes, String}

-- each name as its bytes
abbrev pub named : {Y : Type 0} → List (String Y × ℕ) → List (List ℕ × ℕ)
named entries = map (λ e. (string_bytes e.0, e.1)) entries
